-- Whom a leap charges: under lock nobody, while its turn goes on the thread that runs, and by whole rounds each thread of the rank that runs as
-- many turns, since its due comes round; who is not of that rank runs in none of the ticks. Assumes nothing.
use Rattle.std.specs.Prelude.{if◌then◌else◌}
use mathlib.Core.Bool.{Bool, false, not}
use mathlib.Core.Path.{◌≡◌, refl, ap, sym, ◌∙◌}
use mathlib.Core.List.{map}
use mathlib.Core.Logic.{◌≢◌}
use Prim.Native.Nat.{ℕ, zero, suc, pred, ◌*◌, ◌/◌, ◌-◌, ◌≤◌, ◌<◌, min}
use native.Mathlib.Omega.{arith}
use lib.Dec.{eqb, leb}
use borrow.Author.Tests.{eqb-true, eqb-false, leb-true, leb-false, not-true, not-false, eq-eqb, ne_eqb}
use Rattle.rules.specs.Basic.{count}
use Rattle.rules.specs.State.{State, at, caller, counter_of}
use Rattle.rules.specs.Lines.{ready, same}
use Rattle.rules.specs.Sound.{Sound}
use Rattle.rules.specs.Time.{do_tick}
use Rattle.rules.specs.Sleep.{ticks}
use Rattle.laws.proofs.Split.{is, isnt, test, clash, if_case}
use Rattle.laws.proofs.Lines.{in_ready, line_counter}
use Rattle.laws.proofs.Members.{map_at}
use Rattle.preservation.proofs.Frame.{ticks_lock}
use Rattle.fairness.specs.Run.{Event, ready_at, sum_turns, charged_to}
use Rattle.leaps.specs.Ticks.{later, Quiet, passed, ran, quiet_of, Leap, tick_of, locked_of, rounds_of, turn_of, leap_unlocked, leap}
use Rattle.leaps.specs.Charges.{tick_event, tick_events, turns_at, share, charges_of, Charges}
use Rattle.leaps.proofs.Passing.{later_field}
use Rattle.leaps.proofs.Leap.{quiet_sooner, running_ticks}
use Rattle.leaps.proofs.Turned.{same_in, turned}
use Rattle.leaps.proofs.Rounds.{round_charges}
use Rattle.leaps.proofs.Leaps.{quiet_of_lem, rounds_some, rounds_most, round_some}

-- TICKS THAT ARE ALIKE

-- where every tick passes a test, or none does
count_alike : (f : Event → Bool) (b : Bool) (n : ℕ) (s : State) → ((m : ℕ) → m < n → f (tick_event (ticks m s)) ≡ b) → count f (tick_events n s) ≡ (if b then n else 0)
unfolding tick_events ticks
count_alike f b zero s h = sym (if_case (λ (k : ℕ). k ≡ 0) b (λ e. refl) (λ e. refl))
count_alike f b (suc n) s h =
    let first = h 0 (omega arith) in
    let rest = count_alike f b n (do_tick s).state (λ m k. h (suc m) (omega arith)) in
    elim (test b) [
      | is e ↦ rw (first, e) (omega (arith, rw e at rest))
      | isnt e ↦ rw (first, e) (omega (arith, rw e at rest))
    ]

-- EACH KIND OF LEAP

-- some ticks by whole rounds are some rounds
some_rounds : (k R : ℕ) → 1 ≤ k * R → 1 ≤ k
some_rounds zero R h = absurd (omega arith)
some_rounds (suc k) R h = omega arith

-- a leap from s charges whom it is said to
Told : State → ℕ → Leap → Type 0
Told s i l = count (charged_to i) (tick_events l.far s) ≡ charges_of s l i

module _ (s : State) (i : ℕ) where
  tick_told : Told s i (tick_of s)
  unfolding Told tick_events share
  tick_told = elim (test (eqb s.lock 0)) [
    | isnt z ↦ rw z
    | is z ↦ rw z (elim (test (eqb s.running i)) [ is e ↦ rw e | isnt e ↦ rw e ])
  ]

  locked_told : s.lock ≢ 0 → (m : ℕ) → Told s i (locked_of m s)
  unfolding Told share
  locked_told z m = rw (ne_eqb s.lock 0 z) (count_alike (charged_to i) false m s (λ k h. rw (ticks_lock k s, ne_eqb s.lock 0 z)))

  module _ (σ : Sound s) (z : s.lock ≡ 0) where
    turn_told : (m : ℕ) → m < counter_of (caller s).wait → Quiet m s.threads → Told s i (turn_of m s)
    unfolding Told share ran
    turn_told m h q = rw (eq-eqb s.lock 0 z) (count_alike (charged_to i) (eqb s.running i) m s (λ k l.
        rw (running_ticks k s σ z (omega arith) (quiet_sooner k m s.threads (omega arith) q), eq-eqb s.lock 0 z)))

    -- of whole rounds none is charged to a thread of another rank
    others : (n : ℕ) → Quiet n s.threads → ready_at (caller s).priority s i ≡ false → count (charged_to i) (tick_events n s) ≡ 0
    others n q o = count_alike (charged_to i) false n s (λ k l.
        let p = (caller s).priority in
        let a = turned p k s σ z ((in_ready p (caller s)).1 (σ.runs, refl)) (quiet_sooner k n s.threads (omega arith) q) in
        rw (eq-eqb (ticks k s).lock 0 a.lock) (ne_eqb (ticks k s).running i (λ e. clash (rw e at a.rank) (same_in p s.threads (ticks k s).threads a.body i ∙ o))))

    rounds_told : (k R : ℕ) → 1 ≤ k → R ≡ sum_turns (caller s).priority s.threads → Quiet (k * R) s.threads → Told s i (rounds_of k R s)
    unfolding Told share
    rounds_told k R h e q = rw (eq-eqb s.lock 0 z, ne_eqb k 0 (omega arith)) (elim (test (ready_at (caller s).priority s i)) [
      | is m ↦ rw (m, e) (round_charges k s σ z (rw e at q) i m)
      | isnt m ↦ rw m (others (k * R) q m)
    ])

    unlocked_told : (q : ℕ) → 1 ≤ q → Quiet q s.threads → Told s i (leap_unlocked q s)
    unfolding leap_unlocked
    unlocked_told q h l =
        let R = sum_turns (caller s).priority s.threads in
        let left = counter_of (caller s).wait in
        let some = round_some s σ in
        if_case (Told s i) (leb R q)
        (λ c. rounds_told (q / R) R (some_rounds (q / R) R (rounds_some q R some (leb-true R q c))) refl (quiet_sooner (q / R * R) q s.threads (rounds_most q R some) l)) (λ c.
        if_case (Told s i) (leb left 1) (λ d. tick_told) (λ d.
        turn_told (min q (pred left)) (omega (arith, leb-false left 1 d)) (quiet_sooner (min q (pred left)) q s.threads (omega arith) l)))

pub charges : Charges
unfolding leap Told
charges n s σ h i =
    let q = quiet_of n s.threads in
    let quiet : Quiet q s.threads = quiet_of_lem n s.threads in
    if_case (Told s i) (eqb q 0) (λ a. tick_told s i) (λ a.
    let q₁ : q ≢ 0 = eqb-false q 0 a in
    if_case (Told s i) (not (eqb s.lock 0))
    (λ b. locked_told s i (eqb-false s.lock 0 (not-true (eqb s.lock 0) b)) q)
    (λ b. unlocked_told s i σ (eqb-true s.lock 0 (not-false (eqb s.lock 0) b)) q (omega arith) quiet))

-- READ AFTERWARDS: a leap by whole rounds leaves every thread its rank and its turn

Still : State → ℕ → Leap → Type 0
Still s i l = share l.state.threads s.running s.lock l.far l.rounds i ≡ charges_of s l i

module _ (s : State) (i : ℕ) where
  still_rounds : (k R : ℕ) → Still s i (rounds_of k R s)
  unfolding Still share passed
  still_rounds k R =
      let ts = s.threads in
      let r = s.running in
      let m = k * R in
      let rank : (at (map (later m) ts) r).priority ≡ (at ts r).priority = ap (λ t. t.priority) (map_at ts r (later m) refl) ∙ later_field (λ t. t.priority) m (at ts r) refl in
      let turns : (p : ℕ) → turns_at p k (at (map (later m) ts) i) ≡ turns_at p k (at ts i) = λ p.
      ap (turns_at p k) (map_at ts i (later m) refl) ∙ later_field (turns_at p k) m (at ts i) (ap (λ l. if same l (ready p) then k * (at ts i).turn else 0) (line_counter (counter_of (at ts i).wait - m) (at ts i))) in
      rw (rank, turns (at ts r).priority)

  pub share_after : (n : ℕ) → share (leap n s).state.threads s.running s.lock (leap n s).far (leap n s).rounds i ≡ charges_of s (leap n s) i
  unfolding leap leap_unlocked Still share
  share_after n =
      let q = quiet_of n s.threads in
      let R = sum_turns (caller s).priority s.threads in
      let left = counter_of (caller s).wait in
      if_case (Still s i) (eqb q 0) (λ a. refl) (λ a.
      if_case (Still s i) (not (eqb s.lock 0)) (λ b. refl) (λ b.
      if_case (Still s i) (leb R q) (λ c. still_rounds (q / R) R) (λ c.
      if_case (Still s i) (leb left 1) (λ d. refl) (λ d. refl))))
