-- A leap is that many single ticks: the nearest end of a wait is further off, and then the turn goes on, or whole rounds go by. Assumes nothing.
use mathlib.Core.Bool.{true, not}
use mathlib.Core.Path.{◌≡◌, refl, sym}
use mathlib.Core.Logic.{◌≢◌}
use mathlib.Core.List.{List, [], ◌∷◌}
use Prim.Native.Nat.{ℕ, zero, suc, pred, ◌*◌, ◌/◌, ◌≤◌, ◌<◌, min}
use native.Mathlib.Nat.{div-add-mod', mod-lt}
use native.Mathlib.Omega.{arith}
use native.Mathlib.Decide.{ℕ_discrete}
use lib.Dec.{eqb, leb}
use borrow.Author.Tests.{eqb-true, eqb-false, leb-true, leb-false, not-true, not-false, eq-eqb, ne_eqb}
use Rattle.rules.specs.State.{State, at, caller, counter_of}
use Rattle.rules.specs.Lines.{ready, in_line}
use Rattle.rules.specs.Sound.{Sound}
use Rattle.rules.specs.Sleep.{ticks, time_left, sooner, nearest}
use Rattle.rules.specs.declared.Thread.{Thread}
use Rattle.laws.proofs.Split.{clash, if_case}
use Rattle.laws.proofs.Lines.{in_ready, ready_used}
use Rattle.fairness.specs.Run.{sum_turns}
use Rattle.leaps.specs.Ticks.{Quiet, passed, quiet_of, Leap, tick_of, rounds_of, turn_of, leap_unlocked, leap, AreTicks, Leaps}
use Rattle.leaps.proofs.Leap.{quiet_sooner, locked_ticks, running_ticks}
use Rattle.leaps.proofs.Rounds.{round_ticks}

-- THE NEAREST END

sooner_left : (a b : ℕ) → 1 ≤ a → (1 ≤ sooner a b) × (sooner a b ≤ a)
sooner_left a b h = elim (ℕ_discrete b 0) [
  | yes z ↦ rw (ne_eqb a 0 (omega arith), eq-eqb b 0 z) (h, omega arith)
  | no z ↦ rw (ne_eqb a 0 (omega arith), ne_eqb b 0 z) (omega arith, omega arith)
]

sooner_right : (a b : ℕ) → 1 ≤ b → (1 ≤ sooner a b) × (sooner a b ≤ b)
sooner_right a b h = elim (ℕ_discrete a 0) [
  | yes z ↦ rw (eq-eqb a 0 z) (h, omega arith)
  | no z ↦ rw (ne_eqb a 0 z, ne_eqb b 0 (omega arith)) (omega arith, omega arith)
]

pub nearest_low : (ts : List Thread) (i : ℕ) → 1 ≤ time_left (at ts i).wait → (1 ≤ nearest ts) × (nearest ts ≤ time_left (at ts i).wait)
unfolding nearest
nearest_low [] i h = absurd (omega arith)
nearest_low (t ∷ ts) zero h = sooner_left (time_left t.wait) (nearest ts) h
nearest_low (t ∷ ts) (suc i) h =
    let x = nearest_low ts i h in
    let y = sooner_right (time_left t.wait) (nearest ts) x.0 in
    (y.0, omega (arith, y.1, x.1))

pub quiet_of_lem : (n : ℕ) (ts : List Thread) → Quiet (quiet_of n ts) ts
unfolding Quiet
quiet_of_lem n ts i w h =
    let l : time_left (at ts i).wait ≡ counter_of (at ts i).wait = rw w in
    let x = nearest_low ts i (omega (arith, l)) in
    if_case (λ k. k < counter_of (at ts i).wait) (leb n 1) (λ e. h) (λ e.
    rw (ne_eqb (nearest ts) 0 (omega (arith, x.0))) (omega (arith, x.0, x.1, l)))

pub quiet_most : (n : ℕ) (ts : List Thread) → quiet_of n ts ≤ n
quiet_most n ts = if_case (λ k. k ≤ n) (leb n 1) (λ e. omega arith) (λ e. if_case (λ k. k ≤ n) (eqb (nearest ts) 0) (λ d. omega arith) (λ d. omega arith))

-- A LEAP

one : (n : ℕ) (s : State) → 1 ≤ n → AreTicks n s (tick_of s)
unfolding ticks
one n s h = record { some = omega arith; most = h; ticks = refl }

-- the turns of a rank that has a member are not 0
turns_some : (p : ℕ) (ts : List Thread) (i : ℕ) → in_line (ready p) (at ts i) ≡ true → 1 ≤ (at ts i).turn → 1 ≤ sum_turns p ts
turns_some p [] i m h = absurd (clash m refl)
turns_some p (t ∷ ts) zero m h = rw m (omega arith)
turns_some p (t ∷ ts) (suc i) m h = omega (arith, turns_some p ts i m h)

-- whole rounds of R in q
pub rounds_some : (q R : ℕ) → 1 ≤ R → R ≤ q → 1 ≤ q / R * R
rounds_some q R h l = omega (arith, div-add-mod' q R, mod-lt q h)

pub rounds_most : (q R : ℕ) → 1 ≤ R → q / R * R ≤ q
rounds_most q R h = omega (arith, div-add-mod' q R)

module _ (s : State) (σ : Sound s) where
  pub round_some : 1 ≤ sum_turns (caller s).priority s.threads
  round_some = turns_some (caller s).priority s.threads s.running ((in_ready (caller s).priority (caller s)).1 (σ.runs, refl))
      (σ.threads s.running (ready_used (caller s) σ.runs)).turn.0

  round_as : s.lock ≡ 0 → (k R : ℕ) → R ≡ sum_turns (caller s).priority s.threads → Quiet (k * R) s.threads → passed (k * R) s ≡ ticks (k * R) s
  round_as z k R e q = rw e (sym (round_ticks k s σ z (rw e at q)))

  rounds : s.lock ≡ 0 → (R q : ℕ) → R ≡ sum_turns (caller s).priority s.threads → Quiet q s.threads → R ≤ q → AreTicks q s (rounds_of (q / R) R s)
  rounds z R q e l k =
      let r = rounds_most q R (omega (arith, round_some)) in
      record {
        some = rounds_some q R (omega (arith, round_some)) k;
        most = r;
        ticks = round_as z (q / R) R e (quiet_sooner (q / R * R) q s.threads r l);
      }

  runs : s.lock ≡ 0 → (m q : ℕ) → 1 ≤ m → m ≤ q → Quiet q s.threads → m < counter_of (caller s).wait → AreTicks q s (turn_of m s)
  runs z m q a b l c = record { some = a; most = b; ticks = sym (running_ticks m s σ z c (quiet_sooner m q s.threads b l)) }

  pub unlocked : s.lock ≡ 0 → (q : ℕ) → 1 ≤ q → Quiet q s.threads → AreTicks q s (leap_unlocked q s)
  unfolding leap_unlocked
  unlocked z q h l =
      let left = counter_of (caller s).wait in
      if_case (AreTicks q s) (leb (sum_turns (caller s).priority s.threads) q)
      (λ c. rounds z (sum_turns (caller s).priority s.threads) q refl l (leb-true _ q c)) (λ c.
      if_case (AreTicks q s) (leb left 1) (λ d. one q s h) (λ d.
      runs z (min q (pred left)) q (omega (arith, leb-false left 1 d)) (omega arith) l (omega (arith, leb-false left 1 d))))

-- fewer are as good
fewer : {m n : ℕ} {s : State} {l : Leap} → m ≤ n → AreTicks m s l → AreTicks n s l
fewer h a = record { some = a.some; most = omega (arith, a.most); ticks = a.ticks }

pub leaps : Leaps
unfolding leap
leaps n s σ h =
    let q = quiet_of n s.threads in
    let quiet : Quiet q s.threads = quiet_of_lem n s.threads in
    if_case (AreTicks n s) (eqb q 0) (λ a. one n s h) (λ a.
    let q₁ : q ≢ 0 = eqb-false q 0 a in
    if_case (AreTicks n s) (not (eqb s.lock 0))
    (λ b. record {
      some = omega arith;
      most = quiet_most n s.threads;
      ticks = sym (locked_ticks q s σ (eqb-false s.lock 0 (not-true (eqb s.lock 0) b)) quiet);
    })
    (λ b. fewer (quiet_most n s.threads) (unlocked s σ (eqb-true s.lock 0 (not-false (eqb s.lock 0) b)) q (omega arith) quiet)))
