-- Many ticks at once, where no wait ends and the turn of the one that runs goes on: a tick at a time, each timed wait has 1 less, and so has
-- the one that runs, unless the lock is on. Assumes nothing.
use mathlib.Core.Bool.{true, false}
use mathlib.Core.Path.{◌≡◌, refl, ap, sym, ◌∙◌}
use mathlib.Core.Logic.{◌≢◌}
use mathlib.Core.List.{List, [], ◌∷◌, map}
use Prim.Native.Nat.{ℕ, zero, suc, ◌+◌, ◌-◌, ◌≤◌, ◌<◌}
use native.Mathlib.Omega.{arith}
use native.Mathlib.Decide.{ℕ_discrete}
use borrow.Author.Tests.{eq-eqb, ne_eqb, lt-leb}
use lib.ListN.{length, length-map}
use lib.Seq.{ext_get_or}
use Rattle.rules.specs.State.{State, free, at, edit, caller, counter_of, waiting, is_ready, with_counter_of, with_counter, with_threads}
use Rattle.rules.specs.Sound.{Sound}
use Rattle.rules.specs.Time.{charge, charged, do_tick}
use Rattle.rules.specs.Sleep.{ticks}
use Rattle.rules.specs.Steps.{step}
use Rattle.rules.specs.declared.Thread.{Thread}
use Rattle.rules.specs.declared.Request.TheVariants as Ask
use Rattle.laws.proofs.Split.{is, isnt, test, clash}
use Rattle.laws.proofs.Lines.{in_ready, waiting_out, waiting_counter, ready_counter}
use Rattle.laws.proofs.Members.{edit_same, edit_other, length_edit, map_at}
use Rattle.laws.proofs.Top.{Top, sound_top, sound_running}
use Rattle.preservation.proofs.Steps.{kept}
use Rattle.leaps.specs.Ticks.{later, Quiet, passed, ran}
use Rattle.leaps.proofs.Passing.{two_counters, counter_is, same_counter, later_idle, later_field, quiet_tick}

-- LATER, AND LATER STILL

pub later_later : (m n : ℕ) (t : Thread) → later n (later m t) ≡ later (m + n) t
later_later m n t =
    let w = t.wait in
    let c = counter_of w in
    elim (test (waiting w)) [
      | isnt e ↦ rw (e, e)
      | is e ↦ rw (e, waiting_counter (c - m) w, e, counter_is (c - m) w, two_counters (c - m - n) (c - m) w) (ap (λ k. with_counter k t) (omega arith))
    ]

pub later_waiting : (n : ℕ) (t : Thread) → waiting (later n t).wait ≡ waiting t.wait
later_waiting n t = later_field (λ u. waiting u.wait) n t (waiting_counter (counter_of t.wait - n) t.wait)

pub later_counter : (n : ℕ) (t : Thread) → waiting t.wait ≡ true → counter_of (later n t).wait ≡ counter_of t.wait - n
later_counter n t e = rw e (counter_is (counter_of t.wait - n) t.wait)

map_later : (m n : ℕ) (ts : List Thread) → map (later n) (map (later m) ts) ≡ map (later (m + n)) ts
map_later m n [] = refl
map_later m n (t ∷ ts) = λ i. later_later m n t i ∷ map_later m n ts i

-- what stays quiet, where whoever waits then is as it was m ticks before
pub quiet_after : (m n : ℕ) (ts us : List Thread) → ((i : ℕ) → waiting (at us i).wait ≡ true → at us i ≡ later m (at ts i)) → Quiet (m + n) ts → Quiet n us
unfolding Quiet
quiet_after m n ts us h q i w k =
    let e = h i w in
    let v : waiting (at ts i).wait ≡ true = sym (later_waiting m (at ts i)) ∙ (rw e at w) in
    let c : counter_of (at us i).wait ≡ counter_of (at ts i).wait - m = ap (λ t. counter_of t.wait) e ∙ later_counter m (at ts i) v in
    omega (arith, c, q i v (omega (arith, c)))

pub quiet_sooner : (m n : ℕ) (ts : List Thread) → m ≤ n → Quiet n ts → Quiet m ts
unfolding Quiet
quiet_sooner m n ts h q i w k = omega (arith, q i w k)

-- UNDER LOCK

locked_tick : (s : State) → Sound s → s.lock ≢ 0 → Quiet 1 s.threads → (do_tick s).state ≡ passed 1 s
unfolding charged passed
locked_tick s σ z q =
    let e : charged s ≡ s.threads = rw (ne_eqb s.lock 0 z) in
    rw e at (quiet_tick s σ (rw e q) (rw e) (λ y. absurd (z y)))

pub later_none : (t : Thread) → later 0 t ≡ t
later_none t = elim (test (waiting t.wait)) [
  | isnt e ↦ rw e
  | is e ↦ rw e (same_counter (counter_of t.wait - 0) t (omega arith))
]

map_none : (ts : List Thread) → map (later 0) ts ≡ ts
map_none [] = refl
map_none (t ∷ ts) = λ i. later_none t i ∷ map_none ts i

-- what one tick leaves is quiet for n more
pub quiet_next : (n : ℕ) (ts us : List Thread) → ((i : ℕ) → waiting (at us i).wait ≡ true → at us i ≡ later 1 (at ts i)) → Quiet (suc n) ts → Quiet n us
quiet_next n ts us h q = quiet_after 1 n ts us h (rw one_plus q)
  where
    one_plus : 1 + n ≡ suc n
    one_plus = omega arith

passed_passed : (n : ℕ) (s : State) → passed n (passed 1 s) ≡ passed (suc n) s
unfolding passed
passed_passed n s = ap (λ us. with_threads us s) (map_later 1 n s.threads ∙ ap (λ k. map (later k) s.threads) (omega arith))

pub sound_next : (s u : State) → Sound s → (do_tick s).state ≡ u → Sound u
unfolding step
sound_next s u σ e = rw e at (kept s Ask.Tick σ)

quiet_passed : (n : ℕ) (s : State) → Quiet (suc n) s.threads → Quiet n (passed 1 s).threads
unfolding passed
quiet_passed n s q = quiet_next n s.threads (map (later 1) s.threads) (λ i w. map_at s.threads i (later 1) refl) q

pub locked_ticks : (n : ℕ) (s : State) → Sound s → s.lock ≢ 0 → Quiet n s.threads → ticks n s ≡ passed n s
unfolding ticks passed
locked_ticks zero s σ z q = ap (λ us. with_threads us s) (sym (map_none s.threads))
locked_ticks (suc n) s σ z q =
    let e = locked_tick s σ z (quiet_sooner 1 (suc n) s.threads (omega arith) q) in
    ap (ticks n) e ∙ locked_ticks n (passed 1 s) (sound_next s (passed 1 s) σ e) z (quiet_passed n s q) ∙ passed_passed n s

-- THE TURN GOES ON

pub ready_idle : (t : Thread) → is_ready t ≡ true → waiting t.wait ≡ false
ready_idle t e = elim (test (waiting t.wait)) [
  | is w ↦ absurd (clash ((in_ready t.priority t).1 (e, refl)) (waiting_out t.priority t w))
  | isnt w ↦ w
]

module _ (s : State) (σ : Sound s) where
  not_waiting : waiting (caller s).wait ≡ false
  not_waiting = ready_idle (caller s) σ.runs

  ran_self : (n : ℕ) → at (ran n s).threads s.running ≡ with_counter (counter_of (caller s).wait - n) (caller s)
  unfolding ran
  ran_self n =
      let t = with_counter (counter_of (caller s).wait - n) (caller s) in
      map_at (edit s.running (with_counter (counter_of (caller s).wait - n)) s.threads) s.running (later n) refl
      ∙ ap (later n) (edit_same s.threads s.running (with_counter (counter_of (caller s).wait - n)) (sound_running s σ))
      ∙ later_idle n t (waiting_counter (counter_of (caller s).wait - n) (caller s).wait ∙ not_waiting)

  ran_other : (n j : ℕ) → j ≢ s.running → at (ran n s).threads j ≡ later n (at s.threads j)
  unfolding ran
  ran_other n j k =
      map_at (edit s.running (with_counter (counter_of (caller s).wait - n)) s.threads) j (later n) refl
      ∙ ap (later n) (edit_other s.threads s.running j (with_counter (counter_of (caller s).wait - n)) k)

  -- whatever a counter does not bear on is the same
  ran_field : {A : Type 0} (f : Thread → A) → ((n : ℕ) (t : Thread) → f (with_counter n t) ≡ f t) → (n j : ℕ) → f (at (ran n s).threads j) ≡ f (at s.threads j)
  ran_field f h n j = elim (ℕ_discrete j s.running) [
    | yes q ↦ rw (q, ran_self n, h)
    | no q ↦ rw (ran_other n j q) (later_field f n (at s.threads j) (h (counter_of (at s.threads j).wait - n) (at s.threads j)))
  ]

  ran_top : (n : ℕ) → s.lock ≡ 0 → Top (ran n s).threads s.running
  ran_top n z =
      let t = sound_top s σ z in
      let readies = ran_field is_ready ready_counter n in
      let ranks = ran_field (λ t. t.priority) (λ k t. refl) n in
      record {
        ready = readies s.running ∙ t.ready;
        first = ran_field (λ t. t.place) (λ k t. refl) n s.running ∙ t.first;
        highest = λ j e. rw (ranks j, ranks s.running) (t.highest j (sym (readies j) ∙ e));
      }

  quiet_edit : (n k : ℕ) → Quiet n s.threads → Quiet n (edit s.running (with_counter k) s.threads)
  unfolding Quiet
  quiet_edit n k q i = elim (ℕ_discrete i s.running) [
    | yes e ↦ rw (e, edit_same s.threads s.running (with_counter k) (sound_running s σ), waiting_counter k (caller s).wait) (λ w. absurd (clash w not_waiting))
    | no e ↦ rw (edit_other s.threads s.running i (with_counter k) e) (q i)
  ]

  ran_tick : s.lock ≡ 0 → 1 < counter_of (caller s).wait → Quiet 1 s.threads → (do_tick s).state ≡ ran 1 s
  unfolding charged charge ran
  ran_tick z h q =
      let c = counter_of (caller s).wait in
      let us = edit s.running (with_counter (c - 1)) s.threads in
      let e : charged s ≡ us = rw (eq-eqb s.lock 0 z, lt-leb c 1 h) (ap (λ k. edit s.running (with_counter k) s.threads) (omega arith)) in
      rw e at (quiet_tick s σ (rw e (quiet_edit 1 (c - 1) q)) (rw e (length_edit s.threads s.running (with_counter (c - 1)))) (λ y. rw e (ran_top 1 z)))

  ran_long : (n : ℕ) → length (ran n s).threads ≡ length s.threads
  unfolding ran
  ran_long n = length-map (edit s.running (with_counter (counter_of (caller s).wait - n)) s.threads) (later n) ∙ length_edit s.threads s.running (with_counter (counter_of (caller s).wait - n))

  quiet_ran : (n : ℕ) → Quiet (suc n) s.threads → Quiet n (ran 1 s).threads
  quiet_ran n q = quiet_next n s.threads (ran 1 s).threads (λ i w. elim (ℕ_discrete i s.running) [
    | yes e ↦ absurd (clash w (rw (e, ran_self 1, waiting_counter) not_waiting))
    | no e ↦ ran_other 1 i e
  ]) q

ran_sems : (n : ℕ) (s : State) → (ran n s).sems ≡ s.sems
unfolding ran
ran_sems n s = refl

ran_runs : (n : ℕ) (s : State) → (ran n s).running ≡ s.running
unfolding ran
ran_runs n s = refl

ran_lock : (n : ℕ) (s : State) → (ran n s).lock ≡ s.lock
unfolding ran
ran_lock n s = refl

-- two stretches are one
two_stretches : (n c : ℕ) (t : Thread) → with_counter (counter_of (with_counter_of (c - 1) t.wait) - n) (with_counter (c - 1) t) ≡ with_counter (c - suc n) t
two_stretches n c t = rw (counter_is (c - 1) t.wait, two_counters (c - 1 - n) (c - 1) t.wait) (ap (λ k. with_counter k t) (omega arith))

ran_ran_at : (n : ℕ) (s : State) → (σ : Sound s) → Sound (ran 1 s) → (ran 1 s).running ≡ s.running → (j : ℕ) → at (ran n (ran 1 s)).threads j ≡ at (ran (suc n) s).threads j
unfolding ran
ran_ran_at n s σ τ e j = elim (ℕ_discrete j s.running) [
  | yes q ↦
      let own : at (ran n (ran 1 s)).threads s.running ≡ with_counter (counter_of (at (ran 1 s).threads s.running).wait - n) (at (ran 1 s).threads s.running) =
      rw e at (ran_self (ran 1 s) τ n) in
      rw q (own ∙ ap (λ t. with_counter (counter_of t.wait - n) t) (ran_self s σ 1) ∙ two_stretches n (counter_of (caller s).wait) (caller s) ∙ sym (ran_self s σ (suc n)))
  | no q ↦
      ran_other (ran 1 s) τ n j (rw e q) ∙ ap (later n) (ran_other s σ 1 j q) ∙ later_later 1 n (at s.threads j) ∙ ap (λ k. later k (at s.threads j)) (omega arith)
      ∙ sym (ran_other s σ (suc n) j q)
]

ran_threads : (n : ℕ) (s u : State) → u.sems ≡ s.sems → u.running ≡ s.running → u.lock ≡ s.lock → u.threads ≡ (ran n s).threads → u ≡ ran n s
unfolding ran
ran_threads n s u a b c d = λ i. record { threads = d i; sems = a i; running = b i; lock = c i }

ran_ran : (n : ℕ) (s : State) → (σ : Sound s) → Sound (ran 1 s) → ran n (ran 1 s) ≡ ran (suc n) s
ran_ran n s σ τ = ran_threads (suc n) s (ran n (ran 1 s)) (ran_sems n (ran 1 s) ∙ ran_sems 1 s) (ran_runs n (ran 1 s) ∙ ran_runs 1 s) (ran_lock n (ran 1 s) ∙ ran_lock 1 s)
    (ext_get_or free (ran n (ran 1 s)).threads (ran (suc n) s).threads (ran_long (ran 1 s) τ n ∙ ran_long s σ 1 ∙ sym (ran_long s σ (suc n))) (λ j k. ran_ran_at n s σ τ (ran_runs 1 s) j))

ran_none : (s : State) → Sound s → ran 0 s ≡ s
ran_none s σ = sym (ran_threads 0 s s refl refl refl (ext_get_or free s.threads (ran 0 s).threads (sym (ran_long s σ 0)) (λ j k. elim (ℕ_discrete j s.running) [
  | yes q ↦ rw q (sym (ran_self s σ 0 ∙ same_counter (counter_of (caller s).wait - 0) (caller s) (omega arith)))
  | no q ↦ sym (ran_other s σ 0 j q ∙ later_none (at s.threads j))
])))

counter_ran : (s : State) → Sound s → counter_of (caller (ran 1 s)).wait ≡ counter_of (caller s).wait - 1
counter_ran s σ = rw (ran_runs 1 s, ran_self s σ 1) (counter_is (counter_of (caller s).wait - 1) (caller s).wait)

pub running_ticks : (n : ℕ) (s : State) → Sound s → s.lock ≡ 0 → n < counter_of (caller s).wait → Quiet n s.threads → ticks n s ≡ ran n s
unfolding ticks
running_ticks zero s σ z h q = sym (ran_none s σ)
running_ticks (suc n) s σ z h q =
    let e = ran_tick s σ z (omega arith) (quiet_sooner 1 (suc n) s.threads (omega arith) q) in
    let τ = sound_next s (ran 1 s) σ e in
    ap (ticks n) e ∙ running_ticks n (ran 1 s) τ (ran_lock 1 s ∙ z) (omega (arith, counter_ran s σ)) (quiet_ran s σ n q) ∙ ran_ran n s σ τ
