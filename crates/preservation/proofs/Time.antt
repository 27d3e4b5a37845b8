-- Soundness is kept by the lock and by the tick. Assumes nothing.
use mathlib.Core.Bool.{false, not, ◌||◌}
use mathlib.Core.Path.{◌≡◌, refl}
use mathlib.Core.List.{List}
use Prim.Native.Nat.{ℕ, zero, suc, pred, ◌≤◌}
use native.Mathlib.Omega.{arith}
use borrow.Author.Tests.{eqb-true, leb-false}
use lib.Dec.{eqb, leb}
use lib.ListN.{length}
use Rattle.rules.specs.Board.{most_lock}
use Rattle.rules.specs.State.{State, at, caller, counter_of, waiting, with_counter, with_lock}
use Rattle.rules.specs.Time.{charge, charged, count_down, timeouts, timed_out, do_lock, do_unlock, do_tick, do_outcome}
use Rattle.rules.specs.Sound.{Sound}
use Rattle.rules.specs.declared.Thread.{Thread}
use Rattle.laws.proofs.Split.{if_case}
use Rattle.laws.proofs.Reflect.{reflect}
use Rattle.laws.proofs.Lines.{ready_used, line_counter}
use Rattle.preservation.proofs.Fit.{Asks, Meets, waits_used, meets_move, meets_edit}
use Rattle.preservation.proofs.Changes.{fit_lifted, fit_counted, fit_charged}
use Rattle.preservation.proofs.Waits.{meets_end}
use Rattle.preservation.proofs.Settled.{asks, Unsettled, sound_relocked, sound_meets, sound_sems}
use Rattle.preservation.proofs.Safe.{Safe, ladder}

meets_countdown : (i : ℕ) {a : Asks} {ts : List Thread} → Meets a ts → Meets a (count_down i ts)
unfolding count_down
meets_countdown i {a} {ts} v =
    let t = at ts i in
    let c = counter_of t.wait in
    let f = v.each i in
    if_case (Meets a) (not (waiting t.wait) || eqb c 0) (λ e. v) (λ e.
    let x = simp reflect at e in
    let n : c ≡ 0 → ⊥ = x.1 in
    let u = waits_used f x.0 in
    if_case (Meets a) (eqb c 1) (λ q. meets_end i (timed_out t.wait) 0 u (λ k. refl) v) (λ q.
    let m : c ≡ 1 → ⊥ = simp reflect at q in
    meets_edit i (with_counter (pred c)) (line_counter (pred c) t) refl
    (fit_counted f u (pred c) x.0 (omega arith) (omega (arith, (f.sound u).timed x.0))) v))

meets_timeouts : (n : ℕ) {a : Asks} {ts : List Thread} → Meets a ts → Meets a (timeouts n ts)
unfolding timeouts
meets_timeouts zero v = v
meets_timeouts (suc n) v = meets_countdown n (meets_timeouts n v)

module _ (s : State) (σ : Sound s) where
  v : Meets (asks s) s.threads
  v = sound_meets σ

  -- the running thread has place 1, so that its counter is one of 1 to the turn
  charges : s.lock ≡ 0 → Meets (asks s) (charge s.running s.threads)
  unfolding charge
  charges z =
      let r = s.running in
      let t = caller s in
      let c = counter_of t.wait in
      let u = ready_used t σ.runs in
      let x = (σ.threads r u).first σ.runs (σ.leads z) in
      if_case (Meets (asks s)) (leb c 1)
      (λ e. meets_move r (λ t. t) (fit_lifted (v.each r)) v)
      (λ e. meets_edit r (with_counter (pred c)) (line_counter (pred c) t) refl
      (fit_charged (v.each r) u (pred c) σ.runs (σ.leads z) (omega (arith, leb-false c 1 e)) (omega (arith, x.1))) v)

  ticks : Meets (asks s) (timeouts (length s.threads) (charged s))
  unfolding charged
  ticks = meets_timeouts (length s.threads) (if_case (Meets (asks s)) (eqb s.lock 0) (λ e. charges (eqb-true s.lock 0 e)) (λ e. v))

  pub safe_tick : Safe (do_tick s)
  unfolding do_tick
  safe_tick = search (ladder, ticks)

  relocks : (n : ℕ) → n ≤ most_lock → Unsettled (with_lock n s)
  relocks n h = record { threads = sound_relocked n σ; sems = sound_sems σ; lock = h }

  locks : leb most_lock s.lock ≡ false → Unsettled (with_lock (suc s.lock) s)
  locks e = relocks (suc s.lock) (leb-false most_lock s.lock e)

  pub safe_lock : Safe (do_lock s)
  unfolding do_lock
  safe_lock = search (ladder, locks)

  unlocks : Unsettled (with_lock (pred s.lock) s)
  unlocks = relocks (pred s.lock) (omega (arith, σ.lock))

  pub safe_unlock : Safe (do_unlock s)
  unfolding do_unlock
  safe_unlock = search (ladder, unlocks)

  pub safe_outcome : (i : ℕ) → Safe (do_outcome s i)
  unfolding do_outcome
  safe_outcome i = search ladder
