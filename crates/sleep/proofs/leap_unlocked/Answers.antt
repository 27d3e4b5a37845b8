-- `sleep::leap_unlocked` meets its contract: the thread that is read is the one that runs, so the round is its rank's, and each arm is the
-- rule's. Assumes nothing.
use mathlib.Core.Path.{◌≡◌, refl, ap, sym, ◌∙◌}
use mathlib.Core.List.{List}
use Prim.Native.Nat.{ℕ, pred, ◌/◌, min}
use native.Mathlib.Omega.{arith}
use Rattle.rules.specs.State.{State, at, caller, counter_of}
use Rattle.rules.specs.declared.Thread.{Thread}
use Rattle.fairness.specs.Run.{sum_turns}
use Rattle.leaps.specs.Ticks.{tick_of, rounds_of, turn_of, leap_unlocked}
use Rattle.leaps.proofs.Leaps.{round_some}
use Rattle.sleep.proofs.Arms.{by_rounds, by_tick, by_turn}
use Rattle.sleep.proofs.Leaping.{becomes_of, tells_as}
use Rattle.layout.specs.Held.{said}
use Rattle.sleep.proofs.leap_unlocked.Goals as goal

-- what is read of the thread that runs
module _ (t : List ℕ) {r : ℕ} {th : Thread} (runs : (s : State) → said t ≡ s → r ≡ s.running) (reads : (s : State) → said t ≡ s → th ≡ at s.threads r) where
  own : (s : State) → said t ≡ s → th ≡ caller s
  own s e = reads s e ∙ ap (at s.threads) (runs s e)

  rank : (s : State) → said t ≡ s → sum_turns (caller s).priority s.threads ≡ sum_turns th.priority (said t).threads
  rank s e = sym (λ i. sum_turns (own s e i).priority (e i).threads)

  counts : {left : ℕ} → left ≡ counter_of th.wait → (s : State) → said t ≡ s → left ≡ counter_of (caller s).wait
  counts left s e = left ∙ ap (λ x. counter_of x.wait) (own s e)

pub nonzero_div-rounds : goal.nonzero_div-rounds
nonzero_div-rounds c = omega (arith, round_some _ c.requires.sound, rank _ c.running-r.ensures c.load_thread-th.ensures _ refl, c.round-whole.ensures.exact c.if-whole-q.true)

pub returns-then-whole-q : goal.returns-then-whole-q
returns-then-whole-q c =
    let q = c.args.q in
    let whole = c.round-whole.result in
    tells_as _ _ _ _ (rounds_of (q / whole) whole) (leap_unlocked q) (record { leapt = λ s h. (refl, refl); table = c.pass.ensures }) (λ s h.
    by_rounds q s whole (rank _ c.running-r.ensures c.load_thread-th.ensures s h.says ∙ sym (c.round-whole.ensures.exact c.if-whole-q.true)) c.if-whole-q.true)

pub returns-then-left-le1 : goal.returns-then-left-le1
returns-then-left-le1 c = tells_as _ _ _ _ tick_of (leap_unlocked c.args.q) (record { leapt = λ s h. (refl, refl); table = becomes_of c.tick.ensures }) (λ s h.
    by_tick c.args.q s (omega (arith, rank _ c.running-r.ensures c.load_thread-th.ensures s h.says, c.round-whole.ensures.above (omega (arith, c.if-whole-q.false))))
    (omega (arith, counts _ c.running-r.ensures c.load_thread-th.ensures c.counter_of-left.ensures s h.says, c.if-left-le1.true)))

pub run_on-requires : goal.run_on-requires
run_on-requires c = record {
  has_thread = (omega (arith, c.running-r.ensures _ refl, c.requires.runs), omega (arith, c.min-far.ensures), c.requires.whole);
  r_value = λ s e. (c.running-r.ensures s e, counts _ c.running-r.ensures c.load_thread-th.ensures c.counter_of-left.ensures s e);
}

pub returns : goal.returns
returns c = tells_as _ _ _ _ (turn_of c.min-far.result) (leap_unlocked c.args.q) (record { leapt = λ s h. (refl, refl); table = c.run_on.ensures }) (λ s h.
    let left = counts _ c.running-r.ensures c.load_thread-th.ensures c.counter_of-left.ensures s h.says in
    let far : min c.args.q (pred (counter_of (caller s).wait)) ≡ c.min-far.result = omega (arith, left, c.min-far.ensures) in
    by_turn c.args.q s (omega (arith, rank _ c.running-r.ensures c.load_thread-th.ensures s h.says, c.round-whole.ensures.above (omega (arith, c.if-whole-q.false)))) (omega (arith, left, c.if-left-le1.false))
    ∙ ap (λ m. turn_of m s) far)
