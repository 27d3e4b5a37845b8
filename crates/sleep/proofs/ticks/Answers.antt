-- `sleep::ticks` meets its contract: each leap does some of the ticks that are left, and leaves a sound table. Assumes nothing.
use mathlib.Core.Path.{ap, ◌∙◌, refl}
use native.Mathlib.Omega.{arith}
use Rattle.rules.specs.Sleep.{ticks}
use Rattle.layout.proofs.Held.{◌⨾◌, becomes_as, becomes_same}
use Rattle.sleep.proofs.Leaping.{ticks_add, ticks_none, serves_after, leapt}
use Rattle.sleep.proofs.ticks.Goals as goal

pub loop-left-init : goal.loop-left-init
loop-left-init c = (omega arith, c.requires, refl, becomes_same c.requires.whole (λ s h. ticks_none c.args.n s))

pub overflow_sub-left : goal.overflow_sub-left
overflow_sub-left c = (leapt c.loop-left.invariant.1 c.loop-left-test.true c.leap-l.ensures.leapt c.leap-l.ensures.table).most

pub loop-left-smaller : goal.loop-left-smaller
loop-left-smaller c = let l = leapt c.loop-left.invariant.1 c.loop-left-test.true c.leap-l.ensures.leapt c.leap-l.ensures.table in omega (arith, l.some, l.most)

pub loop-left-preserved : goal.loop-left-preserved
loop-left-preserved c =
    let inv = c.loop-left.invariant in
    let far = c.leap-l.result.far in
    let l = leapt inv.1 c.loop-left-test.true c.leap-l.ensures.leapt c.leap-l.ensures.table in (
      omega (arith, inv.0),
      serves_after far inv.1 l.ticks,
      omega (arith, c.leap-l.auto, inv.2),
      becomes_as (inv.3 ⨾ l.ticks) (λ s h. ticks_add _ far s ∙ ap (λ k. ticks k s) (omega (arith, inv.0, l.most))),
    )
