-- `ready::moved` meets its contract: what is written between the two lines is one change of the thread, and the word is mended after it. Assumes nothing.
use mathlib.Core.Path.{refl}
use native.Mathlib.Omega.{arith}
use Rattle.rules.specs.Lines.{move}
use Rattle.rules.specs.State.{edit}
use Rattle.layout.specs.Boards.{HasThread}
use Rattle.layout.specs.Held.{Changes, on_threads}
use Rattle.layout.proofs.Held.{◌⨾◌}
use Rattle.rules.specs.declared.Thread.{Thread}
use Rattle.ready.specs.Change.{ChangesThread}
use Rattle.ready.proofs.Mended.{mends, mended, joined}
use Rattle.ready.proofs.moved.Goals as goal
use Rattle.ready.proofs.moved.Goals.{After-change}
use Rattle.ready.proofs.moved.Given.{Over}

changed : (g : Over) (c : After-change g) (rule : Thread → Thread) → ChangesThread g.F.FnOnce c.args.change c.args.i rule → Changes c.leave-left.new.t c.change.new.arg2 (on_threads (edit c.args.i rule))
changed g c rule p =
    p.changes _ _ (omega (arith, c.requires.table.0, c.leave-left.auto)) c.leave-left.ensures.table.whole (record { shown = _; shows = refl; left = _; met = c.change.ensures; leaves = refl })

pub change-requires : goal.change-requires
change-requires g c = c.requires.change.1.callable _ (omega (arith, c.requires.table.0, c.leave-left.auto)) c.leave-left.ensures.table.whole _ refl

pub mend-requires : goal.mend-requires
mend-requires g c =
    let inside : HasThread c.leave-left.new.t c.args.i = omega (arith, c.requires.table.0, c.leave-left.auto) in
    let left = c.leave-left.ensures in
    let by = c.requires.change in
    let there = changed g (goal.at.mend-requires g c).After-change by.0 by.1 in
    (omega (arith, inside, c.change.auto), there.laid, mends left.table.whole c.args.i inside by.0 there left.left)

pub join-requires : goal.join-requires
join-requires g c =
    let inside : HasThread c.leave-left.new.t c.args.i = omega (arith, c.requires.table.0, c.leave-left.auto) in
    let left = c.leave-left.ensures in
    let by = c.requires.change in
    let there = changed g (goal.at.join-requires g c).After-change by.0 by.1 in
    (omega (arith, inside, c.change.auto, c.mend.auto), (mended left.table.whole c.args.i inside by.0 there left.left c.mend.ensures).whole)

pub returns-clause-place : goal.returns-clause-place
returns-clause-place g c = λ s e.
    let i = c.args.i in
    let inside : HasThread c.leave-left.new.t i = omega (arith, c.requires.table.0, c.leave-left.auto) in
    let by = c.requires.change in
    let there = mended c.leave-left.ensures.table.whole i inside by.0 (changed g (goal.at.returns-clause-place g c).After-change by.0 by.1) c.leave-left.ensures.left c.mend.ensures in
    omega (arith, joined i (omega (arith, inside, c.change.auto, c.mend.auto)) there.whole c.join.ensures.place c.join.ensures.table s e)

pub returns-clause-table : goal.returns-clause-table
unfolding move
returns-clause-table g c = λ rule p.
    let i = c.args.i in
    let inside : HasThread c.leave-left.new.t i = omega (arith, c.requires.table.0, c.leave-left.auto) in
    let left = c.leave-left.ensures in
    left.table ⨾ mended left.table.whole i inside rule (changed g (goal.at.returns-clause-table g c).After-change rule p) left.left c.mend.ensures ⨾ c.join.ensures.table
