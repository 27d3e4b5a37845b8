-- `report::serve_all` meets its contract: all that has come has left the replay where it stands, from turn to turn. What is held goes
-- by `cc`, so that a body that calls the block once more is proved where it is right, and an edit with such a call is refused for what it leaves.
-- Assumes nothing.
use borrow.Author.Rules.{rules}
use lib.ListN.{length}
use native.Mathlib.Omega.{arith}
use mathlib.Core.Path.{sym, ap, subst}
use Rattle.report.specs.Going.{Stands}
use Rattle.report.proofs.Turns.{none_seen, stands_part, count_low, within_there}
use Rattle.report.proofs.serve_all.Goals as goal

pub loop-init : goal.loop-init
loop-init c =
    let t = c.args.table.now in
    let ns = c.args.accounts.now in
    (omega (arith, ap length c.clear.ensures), omega arith, subst (Stands c.args.first t ns 0 c.args.first t ns) (sym c.clear.ensures) (none_seen c.args.first t ns))

pub serve_part-number-requires : goal.serve_part-number-requires
serve_part-number-requires c =
    let stood = c.loop.invariant.2 in
    (search rules, (within_there stood c.requires.within, count_low stood c.requires.first_le_most_records))

pub loop-preserved : goal.loop-preserved
loop-preserved c =
    let come = c.in-Ok.ensures in
    let served = c.serve_part-number.ensures in (
      omega (arith, c.if-len-ge-REQUEST.false, c.len.ensures.value),
      omega (arith, come.come, come.room, c.loop.invariant.1),
      stands_part c.loop.block c.read_behind.new.block c.in-Ok.n come.held come.come c.requires.first_le_most_records c.loop.invariant.2 _ _ _ _ served.number served.table served.accounts (cc),
    )

pub returns-then-len-ge-REQUEST : goal.returns-then-len-ge-REQUEST
returns-then-len-ge-REQUEST c =
    let come = c.in-Ok.ensures in
    let served = c.serve_part-number.ensures in
    stands_part c.loop.block c.read_behind.new.block c.in-Ok.n come.held come.come c.requires.first_le_most_records c.loop.invariant.2 _ _ _ _ served.number served.table served.accounts (cc)
