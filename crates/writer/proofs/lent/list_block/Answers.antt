-- `writer::lent::list_block` meets its contract: at each turn the records before `at` are listed, and those from there on are to come. Assumes nothing.
use mathlib.Core.Path.{sym, ◌∙◌}
use native.Mathlib.Omega.{arith}
use Rattle.listing.specs.declared.Way.TheVariants.{ToListing}
use Rattle.writer.proofs.Pieces.{comes, no_more}
use Rattle.writer.proofs.Stored.{none_stored, record_stored, bad_record, all_records}
use Rattle.writer.proofs.lent.list_block.Goals as goal

pub loop-record-init : goal.loop-record-init
loop-record-init c =
    let all = c.chunks_exact-record-items.ensures in
    rw c.into_iter-record-iterator.ensures.into_iter_gives
    (omega (arith, all.size), tt, record { size = all.size; rest = all.rest }, none_stored ToListing c.args.records.now c.args.out.now)

pub returns-then-is_none : goal.returns-then-is_none
returns-then-is_none c =
    let step = c.in-Some.ensures.steps in
    let here = comes c.loop-record.invariant.2 {next = c.next.new.self} step.0 step.1.0 step.1.1 in
    let listed = (rw (here.is, c.new-line.ensures) at c.list_record.ensures) in
    bad_record c.loop-record.invariant.3 here.inside listed.puts (sym c.if-is_none.ensures ∙ listed.asks)

pub loop-record-preserved : goal.loop-record-preserved
loop-record-preserved c =
    let step = c.in-Some.ensures.steps in
    let here = comes c.loop-record.invariant.2 {next = c.next.new.self} step.0 step.1.0 step.1.1 in
    let listed = (rw (here.is, c.new-line.ensures) at c.list_record.ensures) in
    (omega (arith, here.more.size), tt, here.more, record_stored c.loop-record.invariant.3 here.inside listed.puts listed.upper_bound (sym c.if-is_none.ensures ∙ listed.asks) c.put_at-next.ensures)

pub returns : goal.returns
returns c = all_records c.loop-record.invariant.3 (no_more c.loop-record.invariant.2 c.in-None.ensures.steps.1.0)
