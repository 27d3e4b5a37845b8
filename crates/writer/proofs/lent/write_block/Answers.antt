-- `writer::lent::write_block` meets its contract: at each turn the lines before `at` are written. Assumes nothing.
use borrow.Author.Rules.{rules}
use native.Mathlib.Omega.{arith}
use mathlib.Core.Path.{sym, ◌∙◌}
use Prim.Native.Nat.{◌+◌}
use Rattle.listing.specs.declared.Way.TheVariants.{ToRecords}
use Rattle.writer.proofs.Pieces.{found_end, no_end}
use Rattle.writer.proofs.Stored.{none_stored, line_fits, line_stored, bad_line, all_lines}
use Rattle.writer.proofs.lent.write_block.Goals as goal

pub loop-n-init : goal.loop-n-init
loop-n-init c = none_stored ToRecords c.args.text.now c.args.out.now

pub returns-then-is_none : goal.returns-then-is_none
returns-then-is_none c =
    let end = found_end c.args.text.now c.loop-n.at c.in-Some.n c.in-Some.ensures c.loop-n.invariant.sofar.inside in
    bad_line c.loop-n.invariant (c.loop-n.at + c.in-Some.n) end.0 end.1 (rw c.new-record.ensures at c.write_line.ensures.puts) (sym c.if-is_none.ensures ∙ c.write_line.ensures.taken)

pub put_at-next-requires : goal.put_at-next-requires
put_at-next-requires c =
    let end = found_end c.args.text.now c.loop-n.at c.in-Some.n c.in-Some.ensures c.loop-n.invariant.sofar.inside in
    let fits = line_fits c.loop-n.invariant (c.loop-n.at + c.in-Some.n) end.0 end.1 (rw c.new-record.ensures at c.write_line.ensures.puts) in
    (search rules, omega (arith, c.requires, fits))

pub loop-n-preserved : goal.loop-n-preserved
loop-n-preserved c =
    let end = found_end c.args.text.now c.loop-n.at c.in-Some.n c.in-Some.ensures c.loop-n.invariant.sofar.inside in
    line_stored c.loop-n.invariant (c.loop-n.at + c.in-Some.n) end.0 end.1 (rw c.new-record.ensures at c.write_line.ensures.puts) (sym c.if-is_none.ensures ∙ c.write_line.ensures.taken) c.put_at-next.ensures

pub returns : goal.returns
returns c = all_lines c.loop-n.invariant (no_end c.args.text.now c.loop-n.at c.in_default.ensures c.loop-n.invariant.sofar.inside)
