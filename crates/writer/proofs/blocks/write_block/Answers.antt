-- `writer::blocks::write_block` meets its contract: at each turn the lines before `at` are written. Assumes nothing.
use mathlib.Core.Path.{sym, ◌∙◌}
use Prim.Native.Nat.{◌+◌}
use Rattle.listing.specs.declared.Way.TheVariants.{ToRecords}
use Rattle.writer.proofs.Block.{none_yet}
use Rattle.writer.proofs.Pieces.{found_end, no_end, line_taken, line_bad, lines_end}
use Rattle.writer.proofs.blocks.write_block.Goals as goal

pub loop-n-init : goal.loop-n-init
loop-n-init g c = none_yet ToRecords c.args.text.now c.args.out.now

pub returns-then-is_none : goal.returns-then-is_none
returns-then-is_none g c =
    let end = found_end c.args.text.now c.loop-n.at c.in-Some.n c.in-Some.ensures c.loop-n.invariant.inside in
    line_bad c.loop-n.invariant (c.loop-n.at + c.in-Some.n) end.0 end.1 c.write_line.ensures.puts (sym c.if-is_none.ensures ∙ c.write_line.ensures.taken)

pub loop-n-preserved : goal.loop-n-preserved
loop-n-preserved g c =
    let end = found_end c.args.text.now c.loop-n.at c.in-Some.n c.in-Some.ensures c.loop-n.invariant.inside in
    line_taken c.loop-n.invariant (c.loop-n.at + c.in-Some.n) end.0 end.1 c.write_line.ensures.puts (sym c.if-is_none.ensures ∙ c.write_line.ensures.taken)

pub returns : goal.returns
returns g c = lines_end c.loop-n.invariant (no_end c.args.text.now c.loop-n.at c.in_default.ensures c.loop-n.invariant.inside)
