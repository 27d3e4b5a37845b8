-- `writer::lent::write_block` meets its contract: at each turn the lines before `at` are written. Assumes nothing.
use Prim.Native.Nat.{◌-◌}
use lib.ListN.{length}
use Rattle.listing.specs.declared.Way.TheVariants.{ToRecords}
use Rattle.writer.proofs.Stored.{Stored}
use Rattle.writer.proofs.lent.write_block.Given as goal

abbrev pub invariant-loop-n : goal.invariant-loop-n
invariant-loop-n l = Stored ToRecords l.text l.initial.out l.done l.at l.next l.out

abbrev pub decreases-loop-n : goal.decreases-loop-n
decreases-loop-n l = length l.text - l.at
