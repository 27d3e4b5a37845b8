-- `writer::blocks::list_block` meets its contract: at each turn the records before `at` are listed, and those from there on are to come. Assumes nothing.
use Rattle.listing.specs.declared.Way.TheVariants.{ToListing}
use Rattle.writer.proofs.Block.{Sofar}
use Rattle.writer.proofs.Pieces.{Coming}
use Rattle.writer.proofs.blocks.list_block.Given as goal

abbrev pub invariant-loop-record : goal.invariant-loop-record
invariant-loop-record g l =
    (goal.iterator-loop-record g).can_next l.record-iterator
    × (goal.iterator-loop-record g).is_finite l.record-iterator
    × Coming l.records l.at l.record-iterator
    × Sofar ToListing l.records l.initial.out l.done l.at l.out
