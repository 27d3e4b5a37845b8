-- `writer::lent::list_block` meets its contract: at each turn the records before `at` are listed, and those from there on are to come. Assumes nothing.
use Rattle.listing.specs.declared.Way.TheVariants.{ToListing}
use Rattle.writer.proofs.Pieces.{Coming}
use Rattle.writer.proofs.Stored.{Stored}
use Rattle.writer.proofs.lent.list_block.Given as goal

abbrev pub invariant-loop-record : goal.invariant-loop-record
invariant-loop-record l =
    (goal.iterator-loop-record).can_next l.record-iterator
    × (goal.iterator-loop-record).is_finite l.record-iterator
    × Coming l.records l.at l.record-iterator
    × Stored ToListing l.records l.initial.out l.done l.at l.next l.out
