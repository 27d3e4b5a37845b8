-- `replay_at` meets its contract: at each turn the lines so far, and what is left of the input, give those of the whole; what is left of the input
-- falls. Assumes nothing.
use Prim.Native.Nat.{◌-◌}
use lib.ListN.{length}
use Rattle.replay.proofs.InPlace.{InPlace}
use Rattle.replay.proofs.lent.replay_at.Given as goal

abbrev pub invariant-loop-record : goal.invariant-loop-record
invariant-loop-record l = InPlace l.initial.table l.input l.first l.initial.out l.table l.out l.at l.number l.next

abbrev pub decreases-loop-record : goal.decreases-loop-record
decreases-loop-record l = length l.input - l.at
