-- `exchange::run_from` meets its contract: all that has come is what is done and what is held, from read to read. Assumes nothing.
use Prim.Native.Nat.{◌+◌, ◌*◌, ◌≤◌}
use lib.ListN.{length}
use Rattle.exchange.specs.Going.{block_length}
use Rattle.exchange.proofs.Turns.{Going}
use Rattle.exchange.proofs.run_from.Given as goal

abbrev pub invariant-loop : goal.invariant-loop
invariant-loop l =
    (length l.block ≤ block_length) × (l.number ≤ l.first + block_length * l.counter) × (l.bytes ≤ block_length * l.counter) × Going l.way l.first l.bytes l.number l.block
