-- `trace::run` meets its contract: all that has come has left the trace where it stands, from turn to turn. Assumes nothing.
use Prim.Native.Nat.{◌*◌, ◌≤◌, ◌<◌}
use lib.ListN.{length}
use Rattle.rules.specs.Requests.{request_length}
use Rattle.trace.specs.Going.{standing, Traced}
use Rattle.trace.proofs.run.Given as goal

abbrev pub invariant-loop : goal.invariant-loop
invariant-loop l =
    (length l.block < request_length) × (l.number ≤ 1024 * l.counter) × (l.bytes ≤ 12288 * l.counter) × Traced l.initial.table l.bytes (standing l.number l.table l.block)
