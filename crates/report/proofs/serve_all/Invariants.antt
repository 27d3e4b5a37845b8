-- `report::serve_all` meets its contract: all that has come has left the replay where it stands, from turn to turn. Assumes nothing.
use Prim.Native.Nat.{◌*◌, ◌≤◌, ◌<◌}
use lib.ListN.{length}
use Rattle.rules.specs.Requests.{request_length}
use Rattle.report.specs.Going.{Stands}
use Rattle.report.proofs.serve_all.Given as goal

abbrev pub invariant-loop : goal.invariant-loop
invariant-loop l =
    (length l.block < request_length) × (l.bytes ≤ 12288 * l.counter) × Stands l.first l.initial.table l.initial.accounts l.bytes l.number l.table l.accounts l.block
