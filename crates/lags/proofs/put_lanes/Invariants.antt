-- `lags::put_lanes` meets its contract: before turn i the lines of the first i threads stand behind the first one. Assumes nothing.
use mathlib.Core.Path.{◌≡◌}
use mathlib.Core.List.{◌++◌}
use Prim.Native.Nat.{◌+◌, ◌-◌, ◌*◌, ◌≤◌}
use lib.ListN.{length, take}
use Rattle.rules.specs.Board.{printer}
use Rattle.rules.specs.Table.{decode}
use Rattle.lanes.specs.Report.{lane_lines}
use Rattle.lanes.specs.Kept.{of}
use Rattle.lags.specs.Room.{lane_room}
use Rattle.lags.proofs.put_lanes.Given as goal

abbrev pub invariant-loop-i : goal.invariant-loop-i
invariant-loop-i g l =
    let s = decode printer l.table in
    (l.i ≤ printer.threads) × (length l.out ≤ length l.initial.out + l.i * lane_room) × (l.out ≡ l.initial.out ++ lane_lines (of l.accounts) s 0 (take l.i s.threads))

abbrev pub decreases-loop-i : goal.decreases-loop-i
decreases-loop-i g l = 16 - l.i
