-- `lags::rank_of` meets its contract: before turn j both sums are those over the first j threads, and none is above its bound. Assumes nothing.
use mathlib.Core.Path.{◌≡◌}
use Prim.Native.Nat.{◌-◌, ◌*◌, ◌≤◌}
use lib.ListN.{take}
use Rattle.rules.specs.Board.{printer, most_ticks}
use Rattle.rules.specs.Table.{decode}
use Rattle.fairness.specs.Run.{sum_turns}
use Rattle.lanes.specs.Lag.{sum_over}
use Rattle.lanes.specs.Report.{most_charges}
use Rattle.lanes.specs.Kept.{of}
use Rattle.lags.proofs.rank_of.Given as goal

abbrev pub invariant-loop-j : goal.invariant-loop-j
invariant-loop-j l =
    let ts = (decode printer l.table).threads in
    (l.j ≤ printer.threads) × (l.turns ≤ l.j * most_ticks) × (l.charged ≤ l.j * most_charges) × (l.turns ≡ sum_turns l.priority (take l.j ts)) × (l.charged ≡ sum_over l.priority (of l.accounts) 0 (take l.j ts))

abbrev pub decreases-loop-j : goal.decreases-loop-j
decreases-loop-j l = 16 - l.j
