-- `sleep::round` meets its contract: before turn j the sum is that over the first j threads, and no turn is above 99,999. Where a part of the sum is
-- above `most`, so is the whole. Assumes nothing.
use mathlib.Core.Path.{◌≡◌}
use Prim.Native.Nat.{◌-◌, ◌*◌, ◌≤◌}
use lib.ListN.{take}
use Rattle.rules.specs.Board.{most_ticks}
use Rattle.layout.specs.Held.{said}
use Rattle.fairness.specs.Run.{sum_turns}
use Rattle.sleep.proofs.round.Given as goal

abbrev pub invariant-loop-j : goal.invariant-loop-j
invariant-loop-j l = (l.j ≤ l.threads) × (l.turns ≤ l.j * most_ticks) × (l.turns ≡ sum_turns l.priority (take l.j (said l.t).threads))

abbrev pub decreases-loop-j : goal.decreases-loop-j
decreases-loop-j l = l.threads - l.j
