-- `lines::close_gap` meets its contract: before turn j the first j threads have moved up, and the power is that of how many of them stand in
-- the line. Assumes nothing.
use mathlib.Core.Path.{◌≡◌}
use Prim.Native.Nat.{◌^◌, ◌≤◌, ◌-◌}
use lib.ListN.{take, length}
use Rattle.rules.specs.Basic.{count}
use Rattle.rules.specs.Lines.{in_line, move_up}
use Rattle.rules.specs.State.{State}
use Rattle.laws.proofs.Turns.{map_to}
use Rattle.layout.specs.Held.{Holds, Whole, Becomes, on_threads}
use Rattle.marks.specs.Named.{named}
use Rattle.lines.proofs.close_gap.Given as goal

abbrev pub invariant-loop-j : goal.invariant-loop-j
invariant-loop-j v = (v.j ≤ v.threads) × (1 ≤ v.power) × (v.power ≤ 2 ^ v.j) × Whole v.t × (length v.t ≡ length v.initial.t)
    × ((s : State) → Holds v.initial.t s → v.power ≡ 2 ^ count (in_line (named v.fn.line)) (take v.j s.threads))
    × Becomes v.initial.t v.t (on_threads (map_to (move_up (named v.fn.line) v.place) v.j))

abbrev pub decreases-loop-j : goal.decreases-loop-j
decreases-loop-j l = l.threads - l.j
