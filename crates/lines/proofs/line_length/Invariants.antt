-- `lines::line_length` meets its contract: before turn j the power is that of how many of the first j threads stand in the line. Assumes
-- nothing.
use mathlib.Core.Path.{◌≡◌}
use Prim.Native.Nat.{◌^◌, ◌≤◌, ◌-◌}
use lib.ListN.{take}
use Rattle.rules.specs.Lines.{Line, in_line}
use Rattle.rules.specs.State.{State}
use Rattle.rules.specs.Basic.{count}
use Rattle.layout.specs.Held.{said}
use Rattle.marks.specs.Numbers.{line_number}
use Rattle.lines.proofs.line_length.Given as goal

abbrev pub invariant-loop-j : goal.invariant-loop-j
invariant-loop-j v = (v.j ≤ v.threads) × (1 ≤ v.power) × (v.power ≤ 2 ^ v.j)
    × ((s : State) (l : Line) → said v.t ≡ s → v.line ≡ line_number l → v.power ≡ 2 ^ count (in_line l) (take v.j s.threads))

abbrev pub decreases-loop-j : goal.decreases-loop-j
decreases-loop-j l = l.threads - l.j
