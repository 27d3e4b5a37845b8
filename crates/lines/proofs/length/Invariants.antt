-- `lines::length` meets its contract: before turn j the power is that of how many of the first j threads stand in the line. Assumes
-- nothing.
use mathlib.Core.Path.{◌≡◌}
use Prim.Native.Nat.{◌^◌, ◌≤◌, ◌-◌}
use lib.ListN.{take}
use Rattle.rules.specs.Lines.{in_line}
use Rattle.rules.specs.State.{State}
use Rattle.rules.specs.Basic.{count}
use Rattle.layout.specs.Held.{said}
use Rattle.marks.specs.Named.{named}
use Rattle.lines.proofs.length.Given as goal

abbrev pub invariant-loop-j : goal.invariant-loop-j
invariant-loop-j v = (v.j ≤ v.threads) × (1 ≤ v.power) × (v.power ≤ 2 ^ v.j)
    × ((s : State) → said v.t ≡ s → v.power ≡ 2 ^ count (in_line (named v.fn.line)) (take v.j s.threads))

abbrev pub decreases-loop-j : goal.decreases-loop-j
decreases-loop-j l = l.threads - l.j
