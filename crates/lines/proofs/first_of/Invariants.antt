-- `lines::first_of` meets its contract: before turn j none of the first j threads is the line's first. Assumes nothing.
use mathlib.Core.Bool.{false}
use mathlib.Core.Path.{◌≡◌}
use Prim.Native.Nat.{ℕ, ◌<◌}
use Rattle.rules.specs.Lines.{Line, is_first}
use Rattle.rules.specs.State.{State, at}
use Rattle.layout.specs.Held.{said}
use Rattle.marks.specs.Numbers.{line_number}
use Rattle.lines.proofs.first_of.Given as goal

abbrev pub invariant-loop-j : goal.invariant-loop-j
invariant-loop-j v = (s : State) (l : Line) → said v.t ≡ s → v.line ≡ line_number l → (k : ℕ) → k < v.j → is_first l (at s.threads k) ≡ false
