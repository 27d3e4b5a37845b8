-- `ready::top_thread` meets its contract: no line from p on has a first, as the word says of those above its highest bit, and before turn j none
-- of the first j threads is that of line p. Assumes nothing.
use mathlib.Core.Bool.{false}
use mathlib.Core.Path.{◌≡◌}
use Prim.Native.Nat.{ℕ, ◌<◌}
use Rattle.rules.specs.Lines.{ready, is_first, top_below, top}
use Rattle.rules.specs.State.{State, at}
use Rattle.layout.specs.Held.{said}
use Rattle.ready.proofs.top_thread.Given as goal

abbrev pub invariant-loop-p : goal.invariant-loop-p
invariant-loop-p l = (s : State) → said l.t ≡ s → top s.threads ≡ top_below l.p s.threads

abbrev pub invariant-loop-j : goal.invariant-loop-j
invariant-loop-j l = (s : State) → said l.t ≡ s → (k : ℕ) → k < l.j → is_first (ready l.p) (at s.threads k) ≡ false
