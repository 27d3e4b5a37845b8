-- `sleep::ticks` meets its contract: each leap does some of the ticks that are left, and leaves a sound table. Assumes nothing.
use mathlib.Core.Path.{◌≡◌}
use Prim.Native.Nat.{◌-◌, ◌≤◌}
use lib.ListN.{length}
use Rattle.rules.specs.Sleep.{ticks}
use Rattle.layout.specs.Held.{Becomes}
use Rattle.waiting.specs.Does.{Serves}
use Rattle.sleep.proofs.ticks.Given as goal

abbrev pub invariant-loop-left : goal.invariant-loop-left
invariant-loop-left l = (l.left ≤ l.n) × Serves l.t × (length l.t ≡ length l.initial.t) × Becomes l.initial.t l.t (ticks (l.n - l.left))

abbrev pub decreases-loop-left : goal.decreases-loop-left
decreases-loop-left l = l.left
