-- `sleep::pass` meets its contract: before turn i the waits below i are as many ticks later. Assumes nothing.
use mathlib.Core.Path.{◌≡◌}
use Prim.Native.Nat.{◌≤◌, ◌-◌}
use lib.ListN.{length}
use Rattle.leaps.specs.Ticks.{later}
use Rattle.layout.specs.Held.{Becomes, on_threads}
use Rattle.laws.proofs.Turns.{map_to}
use Rattle.sleep.proofs.pass.Given as goal

abbrev pub invariant-loop-i : goal.invariant-loop-i
invariant-loop-i l = (l.i ≤ l.threads) × (length l.t ≡ length l.initial.t) × Becomes l.initial.t l.t (on_threads (map_to (later l.m) l.i))

abbrev pub decreases-loop-i : goal.decreases-loop-i
decreases-loop-i l = l.threads - l.i
