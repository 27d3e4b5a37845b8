-- `time::timeouts` meets its contract: before turn i the waits below i have counted down. Assumes nothing.
use mathlib.Core.Path.{◌≡◌}
use Prim.Native.Nat.{◌≤◌, ◌-◌}
use lib.ListN.{length}
use Rattle.rules.specs.Time.{timeouts}
use Rattle.layout.specs.Held.{Becomes, on_threads}
use Rattle.time.proofs.timeouts.Given as goal

abbrev pub invariant-loop-i : goal.invariant-loop-i
invariant-loop-i l = (l.i ≤ l.threads) × (length l.t ≡ length l.initial.t) × Becomes l.initial.t l.t (on_threads (timeouts l.i))

abbrev pub decreases-loop-i : goal.decreases-loop-i
decreases-loop-i l = l.threads - l.i
