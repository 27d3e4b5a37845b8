-- `time::timeouts` meets its contract: before turn i the waits below i have counted down. Assumes nothing.
use mathlib.Core.Path.{ap}
use native.Mathlib.Omega.{arith}
use Rattle.rules.specs.State.{with_threads}
use Rattle.rules.specs.Time.{timeouts}
use Rattle.layout.proofs.Held.{becomes_as, holds_sized}
use Rattle.time.proofs.timeouts.Goals as goal

pub returns : goal.returns
returns c = becomes_as c.loop-i.invariant.2 (λ s h. ap (λ n. with_threads (timeouts n s.threads) s) (omega (arith, c.threads-threads.ensures, (holds_sized h).threads)))
