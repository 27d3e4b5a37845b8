-- `time::tick` meets its contract: the charge comes first, then the waits. Assumes nothing.
use mathlib.Core.Path.{◌≡◌}
use native.Mathlib.Omega.{arith}
use lib.ListN.{length}
use Rattle.rules.specs.Time.{charged, do_tick}
use Rattle.layout.proofs.Held.{◌⨾◌, holds_sized}
use Rattle.waiting.proofs.Doing.{then_does}
use Rattle.time.proofs.tick.Goals as goal

pub returns : goal.returns
unfolding do_tick
returns c =
    let due = c.charged in
    then_does (due.ensures ⨾ c.timeouts.ensures) c.accept.ensures (λ s h.
    let same : length (charged s) ≡ length s.threads = omega (arith, (holds_sized h).threads, (holds_sized (due.ensures.holds s h)).threads, due.auto) in
    rw same)
