-- `semaphores::pend` meets its contract: a call that must wait waits on the semaphore. Assumes nothing.
use mathlib.Core.Path.{ap}
use Rattle.std.proofs.Common.{rules}
use Rattle.rules.specs.Semaphores.{do_pend}
use Rattle.rules.specs.declared.Wait.TheVariants.{Semaphore}
use Rattle.waiting.proofs.Doing.{does_as}
use Rattle.semaphores.proofs.pend.Goals as goal

pub returns : goal.returns
unfolding do_pend
returns c = does_as (c.must_wait.ensures (Semaphore c.args.k) (ap (Semaphore c.args.k) c.wait_counter-counter.ensures)) (λ s h. search rules)
