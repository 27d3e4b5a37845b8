-- `mail::receive` meets its contract: a call that must wait waits to receive. Assumes nothing.
use mathlib.Core.Path.{ap}
use Rattle.std.proofs.Common.{rules}
use Rattle.rules.specs.Mail.{do_receive}
use Rattle.rules.specs.declared.Wait.TheVariants.{Receive}
use Rattle.waiting.proofs.Doing.{does_as}
use Rattle.mail.proofs.receive.Goals as goal

pub returns : goal.returns
unfolding do_receive
returns c = does_as (c.must_wait.ensures Receive (ap Receive c.wait_counter-counter.ensures)) (λ s h. search rules)
