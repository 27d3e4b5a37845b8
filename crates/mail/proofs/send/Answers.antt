-- `mail::send` meets its contract: a call that must wait waits to send. Assumes nothing.
use mathlib.Core.Path.{ap}
use Rattle.std.proofs.Common.{rules}
use Rattle.rules.specs.Mail.{do_send}
use Rattle.rules.specs.declared.Wait.TheVariants.{Send}
use Rattle.waiting.proofs.Doing.{does_as}
use Rattle.mail.proofs.send.Goals as goal

pub returns-then-th : goal.returns-then-th
unfolding do_send
returns-then-th c = does_as (c.must_wait.ensures (Send c.args.i) (ap (Send c.args.i) c.wait_counter-counter.ensures)) (λ s h. search rules)
