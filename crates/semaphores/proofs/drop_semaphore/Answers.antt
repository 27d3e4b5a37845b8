-- `semaphores::drop_semaphore` meets its contract: as many waiters are served as stand in the line at first. Assumes nothing.
use native.Mathlib.Omega.{arith}
use Rattle.std.proofs.Common.{rules}
use Rattle.rules.specs.Semaphores.{do_drop}
use Rattle.layout.proofs.Held.{◌⨾◌}
use Rattle.waiting.proofs.Doing.{then_does}
use Rattle.semaphores.proofs.drop_semaphore.Goals as goal

pub set_sem-requires : goal.set_sem-requires
set_sem-requires c = (omega (arith, c.in_ok-in_use.ensures.on_board, c.serve.auto), c.serve.ensures.whole)

pub returns : goal.returns
unfolding do_drop
returns c =
    then_does (c.serve.ensures ⨾ c.set_sem.ensures) c.accept.ensures (λ s h. rw (← c.length-n.ensures s h.says) (search rules))
