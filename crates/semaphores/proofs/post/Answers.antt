-- `semaphores::post` meets its contract: the length that was read is that of the semaphore's line. Assumes nothing.
use native.Mathlib.Omega.{arith}
use Rattle.std.proofs.Common.{rules}
use Rattle.rules.specs.Semaphores.{posted, do_post}
use Rattle.layout.proofs.Held.{◌⨾◌}
use Rattle.waiting.proofs.Doing.{does_nothing, then_does}
use Rattle.semaphores.proofs.post.Goals as goal

pub returns-then-too_many : goal.returns-then-too_many
unfolding do_post
returns-then-too_many c =
    does_nothing c.requires.whole (λ s e. let n = c.length.ensures s e in search rules)

pub set_count-requires : goal.set_count-requires
set_count-requires c = (omega (arith, c.in_ok-e.ensures.on_board, c.serve.auto), c.serve.ensures.whole)

pub returns : goal.returns
unfolding posted do_post
returns c =
    then_does (c.serve.ensures ⨾ c.set_count.ensures) c.accept.ensures (λ s h.
    let n = c.length.ensures s h.says in search rules)
