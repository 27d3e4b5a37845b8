-- `semaphores::in_use` meets its contract: a number out of range reads as a free record. Assumes nothing.
use native.Mathlib.Omega.{arith}
use Rattle.layout.proofs.Boards.{no_sem_lem}
use Rattle.semaphores.proofs.in_use.Goals as goal

pub returns-then-j-semaphores-clause-semaphore : goal.returns-then-j-semaphores-clause-semaphore
returns-then-j-semaphores-clause-semaphore c = λ s e. rw (no_sem_lem c.requires e c.args.k c.semaphores.result c.semaphores.ensures (omega (arith, c.from-j.ensures, c.if-j-semaphores.true)))
