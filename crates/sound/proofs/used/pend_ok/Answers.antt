-- `sound::used::pend_ok` meets its contract: a number past the semaphores reads as a free one, on which nobody waits. Assumes nothing.
use Rattle.layout.proofs.Boards.{no_sem_lem}
use Rattle.sound.proofs.used.pend_ok.Goals as goal

pub returns-then-on-semaphores : goal.returns-then-on-semaphores
returns-then-on-semaphores c s e = rw (no_sem_lem c.requires e c.args.on _ c.semaphores.ensures c.if-on-semaphores.true)
