-- `records::set_sem` meets its contract: the two bytes written make the row of the semaphore. Assumes nothing.
use Rattle.records.proofs.Written.{sem_set}
use Rattle.records.proofs.set_sem.Goals as goal

pub returns : goal.returns
returns c = sem_set c.args.k c.args.e c.requires _ _ c.from.ensures c.semaphore_from-base.ensures.0
