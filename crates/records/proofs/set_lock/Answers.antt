-- `records::set_lock` meets its contract: the one byte written makes the row of the changed kernel. Assumes nothing.
use Rattle.records.proofs.Written.{lock_written}
use Rattle.records.proofs.set_lock.Goals as goal

pub returns : goal.returns
returns c = lock_written c.requires _ c.kernel_from-base.ensures.0 c.args.n
