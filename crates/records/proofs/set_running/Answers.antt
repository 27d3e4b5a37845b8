-- `records::set_running` meets its contract: the one byte written makes the row of the changed kernel. Assumes nothing.
use Rattle.records.proofs.Written.{running_written}
use Rattle.records.proofs.set_running.Goals as goal

pub returns : goal.returns
returns c = running_written c.requires.1 _ c.kernel_from-base.ensures.0 c.args.i
