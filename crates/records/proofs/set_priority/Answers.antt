-- `records::set_priority` meets its contract: the one byte written makes the row of the changed thread. Assumes nothing.
use Rattle.records.proofs.Written.{priority_written}
use Rattle.records.proofs.set_priority.Goals as goal

pub returns : goal.returns
returns c = priority_written c.args.i c.requires c.args.priority
