-- `records::set_suspended` meets its contract: the one byte written makes the row of the changed thread. Assumes nothing.
use Rattle.records.proofs.Written.{suspended_written}
use Rattle.records.proofs.set_suspended.Goals as goal

pub returns : goal.returns
returns c = suspended_written c.args.i c.requires c.args.suspended _ c.from.ensures
