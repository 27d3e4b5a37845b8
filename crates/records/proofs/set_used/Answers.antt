-- `records::set_used` meets its contract: the one byte written makes the row of the changed thread. Assumes nothing.
use Rattle.records.proofs.Written.{used_written}
use Rattle.records.proofs.set_used.Goals as goal

pub returns : goal.returns
returns c = used_written c.args.i c.requires c.args.used _ c.from.ensures
