-- `records::set_outcome` meets its contract: the five bytes written make the row of the changed thread. Assumes nothing.
use Rattle.records.proofs.Written.{outcome_written}
use Rattle.records.proofs.set_outcome.Goals as goal

pub returns : goal.returns
returns c = outcome_written c.args.i c.requires c.args.o c.args.parcel _ c.put_word.ensures c.from.ensures
