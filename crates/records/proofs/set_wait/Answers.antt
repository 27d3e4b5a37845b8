-- `records::set_wait` meets its contract: the six bytes written make the row of the changed thread. Assumes nothing.
use Rattle.records.proofs.Written.{wait_written}
use Rattle.records.proofs.set_wait.Goals as goal

pub returns : goal.returns
returns c = wait_written c.args.i c.requires c.args.w _ _ _ c.put_word.ensures c.counter_of.ensures c.kind_of.ensures c.object_of.ensures
