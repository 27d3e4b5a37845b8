-- `records::set_counter` meets its contract: the four bytes are the counter's, whatever its thread waits for. Assumes nothing.
use Rattle.records.proofs.Written.{counter_written}
use Rattle.records.proofs.set_counter.Goals as goal

pub returns : goal.returns
returns c = counter_written c.args.i c.requires c.args.counter c.put_word.ensures
