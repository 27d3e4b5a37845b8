-- `records::set_turn` meets its contract: the four bytes written make the row of the changed thread. Assumes nothing.
use Rattle.records.proofs.Written.{turn_written}
use Rattle.records.proofs.set_turn.Goals as goal

pub returns : goal.returns
returns c = turn_written c.args.i c.requires c.args.turn c.put_word.ensures
