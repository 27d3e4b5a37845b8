-- `records::set_word` meets its contract: the four bytes written make the row of the kernel with that word. Assumes nothing.
use Rattle.layout.specs.Bytes.{puts}
use Rattle.layout.proofs.Held.{word_written}
use Rattle.records.proofs.set_word.Goals as goal

pub returns : goal.returns
unfolding puts
returns c = word_written c.requires c.kernel_from-base.result c.kernel_from-base.ensures.0 c.args.word c.put_word.ensures
