-- `records::set_mail` meets its contract: the five bytes written make the row of the changed thread. Assumes nothing.
use Rattle.records.proofs.Written.{mail_written}
use Rattle.records.proofs.set_mail.Goals as goal

pub returns : goal.returns
returns c = mail_written c.args.i c.requires c.args.full c.args.value _ c.put_word.ensures c.from.ensures
