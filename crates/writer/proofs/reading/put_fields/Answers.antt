-- `writer::reading::put_fields` meets its contract: four bytes and two words are the record, one behind the other. Assumes nothing.
use borrow.Author.Rules.{rules}
use mathlib.Core.List.{[], ◌∷◌}
use Rattle.rules.specs.Table.{word_bytes}
use Rattle.writer.proofs.Lines.{word_written, put_in_turn}
use Rattle.writer.proofs.reading.put_fields.Goals as goal

pub returns : goal.returns
returns g c =
    let f = c.args.fields in
    rw (c.extend-3.ensures, c.extend-2.ensures, c.extend.ensures, c.to_le_bytes.ensures, c.to_le_bytes-2.ensures, word_written f.number (search rules), word_written f.parcel (search rules))
    (put_in_turn c.args.out.now (f.operation ∷ f.object ∷ f.priority ∷ 0 ∷ []) (word_bytes f.number) (word_bytes f.parcel))
