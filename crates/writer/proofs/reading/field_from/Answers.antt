-- `writer::reading::field_from` meets its contract: what is read is converted. Assumes nothing.
use mathlib.Core.Path.{refl, sym, ◌∙◌}
use Rattle.writer.proofs.Lines.{none_ok, some_ok}
use Rattle.writer.proofs.reading.field_from.Goals as goal

pub returns-in_err-ok : goal.returns-in_err-ok
returns-in_err-ok g c = rw (c.from_residual-in_err-ok.ensures, ← c.in_ok-field.ensures) (none_ok (g.T.TryFrom.try_from_gives c.in_ok-field.field.number) c.try_from.result (sym c.in_err-ok.was ∙ c.ok.ensures.value) c.try_from.ensures)

pub returns : goal.returns
returns g c = rw (← c.in_ok-field.ensures) (some_ok (g.T.TryFrom.try_from_gives c.in_ok-field.field.number) c.try_from.result c.in_ok-ok.field-0 (sym c.in_ok-ok.was ∙ c.ok.ensures.value) c.try_from.ensures, refl)
