-- `writer::reading::any_field` meets its contract: each way out has passed the tests that pick its case. Assumes nothing.
use mathlib.Core.Path.{ap, ◌∙◌}
use Rattle.listing.specs.Line.{number_from}
use Rattle.writer.specs.Lines.{told}
use Rattle.writer.proofs.Lines.{unused, no_space, spaced}
use Rattle.writer.proofs.reading.any_field.Goals as goal

pub returns-then-not-used : goal.returns-then-not-used
returns-then-not-used c = unused c.args.used c.args.text.now c.if-not-used.true

pub returns-in_err-strip_prefix : goal.returns-in_err-strip_prefix
returns-in_err-strip_prefix c = rw c.from_residual.ensures (no_space c.args.used c.args.text.now c.if-not-used.false c.in_err-strip_prefix.ensures.cases)

pub returns : goal.returns
returns c = c.number_from.ensures ∙ ap (λ t. told (number_from t)) c.in_ok-strip_prefix.ensures.cases.1 ∙ spaced c.args.used c.args.text.now c.if-not-used.false c.in_ok-strip_prefix.ensures.cases.0
