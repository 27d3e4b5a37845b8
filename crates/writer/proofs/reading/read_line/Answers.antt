-- `writer::reading::read_line` meets its contract: each way out has passed the tests that pick its case. Assumes nothing.
use mathlib.Core.Path.{sym, ap, ◌∙◌}
use Prim.Native.Nat.{◌<◌}
use Rattle.std.specs.Result.{OkIff}
use Rattle.writer.specs.Lines.{rest_of}
use Rattle.listing.proofs.Trips.{too_long_lem}
use Rattle.writer.proofs.Lines.{none_ok, some_ok, not_a_number, large_operation, line_read}
use Rattle.writer.proofs.reading.read_line.Goals as goal

pub returns-then-line-gt-LINE_MOST : goal.returns-then-line-gt-LINE_MOST
returns-then-line-gt-LINE_MOST c = too_long_lem c.args.line.now c.if-line-gt-LINE_MOST.true

pub returns-in_err-first : goal.returns-in_err-first
returns-in_err-first c = rw c.from_residual.ensures (not_a_number c.args.line.now c.if-line-gt-LINE_MOST.false c.in_err-first.ensures)

pub returns-in_err-ok : goal.returns-in_err-ok
returns-in_err-ok c =
    let n = c.in_ok-first.first.number in
    let large = none_ok (λ x. OkIff x (n < 256) n) c.try_from.result (sym c.in_err-ok.was ∙ c.ok.ensures.value) c.try_from.ensures in
    rw c.from_residual-in_err-ok.ensures (large_operation c.args.line.now c.if-line-gt-LINE_MOST.false c.in_ok-first.ensures large.1)

pub returns : goal.returns
returns c =
    let n = c.in_ok-first.first.number in
    let fits = some_ok (λ x. OkIff x (n < 256) n) c.try_from.result c.in_ok-ok.field-0 (sym c.in_ok-ok.was ∙ c.ok.ensures.value) c.try_from.ensures in
    c.fields_from.ensures ∙ ap (λ k. rest_of k c.in_ok-first.first.rest.now) fits.1 ∙ line_read c.args.line.now c.if-line-gt-LINE_MOST.false c.in_ok-first.ensures fits.0
