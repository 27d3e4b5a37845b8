-- `writer::asks::used_by` meets its contract: an operation uses the fields with which it is taken. Assumes nothing.
use mathlib.Core.Path.{sym}
use Rattle.writer.proofs.Lines.{unknown, known}
use Rattle.writer.proofs.asks.used_by.Goals as goal

pub returns-in_err-request_of : goal.returns-in_err-request_of
returns-in_err-request_of c = rw c.from_residual.ensures (unknown c.args.operation (sym c.in_err-request_of.ensures))

pub returns : goal.returns
returns c =
    rw (c.is_some.ensures, c.is_some-2.ensures, c.is_some-3.ensures, c.is_some-4.ensures, c.request_of-2.ensures, c.request_of-3.ensures, c.request_of-4.ensures, c.request_of-5.ensures)
    (known c.args.operation (sym c.in_ok-request_of.ensures))
