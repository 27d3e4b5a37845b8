-- `marks::mark_of` meets its contract: a number says its line's kind and its object. Assumes nothing.
use mathlib.Core.Path.{ap, sym, ◌∙◌}
use native.Mathlib.Omega.{arith}
use Rattle.rules.specs.Lines.{ready, waiters, senders}
use Rattle.marks.specs.Marks.{mark_of}
use Rattle.marks.proofs.Numbered.{none_of, same_line}
use Rattle.marks.proofs.Marked.{beyond}
use Rattle.marks.proofs.mark_of.Goals as goal

pub returns-then-line-eq0 : goal.returns-then-line-eq0
returns-then-line-eq0 c = λ l e. ap mark_of (sym (none_of l (sym c.if-line-eq0.true ∙ e)))

pub returns-then-object-gt255 : goal.returns-then-object-gt255
returns-then-object-gt255 c = λ l e. beyond l c.args.line e c.if-object-gt255.true

pub returns-in-0 : goal.returns-in-0
returns-in-0 c = λ l e. c.line_mark.ensures ∙ ap mark_of (same_line (ready _) l (omega arith) (omega arith))

pub returns-in-1 : goal.returns-in-1
returns-in-1 c = λ l e. c.line_mark-in-1.ensures ∙ ap mark_of (same_line (waiters _) l (omega arith) (omega arith))

pub returns-in_default : goal.returns-in_default
returns-in_default c = λ l e. c.line_mark-in_default.ensures ∙ ap mark_of (same_line (senders _) l (omega arith) (omega arith))
