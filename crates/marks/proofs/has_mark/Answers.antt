-- `marks::has_mark` meets its contract: the eight bytes are the thread's, and the mark tells what it is for. Assumes nothing.
use native.Mathlib.Omega.{arith}
use Rattle.marks.proofs.Marked.{line_known, first_known}
use Rattle.marks.proofs.has_mark.Goals as goal

pub returns-clause-line : goal.returns-clause-line
returns-clause-line c = λ s l h e. rw c.head.ensures (line_known h (λ k. omega (arith, c.type_inv.t k)) c.args.j c.requires.0 l e)

pub returns-clause-first : goal.returns-clause-first
returns-clause-first c = λ s l h e. rw c.head.ensures (first_known h (λ k. omega (arith, c.type_inv.t k)) c.args.j c.requires.0 l e)
