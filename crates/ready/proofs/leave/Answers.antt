-- `ready::leave` meets its contract: as many stood in the line as its length still says, and if that is 1 the bit goes with the thread. Assumes nothing.
use mathlib.Core.Path.{ap, sym, ◌∙◌}
use borrow.Author.Tests.{eq-eqb, ne_eqb}
use Rattle.rules.specs.Lines.{tail_place}
use Rattle.ready.specs.Word.{ready_bit}
use Rattle.ready.proofs.Mended.{stood_there}
use Rattle.ready.proofs.leave.Goals as goal

pub returns-then-stood-eq1-clause-left : goal.returns-then-stood-eq1-clause-left
returns-then-stood-eq1-clause-left c = λ s e.
    let i = c.args.i in
    let left = c.leave-stood.ensures in
    rw (eq-eqb (tail_place i s.threads) 1 (stood_there i c.requires.0 c.requires.1 left.table left.count s e ∙ c.if-stood-eq1.true)) (c.ready_bit.ensures ∙ ap ready_bit (c.load_thread.ensures s e))

pub returns-else-stood-eq1-clause-left : goal.returns-else-stood-eq1-clause-left
returns-else-stood-eq1-clause-left c = λ s e.
    let i = c.args.i in
    let left = c.leave-stood.ensures in
    rw (ne_eqb (tail_place i s.threads) 1 (λ one. c.if-stood-eq1.false (sym (stood_there i c.requires.0 c.requires.1 left.table left.count s e) ∙ one)))
