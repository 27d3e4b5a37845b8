-- `mail::empty_mailbox` meets its contract: the line's length and its first are those of the rule; where nobody is first, the rule's number
-- is out of range, reads as a free record, and ends nobody's wait. Assumes nothing.
use borrow.Author.Tests.{eq-eqb, ne_eqb}
use lib.ListN.{get_or-eq_default}
use Rattle.rules.specs.Lines.{senders, first}
use Rattle.rules.specs.State.{free}
use Rattle.rules.specs.Mail.{emptied}
use Rattle.rules.specs.declared.Outcome.TheVariants.{Done}
use Rattle.layout.proofs.Held.{◌⨾◌, becomes_as}
use Rattle.lines.proofs.First.{first_some, first_none}
use Rattle.waiting.proofs.Waits.{end_out}
use Rattle.mail.proofs.empty_mailbox.Goals as goal

pub returns-then-length-eq0 : goal.returns-then-length-eq0
unfolding emptied
returns-then-length-eq0 c = becomes_as c.set_mail.ensures (λ s h. rw (← c.length.ensures s h.says, eq-eqb _ _ c.if-length-eq0.true))

pub returns-in-Some : goal.returns-in-Some
unfolding emptied
returns-in-Some c =
    becomes_as (c.end_wait.ensures ⨾ c.set_mail-in-Some.ensures)
    (λ s h. rw (← c.length.ensures s h.says, ne_eqb _ _ c.if-length-eq0.false, ← (first_some (senders c.args.r) s.threads (c.in-Some.ensures.first s h.says)).0, c.load_thread-th.ensures s h.says))

pub returns-in_default : goal.returns-in_default
unfolding emptied
returns-in_default c =
    becomes_as c.set_mail-in_default.ensures
    (λ s h.
    let out = first_none (senders c.args.r) s.threads (c.in_default.ensures.first s h.says) in
    rw (← c.length.ensures s h.says, ne_eqb _ _ c.if-length-eq0.false, end_out (first (senders c.args.r) s.threads) Done 0 s.threads out, get_or-eq_default s.threads free {n = first (senders c.args.r) s.threads} out))
