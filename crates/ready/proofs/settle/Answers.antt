-- `lines::settle` meets its contract: the lock decides, and the thread that is to run is the top one. Assumes nothing.
use mathlib.Core.Path.{◌≡◌, sym, ap, ◌∙◌}
use borrow.Author.Tests.{eq-eqb, ne_eqb}
use Rattle.rules.specs.Lines.{settle}
use Rattle.rules.specs.State.{with_running}
use Rattle.layout.proofs.Held.{becomes_as, becomes_same}
use Rattle.ready.proofs.settle.Goals as goal

pub returns-then-lock-ne0 : goal.returns-then-lock-ne0
unfolding settle
returns-then-lock-ne0 c =
    becomes_same c.requires (λ s h. rw (ne_eqb s.lock 0 (λ z. c.if-lock-ne0.true (c.lock.ensures s h.says ∙ z))))

pub returns : goal.returns
unfolding settle
returns c =
    becomes_as c.set_running.ensures (λ s h.
    let free : s.lock ≡ 0 = sym (c.lock.ensures s h.says) ∙ c.if-lock-ne0.false in
    rw (eq-eqb s.lock 0 free) (ap (λ r. with_running r s) (c.top_thread-i.ensures.1 s h.says)))
