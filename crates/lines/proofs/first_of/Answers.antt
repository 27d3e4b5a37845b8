-- `lines::first_of` meets its contract: before turn j none of the first j threads is the line's first. Assumes nothing.
use mathlib.Core.Path.{◌≡◌, sym, ◌∙◌}
use native.Mathlib.Omega.{arith}
use borrow.Author.Count.{below_more}
use lib.ListN.{length}
use Rattle.rules.specs.Lines.{is_first}
use Rattle.rules.specs.State.{free}
use Rattle.laws.proofs.Turns.{find_at, find_none}
use Rattle.layout.proofs.Boards.{sized}
use Rattle.lines.proofs.first_of.Goals as goal

pub loop-j-preserved : goal.loop-j-preserved
loop-j-preserved c = λ s l e q. below_more _ _ (c.loop-j.invariant s l e q) (sym (c.leads.ensures s l e (c.mark_of-m.ensures l q)) ∙ c.if-leads.false)

pub returns-then-leads : goal.returns-then-leads
returns-then-leads c =
    λ s l e q. sym (find_at (is_first l) free s.threads c.loop-j.j (omega (arith, c.threads-threads.ensures, c.loop-j-test.true, (sized c.requires.long e).threads)) (c.loop-j.invariant s l e q)
    (sym (c.leads.ensures s l e (c.mark_of-m.ensures l q)) ∙ c.if-leads.true))

pub returns : goal.returns
returns c = λ s l e q.
    let n : length s.threads ≡ c.threads-threads.result = omega (arith, c.threads-threads.ensures, (sized c.requires.long e).threads) in
    sym (find_none (is_first l) free s.threads (λ k o. c.loop-j.invariant s l e q k (omega (arith, c.loop-j-test.false))) ∙ n)
