-- `semaphores::make` meets its contract: each way out is a branch of the rule. Assumes nothing.
use native.Mathlib.Omega.{arith}
use lib.ListN.{length}
use borrow.Author.Tests.{le-leb, lt-leb, lt-ltb, le-ltb}
use Rattle.rules.specs.Board.{most_count}
use Rattle.rules.specs.Semaphores.{do_make}
use Rattle.layout.proofs.Boards.{sized}
use Rattle.layout.proofs.Held.{holds_sized}
use Rattle.waiting.proofs.Doing.{does_nothing, then_does}
use Rattle.semaphores.proofs.make.Goals.{then-j-semaphores-via-then-j-semaphores, then-j-semaphores-via-else-j-semaphores+then-load_sem}
use Rattle.semaphores.proofs.make.Goals as goal

pub returns-then-j-semaphores : goal.returns-then-j-semaphores
unfolding do_make
returns-then-j-semaphores c = does_nothing c.requires.whole (λ s e.
    let n = (sized c.requires.whole.long e).sems in
    elim c.then-j-semaphores.branch [
      | then-j-semaphores-via-then-j-semaphores w ↦ rw (le-leb (length s.sems) c.args.k (omega (arith, c.from-j.ensures, c.semaphores.ensures, n, w.if-j-semaphores.true)))
      | then-j-semaphores-via-else-j-semaphores+then-load_sem w ↦ rw (lt-leb (length s.sems) c.args.k (omega (arith, c.from-j.ensures, c.semaphores.ensures, n, w.if-j-semaphores.false)), ← c.from-j.ensures, ← w.load_sem.ensures s e, w.if-load_sem.true)
    ])

pub returns-then-n-gt-MOST_COUNT : goal.returns-then-n-gt-MOST_COUNT
unfolding do_make
returns-then-n-gt-MOST_COUNT c = does_nothing c.requires.whole (λ s e. rw (lt-leb (length s.sems) c.args.k (omega (arith, c.from-j.ensures, c.semaphores.ensures, (sized c.requires.whole.long e).sems)), ← c.from-j.ensures, ← c.load_sem.ensures s e, c.if-load_sem.false, lt-ltb most_count c.args.n c.if-n-gt-MOST_COUNT.true))

pub returns : goal.returns
unfolding do_make
returns c =
    then_does c.set_count.ensures c.accept.ensures (λ s h. rw (lt-leb (length s.sems) c.args.k (omega (arith, c.from-j.ensures, c.semaphores.ensures, (holds_sized h).sems)), ← c.from-j.ensures, ← c.load_sem.ensures s h.says, c.if-load_sem.false, le-ltb most_count c.args.n c.if-n-gt-MOST_COUNT.false))
