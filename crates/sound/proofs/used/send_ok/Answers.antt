-- `sound::used::send_ok` meets its contract: a number past the threads reads as a free one, to which nobody sends. Assumes nothing.
use borrow.Author.Tests.{eq-eqb}
use Rattle.laws.proofs.Split.{and_off}
use Rattle.layout.proofs.Boards.{no_thread_lem}
use Rattle.sound.proofs.used.send_ok.Goals.{then-i-to-via-then-i-to, then-i-to-via-else-i-to+then-to-threads}
use Rattle.sound.proofs.used.send_ok.Goals as goal

pub returns-then-i-to : goal.returns-then-i-to
returns-then-i-to c s e = elim c.then-i-to.branch [
  | then-i-to-via-then-i-to w ↦ rw (eq-eqb _ _ w.if-i-to.true)
  | then-i-to-via-else-i-to+then-to-threads w ↦ rw (no_thread_lem c.requires e c.args.to _ w.threads.ensures.0 w.if-to-threads.true, and_off)
]
