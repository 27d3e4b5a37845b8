-- `records::thread_at` meets its contract: a number out of range reads as a free record. Assumes nothing.
use mathlib.Core.Path.{sym}
use native.Mathlib.Omega.{arith}
use Rattle.layout.proofs.Boards.{no_thread_lem}
use Rattle.records.proofs.thread_at.Goals as goal

pub returns-then-k-threads : goal.returns-then-k-threads
returns-then-k-threads c = λ s e. sym (no_thread_lem c.requires e c.args.i c.threads.result c.threads.ensures.0 (omega (arith, c.from-k.ensures, c.if-k-threads.true)))
