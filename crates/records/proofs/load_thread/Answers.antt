-- `records::load_thread` meets its contract: each field is what the record says, and the record is the thread's. Assumes
-- nothing.
use mathlib.Core.Path.{sym, ◌∙◌}
use Rattle.layout.proofs.Boards.{thread_told}
use Rattle.records.proofs.Rows.{thread_read}
use Rattle.records.proofs.load_thread.Goals as goal

pub returns : goal.returns
returns c =
    λ s e. rw (c.wait_of-wait.ensures, c.word_at-counter.ensures, c.from-outcome.ensures, c.word_at-turn.ensures, c.word_at-value.ensures, c.word_at-parcel.ensures)
    (sym (thread_read _ _) ∙ thread_told c.requires.1 e c.args.i c.requires.0)
