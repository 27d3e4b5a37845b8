-- `threads::changes::edit_priority` meets its contract: the line stays, and the ready word with it. Assumes nothing.
use Rattle.rules.specs.State.{with_priority}
use Rattle.layout.proofs.Held.{whole_laid, edit_stays}
use Rattle.threads.proofs.changes.edit_priority.Goals as goal

pub set_priority-requires : goal.set_priority-requires
set_priority-requires c = (c.requires.0, whole_laid c.requires.1)

pub returns : goal.returns
returns c = edit_stays c.args.i (with_priority c.args.priority) c.requires.1 c.set_priority.ensures c.requires.2
