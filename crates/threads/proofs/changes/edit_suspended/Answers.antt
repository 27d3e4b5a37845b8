-- `threads::changes::edit_suspended` meets its contract: the line stays, and the ready word with it. Assumes nothing.
use Rattle.rules.specs.State.{with_suspended}
use Rattle.layout.proofs.Held.{whole_laid, edit_stays}
use Rattle.threads.proofs.changes.edit_suspended.Goals as goal

pub set_suspended-requires : goal.set_suspended-requires
set_suspended-requires c = (c.requires.0, whole_laid c.requires.1)

pub returns : goal.returns
returns c = edit_stays c.args.i (with_suspended c.args.suspended) c.requires.1 c.set_suspended.ensures c.requires.2
