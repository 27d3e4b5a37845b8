-- `threads::changes::edit_turn` meets its contract: the two writes are one change of the thread. Assumes nothing.
use Rattle.rules.specs.Lines.{filled}
use Rattle.rules.specs.State.{with_turn}
use Rattle.waiting.proofs.Moving.{edits}
use Rattle.threads.proofs.changes.edit_turn.Goals as goal

pub returns : goal.returns
returns c =
    let a = c.args in
    edits a.i (with_turn a.turn) filled c.requires.0 c.set_turn.ensures c.fill.ensures
