-- `waiting::in_use` meets its contract: a thread in use is on the board. Assumes nothing.
use Rattle.waiting.proofs.There.{there}
use Rattle.waiting.proofs.in_use.Goals as goal

pub returns-then-th-clause-on_board : goal.returns-then-th-clause-on_board
returns-then-th-clause-on_board c = there c.requires c.thread_at-th.ensures c.if-th.true
