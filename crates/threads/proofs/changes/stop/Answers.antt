-- `threads::changes::stop` meets its contract: what is written between the two lines is one change of the thread. Assumes nothing.
use Rattle.std.proofs.Common.{rules}
use Rattle.rules.specs.Threads.{stopped}
use Rattle.threads.proofs.changes.stop.Goals as goal

pub moved-requires-clause-change : goal.moved-requires-clause-change
moved-requires-clause-change c = (stopped, record { callable = λ t h w. search rules; changes = λ t u h w r. search rules })

pub returns : goal.returns
returns c = c.moved.ensures.table _ (record { callable = λ t h w. search rules; changes = λ t u h w r. search rules })
