-- `threads::changes::move_priority` meets its contract: the thread is given its priority between the two lines. Assumes nothing.
use Rattle.std.proofs.Common.{rules}
use Rattle.rules.specs.State.{with_priority}
use Rattle.layout.proofs.Held.{whole_laid}
use Rattle.threads.proofs.changes.move_priority.Goals as goal

pub moved-requires-clause-change : goal.moved-requires-clause-change
moved-requires-clause-change c = (with_priority c.args.priority, record { callable = λ t h w. search (rules, whole_laid); changes = λ t u h w r. search rules })

pub returns : goal.returns
returns c = c.moved.ensures.table _ (record { callable = λ t h w. search (rules, whole_laid); changes = λ t u h w r. search rules })
