-- `threads::changes::restart` meets its contract: the thread is resumed between the two lines. Assumes nothing.
use Rattle.std.proofs.Common.{rules, false}
use Rattle.rules.specs.State.{with_suspended}
use Rattle.layout.proofs.Held.{whole_laid}
use Rattle.threads.proofs.changes.restart.Goals as goal

pub moved-requires-clause-change : goal.moved-requires-clause-change
moved-requires-clause-change c = (with_suspended false, record { callable = λ t h w. search (rules, whole_laid); changes = λ t u h w r. search rules })

pub returns : goal.returns
returns c = c.moved.ensures.table _ (record { callable = λ t h w. search (rules, whole_laid); changes = λ t u h w r. search rules })
