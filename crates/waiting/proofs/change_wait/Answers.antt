-- `waiting::change_wait` meets its contract: what is written between the two lines is one change of the thread. Assumes nothing.
use Rattle.std.proofs.Common.{rules}
use Rattle.rules.specs.State.{with_wait, with_outcome}
use Rattle.waiting.proofs.change_wait.Goals as goal

pub moved-requires-clause-change : goal.moved-requires-clause-change
moved-requires-clause-change c = (λ x. with_outcome c.args.outcome c.args.parcel (with_wait c.args.w x), record { callable = λ t h w. search rules; changes = λ t u h w r. search rules })

pub returns-clause-table : goal.returns-clause-table
returns-clause-table c = c.moved.ensures.table _ (record { callable = λ t h w. search rules; changes = λ t u h w r. search rules })
