-- `threads::changes::create_thread` meets its contract: a created thread's record is stored between the two lines. Assumes nothing.
use Rattle.std.proofs.Common.{rules}
use Rattle.rules.specs.Threads.{created}
use Rattle.threads.proofs.changes.create_thread.Goals as goal

pub moved-requires-clause-change : goal.moved-requires-clause-change
moved-requires-clause-change c = ((λ x. created c.args.priority c.args.turn), record { callable = λ t h w. search rules; changes = λ t u h w r. search rules })

pub returns : goal.returns
returns c = c.moved.ensures.table _ (record { callable = λ t h w. search rules; changes = λ t u h w r. search rules })
