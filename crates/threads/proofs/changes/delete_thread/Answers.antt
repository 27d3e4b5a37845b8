-- `threads::changes::delete_thread` meets its contract: as many senders are served as stand in the line at first. Assumes nothing.
use Rattle.std.proofs.Common.{rules}
use Rattle.rules.specs.Threads.{deleted}
use Rattle.rules.specs.State.{free}
use Rattle.layout.proofs.Held.{◌⨾◌, becomes_as}
use Rattle.threads.proofs.changes.delete_thread.Goals as goal

pub moved-requires-clause-change : goal.moved-requires-clause-change
moved-requires-clause-change c = ((λ x. free), record { callable = λ t h w. search rules; changes = λ t u h w r. search rules })

pub serve-requires : goal.serve-requires
serve-requires c = (c.moved.ensures.table (λ x. free) (record { callable = λ t h w. search rules; changes = λ t u h w r. search rules })).whole

pub returns : goal.returns
unfolding deleted
returns c =
    let i = c.args.i in
    becomes_as (c.moved.ensures.table (λ x. free) (record { callable = λ t h w. search rules; changes = λ t u h w r. search rules }) ⨾ c.serve.ensures)
    (λ s h. rw (c.from-k.ensures, c.length-n.ensures s h.says))
