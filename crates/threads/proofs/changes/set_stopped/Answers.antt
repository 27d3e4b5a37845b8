-- `threads::changes::set_stopped` meets its contract: the two writes are one change of the thread. Assumes nothing.
use mathlib.Core.Bool.{true}
use mathlib.Core.Path.{ap}
use native.Mathlib.Omega.{arith}
use Rattle.rules.specs.State.{with_wait, with_suspended, with_threads}
use Rattle.rules.specs.declared.Wait.TheVariants.{Nothing}
use Rattle.layout.proofs.Boards.{has_thread}
use Rattle.layout.proofs.Held.{◌⨟◌, whole_laid, changes_as, edit_edit}
use Rattle.threads.proofs.changes.set_stopped.Goals as goal

pub set_suspended-requires : goal.set_suspended-requires
set_suspended-requires c = (c.requires.0, whole_laid c.requires.1)

pub returns : goal.returns
returns c =
    let i = c.args.i in
    changes_as (c.set_suspended.ensures ⨟ c.set_wait.ensures)
    (λ s on. ap (λ ts. with_threads ts s) (edit_edit s.threads i (with_suspended true) (with_wait (Nothing 0)) (omega (arith, on.threads, (has_thread c.requires.1.long i).0 c.requires.0))))
