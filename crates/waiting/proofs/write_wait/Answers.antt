-- `waiting::write_wait` meets its contract: the two writes are one change of the thread. Assumes nothing.
use mathlib.Core.Path.{ap, refl}
use native.Mathlib.Omega.{arith}
use Rattle.rules.specs.State.{with_wait, with_outcome, with_threads}
use Rattle.laws.proofs.Word.{word_edit}
use Rattle.layout.proofs.Boards.{has_thread}
use Rattle.layout.proofs.Held.{◌⨟◌, whole_laid, changes_as, becomes_changes, edit_edit}
use Rattle.waiting.proofs.write_wait.Goals as goal

pub set_wait-requires : goal.set_wait-requires
set_wait-requires c = (omega (arith, c.requires.0, c.set_outcome.auto), whole_laid c.set_outcome.ensures.whole)

pub returns : goal.returns
returns c =
    let i = c.args.i in
    let told = with_outcome c.args.outcome c.args.parcel in
    changes_as (becomes_changes c.requires.1 c.set_outcome.ensures (λ s. word_edit s.threads i told refl) ⨟ c.set_wait.ensures)
    (λ s on. ap (λ ts. with_threads ts s) (edit_edit s.threads i told (with_wait c.args.w) (omega (arith, on.threads, (has_thread c.requires.1.long i).0 c.requires.0))))
