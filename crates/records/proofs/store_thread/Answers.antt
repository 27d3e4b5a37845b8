-- `records::store_thread` meets its contract: eight changes of one thread leave nothing of the old one, and the first four leave it in its
-- line. Assumes nothing.
use mathlib.Core.Path.{ap, refl, ◌∙◌}
use native.Mathlib.Omega.{arith}
use Rattle.rules.specs.State.{edit, with_place, with_mail, with_outcome, with_turn, with_threads}
use Rattle.laws.proofs.Word.{word_edit}
use Rattle.layout.proofs.Boards.{counted}
use Rattle.layout.proofs.Held.{◌⨾◌, ◌⨟◌, whole_laid, changes_as, becomes_changes}
use Rattle.records.proofs.Rows.{stored}
use Rattle.records.proofs.store_thread.Goals as goal

pub set_used-requires : goal.set_used-requires
set_used-requires c = (omega (arith, c.requires.0, c.set_place.auto, c.set_mail.auto, c.set_outcome.auto, c.set_turn.auto), whole_laid c.set_turn.ensures.whole)

pub returns : goal.returns
returns c =
    let a = c.args in
    changes_as
    (becomes_changes c.requires.1 (c.set_place.ensures ⨾ c.set_mail.ensures ⨾ c.set_outcome.ensures ⨾ c.set_turn.ensures)
    (λ s.
    let placed = edit a.i (with_place a.th.place) s.threads in
    let mailed = edit a.i (with_mail a.th.full a.th.value) placed in
    let told = edit a.i (with_outcome a.th.outcome a.th.parcel) mailed in
    word_edit told a.i (with_turn a.th.turn) refl
    ∙ word_edit mailed a.i (with_outcome a.th.outcome a.th.parcel) refl
    ∙ word_edit placed a.i (with_mail a.th.full a.th.value) refl
    ∙ word_edit s.threads a.i (with_place a.th.place) refl)
    ⨟ c.set_used.ensures
    ⨟ c.set_priority.ensures
    ⨟ c.set_suspended.ensures
    ⨟ c.set_wait.ensures)
    (λ s on. ap (λ ts. with_threads ts s) (stored s.threads a.i a.th (omega (arith, on.threads, (counted _ c.requires.1.long).threads, c.requires.0))))
