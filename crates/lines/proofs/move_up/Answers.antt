-- `lines::move_up` meets its contract: a thread that is not in the line, or not behind the place, is as the rule leaves it. Assumes nothing.
use mathlib.Core.Path.{ap, sym, ◌∙◌}
use Rattle.rules.specs.Lines.{move_up}
use Rattle.rules.specs.State.{at, with_threads}
use Rattle.laws.proofs.Moves.{move_up_not, move_up_low}
use Rattle.layout.proofs.Held.{edit_kept, becomes_same}
use Rattle.lines.proofs.Standing.{stays}
use Rattle.lines.proofs.move_up.Goals as goal

pub returns-then-not-has_mark-clause-table : goal.returns-then-not-has_mark-clause-table
returns-then-not-has_mark-clause-table c =
    let a = c.args in
    λ l e. becomes_same c.requires.1 (λ s h. ap (λ ts. with_threads ts s)
    (sym (stays a.j l a.place s.threads (move_up_not l a.place (at s.threads a.j) (sym (c.has_mark.ensures.line s l h e) ∙ c.if-not-has_mark.true)))))

pub returns-then-own-place-clause-table : goal.returns-then-own-place-clause-table
returns-then-own-place-clause-table c =
    let a = c.args in
    let th = c.load_thread-th in
    λ l e. edit_kept a.j th.result th.ensures (move_up l a.place) (move_up_low l a.place th.result c.if-own-place.true) c.requires.1
