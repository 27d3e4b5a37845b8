-- `lines::stand_at` meets its contract: the two changes of the thread are one. Assumes nothing.
use mathlib.Core.Path.{ap}
use native.Mathlib.Omega.{arith}
use Rattle.rules.specs.Lines.{filled}
use Rattle.rules.specs.State.{with_place, with_threads}
use Rattle.layout.proofs.Held.{◌⨾◌, becomes_as, edit_edit, holds_sized}
use Rattle.lines.proofs.stand_at.Goals as goal

pub returns : goal.returns
returns c =
    let a = c.args in
    becomes_as (c.set_place.ensures ⨾ c.fill.ensures)
    (λ s h. ap (λ ts. with_threads ts s) (edit_edit s.threads a.i (with_place a.place) filled (omega (arith, c.requires.0, (holds_sized h).threads))))
