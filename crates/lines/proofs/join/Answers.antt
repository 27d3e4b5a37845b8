-- `lines::join` meets its contract: the place is counted before anything is written. Assumes nothing.
use Rattle.std.proofs.Common.{rules}
use mathlib.Core.Path.{◌≡◌, ap, ◌∙◌}
use Rattle.rules.specs.Lines.{line, filled, tail_place, join}
use Rattle.rules.specs.State.{State, edit, with_place, with_threads}
use Rattle.layout.specs.Held.{said}
use Rattle.layout.proofs.Held.{becomes_as}
use Rattle.lines.proofs.Standing.{stand_in}
use Rattle.lines.proofs.join.Goals as goal

pub returns : goal.returns
unfolding join
returns c =
    let i = c.args.i in
    let place : (s : State) → said c.args.t.now ≡ s → c.map_or-place.result ≡ tail_place i s.threads =
    λ s e. stand_in c.line_of.result s.threads (c.line_of.ensures ∙ ap line (c.load_thread-th.ensures s e)) c.map_or-place.ensures (λ x p. search rules) in
    record { place = place; table = becomes_as c.stand_at.ensures (λ s h. ap (λ q. with_threads (edit i (λ x. filled (with_place q x)) s.threads) s) (place s h.says)) }
