-- `lines::to_tail` meets its contract: the last place of the line that a thread has left is as many as stood there, itself among them.
-- Assumes nothing.
use mathlib.Core.Path.{ap, sym, ◌∙◌}
use native.Mathlib.Omega.{arith}
use lib.Seq.{set-get_or}
use Rattle.rules.specs.Lines.{leave, filled, tail_place, join, move}
use Rattle.rules.specs.State.{free, edit, with_place, with_threads}
use Rattle.layout.proofs.Held.{◌⨾◌, becomes_as, holds_sized}
use Rattle.lines.proofs.Standing.{tail_left}
use Rattle.lines.proofs.to_tail.Goals as goal

pub returns : goal.returns
unfolding join move
returns c =
    let i = c.args.i in
    becomes_as (c.leave-last.ensures.table ⨾ c.stand_at.ensures) (λ s h.
    let ts = s.threads in
    let last = c.leave-last.ensures.count s h.says ∙ sym (tail_left i ts (omega (arith, c.requires.0, (holds_sized h).threads))) in
    ap (λ q. with_threads (edit i (λ x. filled (with_place q x)) (leave i ts)) s) last
    ∙ ap (λ us. with_threads (edit i (λ x. filled (with_place (tail_place i us) x)) us) s) (sym (set-get_or (leave i ts) i free)))
