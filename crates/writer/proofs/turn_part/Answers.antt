-- `writer::turn_part` meets its contract: what stands behind the pieces that are done is what is left over. Assumes nothing.
use borrow.Author.Rules.{rules}
use mathlib.Core.Path.{◌≡◌, sym, ap, ◌∙◌}
use Rattle.writer.specs.Places.{reached}
use Rattle.writer.proofs.Left.{stops_by, stopped_here, went_on}
use Rattle.writer.proofs.turn_part.Goals as goal

pub returns-then-bad-is_too_long-clause-stopped : goal.returns-then-bad-is_too_long-clause-stopped
returns-then-bad-is_too_long-clause-stopped g c =
    let part : c.match-turned.part ≡ reached c.turn_block-turned.result = search rules in
    sym c.if-bad-is_too_long.true ∙ stops_by (rw c.as_slice.ensures at c.turn_block-turned.ensures) c.is_err-bad.ensures.value (ap (λ p. p.at) part) c.len.ensures.value c.is_too_long.ensures

pub returns-then-bad-is_too_long-clause-block : goal.returns-then-bad-is_too_long-clause-block
returns-then-bad-is_too_long-clause-block g c =
    let part : c.match-turned.part ≡ reached c.turn_block-turned.result = search rules in
    stopped_here (rw c.as_slice.ensures at c.turn_block-turned.ensures) c.is_err-bad.ensures.value (ap (λ p. p.at) part) c.len.ensures.value c.is_too_long.ensures c.if-bad-is_too_long.true

pub returns-clause-stopped : goal.returns-clause-stopped
returns-clause-stopped g c =
    let part : c.match-turned.part ≡ reached c.turn_block-turned.result = search rules in
    sym c.if-bad-is_too_long.false ∙ stops_by (rw c.as_slice.ensures at c.turn_block-turned.ensures) c.is_err-bad.ensures.value (ap (λ p. p.at) part) c.len.ensures.value c.is_too_long.ensures

pub returns-clause-block : goal.returns-clause-block
returns-clause-block g c =
    let part : c.match-turned.part ≡ reached c.turn_block-turned.result = search rules in
    c.drop_front.ensures
    ∙ went_on (rw c.as_slice.ensures at c.turn_block-turned.ensures) c.is_err-bad.ensures.value (ap (λ p. p.at) part) c.len.ensures.value c.is_too_long.ensures c.if-bad-is_too_long.false
