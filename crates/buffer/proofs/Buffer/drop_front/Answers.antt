-- `Buffer::drop_front` meets its contract: the bytes that stay stand from the front on once they have moved, and zeros behind them. Assumes nothing.
use Rattle.std.proofs.Common.{rules, ◌≡◌, ◌+◌, ◌-◌, ◌≤◌, length, take, drop, replicate, sym, ap, ◌∙◌, arith, length-drop, length-take-le}
use lib.Seq.{paste}
use Rattle.std.proofs.lemmas.List.{drop-take}
use Rattle.std.proofs.lemmas.List.Edits.{take-paste, drop-paste}
use Rattle.std.proofs.lemmas.Slice.{take-put_mid_below}
use Rattle.buffer.proofs.Place.{zeros_from}
use Rattle.buffer.proofs.Buffer.drop_front.Goals as goal

pub invariant_of-self : goal.invariant_of-self
invariant_of-self g c =
    let all = c.self.inside.bytes in
    let len = c.self.inside.len in
    let held = len - c.args.k in
    let moved = c.copy_within.new.self in
    let within : len ≤ g.row.N = c.self.invariant.0 in
    let room : held ≤ length moved = omega (arith, within, c.self.told, c.copy_within.ensures.len) in
    let size : length (take (len - held) (drop held moved)) ≡ len - held = length-take-le (len - held) (drop held moved) (omega (arith, within, c.self.told, c.copy_within.ensures.len, length-drop held moved)) in
    let cleared : c.fill.new.self ≡ replicate (len - held) 0 = c.fill.ensures.after (λ y e. e) ∙ ap (λ n. replicate n 0) size in
    let same : held ≡ 0 + held = omega arith in
    let behind : drop held moved ≡ drop held all =
    ap (drop held) c.copy_within.ensures.after
    ∙ ap (λ k. drop k (paste all 0 (drop c.args.k all) held)) same ∙ drop-paste all 0 (drop c.args.k all) held (omega arith) (omega (arith, within, c.self.told, length-drop c.args.k all))
    ∙ ap (λ k. drop k all) (sym same)
    in
    (search rules, zeros_from g.row.N len held all moved c.fill.new.self (omega arith) within room cleared behind c.self.invariant.1)

pub returns : goal.returns
returns g c =
    let all = c.self.inside.bytes in
    let len = c.self.inside.len in
    let from = c.args.k in
    let moved = c.copy_within.new.self in
    let size : length c.args.self.now ≡ len = ap length (sym c.self.view_is) ∙ length-take-le len all (omega (arith, c.self.invariant.0, c.self.told)) in
    let same : len - from ≡ 0 + (len - from) = omega arith in
    let whole : from + (len - from) ≡ len = omega (arith, c.requires) in
    take-put_mid_below (len - from) (len - (len - from)) moved c.fill.new.self (len - from) (omega arith) (omega (arith, c.self.invariant.0, c.self.told, c.copy_within.ensures.len))
    ∙ ap (take (len - from)) c.copy_within.ensures.after
    ∙ ap (λ k. take k (paste all 0 (drop from all) (len - from))) same ∙ take-paste all 0 (drop from all) (len - from) (omega arith) (omega (arith, c.self.invariant.0, c.self.told, length-drop from all))
    ∙ sym (drop-take from (len - from) all) ∙ ap (λ k. drop from (take k all)) whole ∙ ap (drop from) c.self.view_is
