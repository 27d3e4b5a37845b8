-- `writer::reading::number_from` meets its contract: the digits that are left say the same number, told as 2^32 where it is larger. Assumes nothing.
use mathlib.Core.Path.{◌≡◌, sym, ap, ◌∙◌}
use mathlib.Core.Bool.{true, false}
use Prim.Native.Nat.{◌+◌}
use native.Mathlib.Omega.{arith}
use lib.ListN.{drop, get_or}
use Rattle.listing.specs.Line.{is_digit, digit_first, digits_from}
use Rattle.writer.proofs.Lines.{capped, digit_there, digit_taken, none_there, started, no_number, a_number}
use Rattle.writer.proofs.reading.number_from.Goals.{then-loop-n-test+else-is_ascii_digit, else-loop-n-test}
use Rattle.writer.proofs.reading.number_from.Goals as goal

pub loop-n-preserved : goal.loop-n-preserved
loop-n-preserved c =
    let t = c.args.text.now in
    let m = c.loop-n.number in
    let n = c.loop-n.n in
    let digit : is_digit (get_or t n 0) ≡ true = sym c.is_ascii_digit.ensures.value ∙ c.if-is_ascii_digit.true in (
      omega (arith, c.with_digit-number.ensures),
      omega (arith, c.loop-n-test.true),
      c.loop-n.invariant.2 ∙ digit_taken m t n c.loop-n-test.true digit ∙ ap (λ k. capped (digits_from k (drop (n + 1) t))) (sym c.with_digit-number.ensures),
      started t n c.loop-n.invariant.3 (digit_there t n c.loop-n-test.true ∙ digit),
    )

pub returns-then-n-eq0 : goal.returns-then-n-eq0
returns-then-n-eq0 c =
    let t = c.args.text.now in
    let n = c.loop-n.n in
    let stops : digit_first (drop n t) ≡ false =
    elim c.loop-n-test.branch [
      | then-loop-n-test+else-is_ascii_digit w ↦ digit_there t n w.loop-n-test.true ∙ sym w.is_ascii_digit.ensures.value ∙ w.if-is_ascii_digit.false
      | else-loop-n-test w ↦ none_there t n w.loop-n-test.false
    ] in
    no_number t (ap (λ k. digit_first (drop k t)) (sym c.if-n-eq0.true) ∙ stops)

pub returns : goal.returns
returns c =
    let t = c.args.text.now in
    let n = c.loop-n.n in
    let stops : digit_first (drop n t) ≡ false =
    elim c.loop-n-test.branch [
      | then-loop-n-test+else-is_ascii_digit w ↦ digit_there t n w.loop-n-test.true ∙ sym w.is_ascii_digit.ensures.value ∙ w.if-is_ascii_digit.false
      | else-loop-n-test w ↦ none_there t n w.loop-n-test.false
    ] in
    rw c.split_at.ensures.back (a_number t c.loop-n.number n (c.loop-n.invariant.3 (omega (arith, c.if-n-eq0.false))) stops c.loop-n.invariant.0 c.loop-n.invariant.2)
