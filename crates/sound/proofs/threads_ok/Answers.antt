-- `sound::threads_ok` meets its contract: the threads so far pass, where they stand is noted, and their bits are the word of their lines. Assumes nothing.
use mathlib.Core.Path.{◌≡◌, refl, sym, ap, ◌∙◌}
use native.Mathlib.Omega.{arith}
use borrow.Author.Count.{below_more}
use borrow.Author.Tests.{ne_eqb}
use lib.Bits.{bit_or}
use lib.Seq.{take_all}
use Rattle.rules.specs.Lines.{ready_word}
use Rattle.laws.proofs.Split.{clash}
use Rattle.layout.proofs.Boards.{sized}
use Rattle.ready.proofs.Mended.{word_none, word_turn}
use Rattle.sound.specs.Tested.{is_good, bit_in, Noted}
use Rattle.sound.proofs.Noting.{nothing_yet}
use Rattle.sound.proofs.Threads.{fails}
use Rattle.sound.proofs.AllPlaces.{all_passed, all_placed, each_passes}
use Rattle.sound.proofs.threads_ok.Goals as goal

pub loop-i-init : goal.loop-i-init
loop-i-init c s e = (λ k h. absurd (omega arith), nothing_yet s.threads c.new-noted.ensures.lines c.new-noted.ensures.places, word_none s.threads)

pub returns-in_default : goal.returns-in_default
returns-in_default c s e =
    let d = (c.thread_ok.ensures s e (c.loop-i.invariant s e).1).0 in
    record {
      passed = λ z. absurd (clash z refl);
      passes = λ w h. absurd (clash (d.passes w (each_passes _ s h _ (omega (arith, c.threads-n.ensures.0)))) (ap is_good c.in_default.is));
    }

pub loop-i-preserved : goal.loop-i-preserved
loop-i-preserved c s e =
    let x = c.loop-i.invariant s e in
    let y = c.thread_ok.ensures s e x.1 in
    let told = c.in-Some.is in
    let p = ap is_good told in
    let own = sym (ap bit_in told) ∙ (y.1 p).1 in (
      below_more _ _ x.0 (y.0.passed p),
      (y.1 p).0,
      (λ j. bit_or (x.2 j) (own j)) ∙ word_turn s.threads c.loop-i.i (omega (arith, c.threads-n.ensures.0, (sized c.requires e).threads)),
    )

pub returns-else-word : goal.returns-else-word
returns-else-word c s e =
    rw (ne_eqb _ _ c.if-word.false) (fails (λ h. c.if-word.false ((c.loop-i.invariant s e).2 ∙ ap ready_word (take_all c.loop-i.i s.threads (omega (arith, c.threads-n.ensures.0, (sized c.requires e).threads))) ∙ sym h.word ∙ sym c.word.ensures)))

pub returns-then-word : goal.returns-then-word
returns-then-word c s e =
    let x = c.loop-i.invariant s e in
    let n = c.threads-n.result in
    let i : c.loop-i.i ≡ n = omega arith in
    let all : Noted c.loop-i.noted s.threads n = rw i at x.1 in
    let right = sym c.word.ensures ∙ sym c.if-word.true ∙ x.2 ∙ ap ready_word (take_all c.loop-i.i s.threads (omega (arith, c.threads-n.ensures.0, (sized c.requires e).threads))) in
    record {
      passed = λ z. all_passed _ c.requires s e c.threads-n.ensures.0 all (sym c.all_placed.ensures.answer ∙ z) (λ k h. x.0 k (omega (arith, c.threads-n.ensures.0))) right;
      passes = λ w h. c.all_placed.ensures.answer ∙ all_placed _ c.requires s e c.threads-n.ensures.0 all h;
    }
