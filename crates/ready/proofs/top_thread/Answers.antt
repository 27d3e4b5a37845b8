-- `ready::top_thread` meets its contract: no line from p on has a first, as the word says of those above its highest bit, and before turn j none
-- of the first j threads is that of the line that is looked at. Assumes nothing.
use mathlib.Core.Path.{◌≡◌, sym, ap, ◌∙◌}
use native.Mathlib.Numerals.{add-one}
use Prim.Native.Nat.{suc, ◌-◌}
use native.Mathlib.Omega.{arith}
use Rattle.rules.specs.Lines.{top_below, ready_word}
use Rattle.layout.proofs.Boards.{sized, counted}
use Rattle.layout.proofs.Held.{whole_word}
use Rattle.ready.proofs.Topmost.{top_found, top_lower, top_least, top_from, word_most, top_none}
use Rattle.ready.proofs.top_thread.Goals as goal

pub returns-then-word-eq0 : goal.returns-then-word-eq0
returns-then-word-eq0 c = (
  (counted _ c.requires.long).some,
  λ s e. sym (top_none s.threads (ap (λ z. ready_word z.threads) (sym e) ∙ sym (c.word-word.ensures ∙ whole_word c.requires) ∙ c.if-word-eq0.true)),
)

pub loop-p-init : goal.loop-p-init
loop-p-init c = λ s e.
    let r = c.highest-p in
    let word : ready_word s.threads ≡ c.word-word.result = ap (λ z. ready_word z.threads) (sym e) ∙ sym (c.word-word.ensures ∙ whole_word c.requires) in
    rw add-one (top_from s.threads r.result (word_most s.threads r.result (omega (arith, word, r.ensures.2))) r.ensures.0)

pub loop-p-preserved : goal.loop-p-preserved
loop-p-preserved c = λ s e.
    let n = (sized c.requires.long e).threads in
    let p = c.loop-p.p in
    let less : p ≡ suc (p - 1) = omega arith in
    c.loop-p.invariant s e ∙ ap (λ m. top_below m s.threads) less ∙ top_lower s.threads (p - 1) (λ k h. c.loop-j.invariant s e k (omega (arith, c.threads-threads.ensures, c.loop-j-test.false)))

pub returns-then-leads_ready : goal.returns-then-leads_ready
returns-then-leads_ready c = (
  omega (arith, c.threads-threads.ensures, c.loop-j-test.true),
  λ s e.
      let n = (sized c.requires.long e).threads in
      let p = c.loop-p.p in
      let less : p ≡ suc (p - 1) = omega arith in
      sym (c.loop-p.invariant s e ∙ ap (λ m. top_below m s.threads) less
      ∙ top_found s.threads (p - 1) c.loop-j.j (omega (arith, c.threads-threads.ensures, c.loop-j-test.true)) (c.loop-j.invariant s e) (sym (c.leads_ready.ensures s e) ∙ c.if-leads_ready.true)),
)

pub returns-after-loop-p : goal.returns-after-loop-p
returns-after-loop-p c = (
  (counted _ c.requires.long).some,
  λ s e. sym (c.loop-p.invariant s e ∙ ap (λ p. top_below p s.threads) (omega arith) ∙ top_least s.threads),
)
