-- `ready::mend` meets its contract: what is written is what makes the word right. Assumes nothing.
use mathlib.Core.Path.{refl, ap, ◌∙◌}
use Prim.Native.Nat.{◌-◌}
use lib.Bits.{bit_or}
use Rattle.rules.specs.Lines.{ready_word}
use Rattle.layout.specs.Held.{said}
use Rattle.layout.proofs.Held.{shows_holds}
use Rattle.ready.specs.Word.{ready_bit}
use Rattle.ready.proofs.mend.Goals as goal

pub returns : goal.returns
returns c = λ s w h.
    let own = c.ready_bit-own.ensures ∙ ap ready_bit (c.load_thread-th.ensures (said _) refl) in
    shows_holds (c.set_word.ensures s w h)
    ((λ j. bit_or (c.word.ensures j - c.args.left) (own j)) ∙ c.requires.2.right ∙ ap (λ z. ready_word z.threads) h.says)
