-- `answer::put_answer` meets its contract: stores at every place of a list leave what was stored, and a code's cast is its bits. Assumes nothing.
use mathlib.Core.List.{List, append-nil}
use mathlib.Core.Path.{◌≡◌, refl, ap, ◌∙◌}
use Prim.Native.Nat.{ℕ, ◌+◌, ◌≤◌}
use native.Mathlib.Omega.{arith}
use lib.IntN.{ℤ, pos, negsuc}
use lib.ListN.{length, drop_of_length-le}
use lib.Seq.{sets, sets-eq}
use mir.Syntax.{w32}
use mir.Val.{of_z, to_z}
use mir.ValLaws.{to_z-of_z}
use Rattle.rules.specs.Answers.{code_of, bits_of, area_of}
use Rattle.answer.proofs.put_answer.Goals as goal

filled : (vs l : List ℕ) → length l ≡ length vs → sets l 0 vs ≡ vs
filled vs l e =
    let past : length l ≤ 0 + length vs = omega arith in
    sets-eq vs l 0 (omega arith) ∙ rw (drop_of_length-le l past) (append-nil vs)

cast : (z : ℤ) → of_z w32 z ≡ bits_of z
cast (pos n) = refl
cast (negsuc n) = omega arith

pub returns : goal.returns
unfolding area_of
returns c =
    let k = c.code-code in
    let bits : c.cast_unsigned.result ≡ bits_of (code_of c.args.a) =
    c.cast_unsigned.ensures ∙ cast (to_z w32 (of_z w32 k.result)) ∙ ap bits_of (to_z-of_z w32 k.result (record { sfits = k.type_inv }) ∙ k.ensures) in
    rw (c.put_word-2.ensures, c.put_word.ensures, bits, c.value.ensures) (filled _ c.args.area.now c.requires)
