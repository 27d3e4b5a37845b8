-- `words::put_word` meets its contract: the four bytes, put in their place, are the four stores of `sets`. Assumes nothing.
use mathlib.Core.Path.{◌≡◌, sym, ◌∙◌}
use Prim.Native.Nat.{◌/◌, ◌%◌}
use native.Mathlib.Omega.{arith}
use lib.Seq.{sets-eq}
use Rattle.std.proofs.lemmas.Slice.{put_mid-paste}
use Rattle.rules.specs.Table.{word_bytes}
use Rattle.words.proofs.put_word.Goals as goal

pub returns : goal.returns
returns c =
    let w = c.args.word in
    let top : w / 16777216 % 256 ≡ w / 16777216 = omega (arith, c.ranges.word) in
    let written : c.copy_from_slice.new.self ≡ word_bytes w = rw top at (rw c.to_le_bytes.ensures at c.copy_from_slice.ensures.after) in
    put_mid-paste _ _ _ _ _ 4 written (omega arith) (omega arith) ∙ sym (sets-eq (word_bytes w) _ _ c.requires)
