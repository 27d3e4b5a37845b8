-- Bytes that move to the front of a block are stores, one behind the other. Assumes nothing.
use mathlib.Core.Path.{◌≡◌, sym, ap, ◌∙◌}
use mathlib.Core.List.{List, ◌++◌}
use Prim.Native.Nat.{ℕ, ◌+◌, ◌-◌, ◌≤◌}
use native.Mathlib.Omega.{arith}
use lib.ListN.{length, take, drop, length-drop}
use lib.Seq.{paste, sets, sets-eq, length-take-le}
use Rattle.std.proofs.lemmas.Slice.{between_is}

-- those from one place up to another
module _ (block : List ℕ) (from n : ℕ) (some : from ≤ n) (inside : n ≤ length block) where
  abbrev left : List ℕ
  left = drop from (take n block)

  size : length left ≡ n - from
  size = length-drop from (take n block) ∙ ap (λ k. k - from) (length-take-le n block inside)

  same : take (n - from) (drop from block) ≡ left
  same = between_is block from n

  pub moved : paste block 0 (drop from block) (n - from) ≡ sets block 0 (drop from (take n block))
  moved =
      ap (λ l. take 0 block ++ l ++ drop (0 + (n - from)) block) same
      ∙ ap (λ k. take 0 block ++ left ++ drop (0 + k) block) (sym size)
      ∙ sym (sets-eq left block 0 (omega (arith, size)))
