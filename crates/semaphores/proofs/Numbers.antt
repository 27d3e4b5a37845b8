-- Numbers that pass a test are in range: a sum that is not above 99 fits a byte. Assumes nothing.
use mathlib.Core.Bool.{Bool, false, ◌||◌}
use mathlib.Core.Path.{◌≡◌, sym, ◌∙◌}
use Prim.Native.Nat.{ℕ, ◌+◌, ◌≤◌}
use lib.Dec.{eqb, ltb}
use borrow.Author.Tests.{ltb-false}
use Rattle.std.proofs.lemmas.Bool.{or_parts}
use Rattle.rules.specs.Board.{most_count}

pub sum_fits : (count n over : ℕ) {r : Bool} → r ≡ (eqb n 0 || ltb most_count (count + over)) → r ≡ false → count + over ≤ most_count
sum_fits count n over p e = ltb-false most_count (count + over) (or_parts (eqb n 0) (ltb most_count (count + over)) (sym p ∙ e)).1
