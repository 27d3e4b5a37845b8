-- All numbers of a range pass exactly when all below its end do. Assumes nothing.
use mathlib.Core.Bool.{Bool, true}
use mathlib.Core.Path.{◌≡◌, refl}
use Prim.Native.Nat.{ℕ, zero, suc, ◌+◌, ◌≤◌, ◌<◌}
use native.Mathlib.Omega.{arith}
use native.Mathlib.Decide.{ℕ_discrete}
use Rattle.std.specs.List.{list_all, range_with_len}
use Rattle.rules.specs.Basic.{all_below}
use Rattle.laws.proofs.Split.{pass_together, and_true, and_both}
use Rattle.laws.proofs.Counts.{below_at, below_of}

range_at : (from n : ℕ) (f : ℕ → Bool) → list_all f (range_with_len from n) ≡ true → (k : ℕ) → from ≤ k → k < from + n → f k ≡ true
range_at from zero f e k l h = absurd (omega arith)
range_at from (suc n) f e k l h = let w = and_true (f from) _ e in elim (ℕ_discrete k from) [
  | yes q ↦ rw q w.0
  | no q ↦ range_at (from + 1) n f w.1 k (omega arith) (omega arith)
]

range_of : (from n : ℕ) (f : ℕ → Bool) → ((k : ℕ) → from ≤ k → k < from + n → f k ≡ true) → list_all f (range_with_len from n) ≡ true
range_of from zero f h = refl
range_of from (suc n) f h = and_both (f from) _ (h from (omega arith) (omega arith)) (range_of (from + 1) n f (λ k l q. h k (omega arith) (omega arith)))

pub below_range : (n : ℕ) (f : ℕ → Bool) → list_all f (range_with_len 0 n) ≡ all_below n f
below_range n f = pass_together _ _ (
  λ e. below_of n f (λ k h. range_at 0 n f e k (omega arith) (omega arith)),
  λ e. range_of 0 n f (λ k l h. below_at n f e k (omega arith)),
)
