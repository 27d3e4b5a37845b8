-- Sums over the numbers below n. Everything is pointwise, so no proof takes a list apart. Assumes nothing.
use mathlib.Core.Path.{◌≡◌, refl, ap}
use mathlib.Core.Logic.{◌≢◌}
use Prim.Native.Nat.{ℕ, zero, suc, ◌+◌, ◌≤◌, ◌<◌}
use native.Mathlib.Omega.{arith}
use native.Mathlib.Decide.{ℕ_discrete}

abbrev pub Σ< : ℕ → (ℕ → ℕ) → ℕ
Σ< zero f = 0
Σ< (suc n) f = Σ< n f + f n

pub Σ_ext : (n : ℕ) (f g : ℕ → ℕ) → ((j : ℕ) → j < n → f j ≡ g j) → Σ< n f ≡ Σ< n g
Σ_ext zero f g h = refl
Σ_ext (suc n) f g h = omega (arith, Σ_ext n f g (λ j l. h j (omega arith)), h n (omega arith))

pub Σ_mono : (n : ℕ) (f g : ℕ → ℕ) → ((j : ℕ) → j < n → f j ≤ g j) → Σ< n f ≤ Σ< n g
Σ_mono zero f g h = omega arith
Σ_mono (suc n) f g h = omega (arith, Σ_mono n f g (λ j l. h j (omega arith)), h n (omega arith))

-- one term is d more, the others agree
pub Σ_at : (n : ℕ) (f g : ℕ → ℕ) (r d : ℕ) → r < n → f r ≡ g r + d → ((j : ℕ) → j < n → j ≢ r → f j ≡ g j) → Σ< n f ≡ Σ< n g + d
Σ_at zero f g r d l e h = omega arith
Σ_at (suc n) f g r d l e h = elim (ℕ_discrete n r) [
  | yes q ↦ omega (arith, e, ap f q, ap g q, Σ_ext n f g (λ j k. h j (omega arith) (omega arith)))
  | no q ↦ omega (arith, Σ_at n f g r d (omega arith) e (λ j k. h j (omega arith)), h n (omega arith) q)
]

pub Σ_one : (n : ℕ) (f : ℕ → ℕ) (i : ℕ) → i < n → f i ≤ Σ< n f
Σ_one zero f i l = omega arith
Σ_one (suc n) f i l = elim (ℕ_discrete n i) [
  | yes q ↦ omega (arith, ap f q)
  | no q ↦ omega (arith, Σ_one n f i (omega arith))
]

-- two terms are at most the sum
pub Σ_two : (n : ℕ) (f : ℕ → ℕ) (i r : ℕ) → i < n → r < n → i ≢ r → f i + f r ≤ Σ< n f
Σ_two zero f i r li lr q = omega arith
Σ_two (suc n) f i r li lr q = elim (ℕ_discrete n i) [
  | yes a ↦ omega (arith, ap f a, Σ_one n f r (omega arith))
  | no a ↦ elim (ℕ_discrete n r) [
    | yes b ↦ omega (arith, ap f b, Σ_one n f i (omega arith))
    | no b ↦ omega (arith, Σ_two n f i r (omega arith) (omega arith) q)
  ]
]

-- two sums that agree but at r
pub Σ_swap : (n : ℕ) (f g : ℕ → ℕ) (r : ℕ) → r < n → ((j : ℕ) → j < n → j ≢ r → f j ≡ g j) → Σ< n f + g r ≡ Σ< n g + f r
Σ_swap zero f g r l h = omega arith
Σ_swap (suc n) f g r l h = elim (ℕ_discrete n r) [
  | yes q ↦ omega (arith, ap f q, ap g q, Σ_ext n f g (λ j k. h j (omega arith) (omega arith)))
  | no q ↦ omega (arith, Σ_swap n f g r (omega arith) (λ j k. h j (omega arith)), h n (omega arith) q)
]
