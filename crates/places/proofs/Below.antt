-- How many of the numbers below n pass a test: from anywhere around, one alone, of a list's elements, and in a loop. Assumes nothing.
use mathlib.Core.Bool.{Bool, true, false}
use mathlib.Core.Path.{◌≡◌, refl, ap, ◌∙◌}
use mathlib.Core.List.{List, [], ◌∷◌}
use Prim.Native.Nat.{ℕ, zero, suc, ◌+◌, ◌-◌, ◌≤◌, ◌<◌}
use native.Mathlib.Nat.{add-suc, add-zero}
use native.Mathlib.Omega.{arith}
use native.Mathlib.Decide.{ℕ_discrete}
use lib.ListN.{length, get_or}
use Rattle.std.specs.Int.{from_bool}
use Rattle.rules.specs.Basic.{bit, count}
use Rattle.places.specs.Rings.{count_below}

bit_most : (b : Bool) → bit b ≤ 1
bit_most true = omega arith
bit_most false = omega arith

pub count_most : (n : ℕ) (f : ℕ → Bool) → count_below n f ≤ n
count_most zero f = omega arith
count_most (suc n) f = omega (arith, count_most n f, bit_most (f n))

pub count_same : (n : ℕ) (f g : ℕ → Bool) → ((k : ℕ) → k < n → f k ≡ g k) → count_below n f ≡ count_below n g
count_same zero f g h = refl
count_same (suc n) f g h = omega (arith, count_same n f g (λ k q. h k (omega arith)), ap bit (h n (omega arith)))

count_parts : (a b : ℕ) (f : ℕ → Bool) → count_below (a + b) f ≡ count_below a f + count_below b (λ k. f (a + k))
count_parts a zero f = omega (arith, ap (λ m. count_below m f) (add-zero a))
count_parts a (suc b) f = rw add-suc (omega (arith, count_parts a b f))

-- where the numbers from n on say the same again, a count of n numbers is the same from anywhere
pub count_round : (n from : ℕ) (f : ℕ → Bool) → from ≤ n → ((k : ℕ) → k < n → f (n + k) ≡ f k) → count_below n (λ k. f (from + k)) ≡ count_below n f
count_round n from f h again =
    let a = n - from in
    let back : n ≡ a + from = omega arith in
    let on : n ≡ from + a = omega arith in
    let x : count_below n (λ k. f (from + k)) ≡ count_below a (λ k. f (from + k)) + count_below from (λ k. f (from + (a + k))) = ap (λ m. count_below m (λ k. f (from + k))) back ∙ count_parts a from (λ k. f (from + k)) in
    let y : count_below n f ≡ count_below from f + count_below a (λ k. f (from + k)) = ap (λ m. count_below m f) on ∙ count_parts from a f in
    let z = count_same from (λ k. f (from + (a + k))) f (λ k q. let e : from + (a + k) ≡ n + k = omega arith in ap f e ∙ again k (omega arith)) in
    omega (arith, x, y, z)

count_none : (n : ℕ) (f : ℕ → Bool) → ((k : ℕ) → k < n → f k ≡ false) → count_below n f ≡ 0
count_none zero f h = refl
count_none (suc n) f h = omega (arith, count_none n f (λ k q. h k (omega arith)), ap bit (h n (omega arith)))

count_some : (n : ℕ) (f : ℕ → Bool) (k : ℕ) → k < n → f k ≡ true → 1 ≤ count_below n f
count_some zero f k h e = absurd (omega arith)
count_some (suc n) f k h e = elim (ℕ_discrete k n) [ yes q ↦ omega (arith, ap bit (rw q at e)) | no q ↦ omega (arith, count_some n f k (omega arith) e) ]

-- one that passes is counted once exactly when no other passes
pub count_once : (n : ℕ) (f : ℕ → Bool) (j : ℕ) → j < n → f j ≡ true → ((k : ℕ) → k < n → (k ≡ j → ⊥) → f k ≡ false) → count_below n f ≡ 1
count_once zero f j h e o = absurd (omega arith)
count_once (suc n) f j h e o = elim (ℕ_discrete j n) [
  | yes q ↦ omega (arith, count_none n f (λ k l. o k (omega arith) (omega arith)), ap bit (rw q at e))
  | no q ↦ omega (arith, count_once n f j (omega arith) e (λ k l. o k (omega arith)), ap bit (o n (omega arith) (omega arith)))
]

pub once_alone : (n : ℕ) (f : ℕ → Bool) (j k : ℕ) → j < n → k < n → (k ≡ j → ⊥) → f j ≡ true → f k ≡ true → 2 ≤ count_below n f
once_alone zero f j k h l d e o = absurd (omega arith)
once_alone (suc n) f j k h l d e o = elim (ℕ_discrete j n) [
  | yes q ↦ omega (arith, count_some n f k (omega arith) o, ap bit (rw q at e))
  | no q ↦ elim (ℕ_discrete k n) [
    | yes p ↦ omega (arith, count_some n f j (omega arith) e, ap bit (rw p at o))
    | no p ↦ omega (arith, once_alone n f j k (omega arith) (omega arith) d e o)
  ]
]

count_front : (n : ℕ) (f : ℕ → Bool) → count_below (suc n) f ≡ bit (f 0) + count_below n (λ k. f (suc k))
count_front zero f = omega arith
count_front (suc n) f = omega (arith, count_front n f)

-- of the elements of a list as many pass as of their numbers
pub count_list : {A : Type 0} (f : A → Bool) (d : A) (xs : List A) → count_below (length xs) (λ k. f (get_or xs k d)) ≡ count f xs
count_list f d [] = refl
count_list f d (x ∷ xs) = omega (arith, count_front (length xs) (λ k. f (get_or (x ∷ xs) k d)), count_list f d xs)

-- A TRUTH AS A BYTE

pub byte_most : (b : Bool) → from_bool b ≤ 1
byte_most true = omega arith
byte_most false = omega arith
