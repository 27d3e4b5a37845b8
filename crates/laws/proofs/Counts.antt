-- What the tests and counts on lists of any length say, element by element, where the element out of range fails a test that is
-- counted and passes a test that all pass. Each is an induction over the list. Assumes nothing.
use mathlib.Core.Bool.{Bool, true, false}
use mathlib.Core.Path.{◌≡◌, refl, ap}
use mathlib.Core.Logic.{◌↔◌}
use mathlib.Core.List.{List, [], ◌∷◌}
use Prim.Native.Nat.{ℕ, zero, suc, ◌+◌, ◌≤◌, ◌<◌}
use native.Mathlib.Omega.{arith}
use native.Mathlib.Decide.{ℕ_discrete, dec_le}
use borrow.Author.Tests.{eqb-true, eq-eqb}
use lib.Dec.{eqb}
use lib.ListN.{length, get_or}
use Rattle.rules.specs.Basic.{bit, count, find, all, all_below, same_bytes}
use Rattle.laws.proofs.Split.{is, isnt, test, clash, and_true}

module _ {A : Type 0} (f : A → Bool) (d : A) (out : f d ≡ false) where
  -- what passes is in range
  pub within : (xs : List A) (i : ℕ) → f (get_or xs i d) ≡ true → i < length xs
  within [] i e = absurd (clash e out)
  within (x ∷ xs) zero e = omega arith
  within (x ∷ xs) (suc i) e = omega (arith, within xs i e)

  -- what passes is counted
  pub count_in : (xs : List A) (i : ℕ) → f (get_or xs i d) ≡ true → 1 ≤ count f xs
  count_in [] i e = absurd (clash e out)
  count_in (x ∷ xs) zero e = omega (arith, ap bit e)
  count_in (x ∷ xs) (suc i) e = omega (arith, count_in xs i e)

  -- what is counted is there
  pub count_some : (xs : List A) → 1 ≤ count f xs → (i : ℕ) × (f (get_or xs i d) ≡ true)
  count_some [] h = absurd (omega arith)
  count_some (x ∷ xs) h = elim (test (f x)) [
    | is e ↦ (0, e)
    | isnt e ↦ let w = count_some xs (omega (arith, ap bit e)) in (suc w.0, w.1)
  ]

  -- a count of at most 1 has no two
  pub count_apart : (xs : List A) (i j : ℕ) → count f xs ≤ 1 → f (get_or xs i d) ≡ true → f (get_or xs j d) ≡ true → i ≡ j
  count_apart [] i j h a b = absurd (clash a out)
  count_apart (x ∷ xs) zero zero h a b = refl
  count_apart (x ∷ xs) zero (suc j) h a b = absurd (omega (arith, ap bit a, count_in xs j b))
  count_apart (x ∷ xs) (suc i) zero h a b = absurd (omega (arith, ap bit b, count_in xs i a))
  count_apart (x ∷ xs) (suc i) (suc j) h a b = ap suc (count_apart xs i j (omega arith) a b)

  -- where no two pass the count is at most 1
  pub count_most : (xs : List A) → ((i j : ℕ) → f (get_or xs i d) ≡ true → f (get_or xs j d) ≡ true → i ≡ j) → count f xs ≤ 1
  count_most [] h = omega arith
  count_most (x ∷ xs) h = elim (test (f x)) [
    | is e ↦ elim (dec_le 1 (count f xs)) [
      | yes q ↦ let w = count_some xs q in absurd (omega (arith, h 0 (suc w.0) e w.1))
      | no q ↦ omega (arith, ap bit e)
    ]
    | isnt e ↦ omega (arith, ap bit e, count_most xs (λ i j a b. omega (arith, h (suc i) (suc j) a b)))
  ]

  -- the first that passes, where it is found, passes; and none that passes stands before it
  pub find_hit : (xs : List A) → find f xs < length xs → f (get_or xs (find f xs) d) ≡ true
  find_hit [] h = absurd (omega arith)
  find_hit (x ∷ xs) h = elim (test (f x)) [ is e ↦ rw e e | isnt e ↦ rw e (find_hit xs (omega (arith, rw e at h))) ]

  pub find_low : (xs : List A) (i : ℕ) → f (get_or xs i d) ≡ true → find f xs ≤ i
  find_low [] i e = absurd (clash e out)
  find_low (x ∷ xs) zero e = rw e (omega arith)
  find_low (x ∷ xs) (suc i) e = elim (test (f x)) [ is a ↦ rw a (omega arith) | isnt a ↦ rw a (omega (arith, find_low xs i e)) ]

-- what all pass each passes
module _ {A : Type 0} (f : A → Bool) (d : A) where
  pub all_at : (xs : List A) → all f xs ≡ true → f d ≡ true → (i : ℕ) → f (get_or xs i d) ≡ true
  all_at [] e o i = o
  all_at (x ∷ xs) e o zero = (and_true (f x) (all f xs) e).0
  all_at (x ∷ xs) e o (suc i) = all_at xs (and_true (f x) (all f xs) e).1 o i

  pub all_of : (xs : List A) → ((i : ℕ) → f (get_or xs i d) ≡ true) → all f xs ≡ true
  all_of [] h = refl
  all_of (x ∷ xs) h = rw (h 0, all_of xs (λ i. h (suc i)))

pub below_at : (n : ℕ) (f : ℕ → Bool) → all_below n f ≡ true → (i : ℕ) → i < n → f i ≡ true
below_at zero f e i h = absurd (omega arith)
below_at (suc n) f e i h = let w = and_true (all_below n f) (f n) e in elim (ℕ_discrete i n) [
  | yes q ↦ rw q w.1
  | no q ↦ below_at n f w.0 i (omega arith)
]

pub below_of : (n : ℕ) (f : ℕ → Bool) → ((i : ℕ) → i < n → f i ≡ true) → all_below n f ≡ true
below_of zero f h = refl
below_of (suc n) f h = rw (below_of n f (λ i q. h i (omega arith)), h n (omega arith))

-- a count goes by what the test says of the elements
pub count_as : {A : Type 0} (f g : A → Bool) (d : A) (xs : List A) → ((i : ℕ) → f (get_or xs i d) ≡ g (get_or xs i d)) → count f xs ≡ count g xs
count_as f g d [] h = refl
count_as f g d (x ∷ xs) h = omega (arith, ap bit (h 0), count_as f g d xs (λ i. h (suc i)))

-- a count splits where a test does
pub count_split : {A : Type 0} (f g h : A → Bool) → ((x : A) → bit (f x) ≡ bit (g x) + bit (h x)) → (xs : List A) → count f xs ≡ count g xs + count h xs
count_split f g h e [] = refl
count_split f g h e (x ∷ xs) = omega (arith, e x, count_split f g h e xs)

pub bytes_same : (xs ys : List ℕ) → same_bytes xs ys ≡ true ↔ (xs ≡ ys)
bytes_same xs ys = (there xs ys, λ e. rw e (self ys))
  where
    there : (xs ys : List ℕ) → same_bytes xs ys ≡ true → xs ≡ ys
    there [] [] e = refl
    there [] (y ∷ ys) e = absurd (clash e refl)
    there (x ∷ xs) [] e = absurd (clash e refl)
    there (x ∷ xs) (y ∷ ys) e = let w = and_true (eqb x y) (same_bytes xs ys) e in λ i. eqb-true x y w.0 i ∷ there xs ys w.1 i

    self : (xs : List ℕ) → same_bytes xs xs ≡ true
    self [] = refl
    self (x ∷ xs) = rw (eq-eqb x x refl, self xs)
