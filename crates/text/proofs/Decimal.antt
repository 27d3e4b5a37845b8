-- A number in decimal is its digits but for the last, then the last; and a number below 10 ^ k has at most k digits. The
-- count that `digits` recurses on is never used up, so it makes no difference. Assumes nothing.
use mathlib.Core.Path.{◌≡◌, refl, sym, ap, ◌∙◌}
use mathlib.Core.Bool.{Bool, true, false}
use mathlib.Core.List.{List, [], ◌∷◌, ◌++◌}
use Prim.Native.Nat.{ℕ, zero, suc, ◌/◌, ◌%◌, ◌^◌, ◌≤◌, ◌<◌}
use native.Mathlib.Nat.{pow-suc}
use native.Mathlib.Decide.{dec_lt}
use native.Mathlib.Omega.{arith}
use lib.Dec.{ltb}
use lib.ListN.{length, length-append}
use borrow.Author.Tests.{ltb-false, lt-ltb, le-ltb}
use Rattle.text.specs.Text.{digit, digits, decimal}

one : (k n : ℕ) → digits k true n ≡ digit n ∷ []
unfolding digits
one zero n = refl
one (suc k) n = refl

enough : (k m n : ℕ) (small : Bool) → ltb n 10 ≡ small → n ≤ k → n ≤ m → digits k small n ≡ digits m small n
unfolding digits
enough zero m n true e p q = sym (one m n)
enough zero m n false e p q = absurd (omega (arith, ltb-false n 10 e))
enough (suc k) m n true e p q = sym (one m n)
enough (suc k) zero n false e p q = absurd (omega (arith, ltb-false n 10 e))
enough (suc k) (suc m) n false e p q =
    let less : n / 10 < n = omega (arith, ltb-false n 10 e) in
    ap (λ (l : List ℕ). l ++ (digit (n % 10) ∷ [])) (enough k m (n / 10) (ltb (n / 10) 10) refl (omega arith) (omega arith))

pub decimal_one : (n : ℕ) → n < 10 → decimal n ≡ digit n ∷ []
unfolding decimal
decimal_one n h = rw (lt-ltb n 10 h) (one n n)

pub decimal_more : (n : ℕ) → 10 ≤ n → decimal n ≡ decimal (n / 10) ++ (digit (n % 10) ∷ [])
unfolding digits decimal
decimal_more zero h = absurd (omega arith)
decimal_more (suc k) h =
    rw (le-ltb (suc k) 10 h)
    (ap (λ (l : List ℕ). l ++ (digit (suc k % 10) ∷ [])) (enough k (suc k / 10) (suc k / 10) (ltb (suc k / 10) 10) refl (omega arith) (omega arith)))

pub length_one : (n : ℕ) → n < 10 → length (decimal n) ≡ 1
length_one n h = ap length (decimal_one n h)

pub length_more : (n : ℕ) → 10 ≤ n → length (decimal n) ≡ suc (length (decimal (n / 10)))
length_more n h = ap length (decimal_more n h) ∙ length-append (decimal (n / 10)) (digit (n % 10) ∷ []) ∙ omega arith

pub decimal_room : (k : ℕ) {n : ℕ} → n < 10 ^ suc k → length (decimal n) ≤ suc k
decimal_room zero {n} h = rw (length_one n h) (omega arith)
decimal_room (suc k) {n} h =
    elim (dec_lt n 10) [
      | yes small ↦ rw (length_one n small) (omega arith)
      | no large ↦ rw (length_more n (omega arith)) (omega (arith, decimal_room k {n = n / 10} (omega (arith, pow-suc 10 (suc k)))))
    ]

-- two digits at the most
pub two_digits : (n : ℕ) → n < 100 → 10 ≤ n → decimal n ≡ digit (n / 10) ∷ digit (n % 10) ∷ []
two_digits n s h = decimal_more n h ∙ ap (λ (l : List ℕ). l ++ (digit (n % 10) ∷ [])) (decimal_one (n / 10) (omega arith))

pub length_two : (n : ℕ) → n < 100 → 10 ≤ n → length (decimal n) ≡ 2
length_two n s h = ap length (two_digits n s h)
