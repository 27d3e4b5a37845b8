-- The few words on tests and lists that every rule is written with.
use Rattle.std.specs.Prelude.{if◌then◌else◌, Bool, true, false, ◌&&◌, List, [], ◌∷◌, ℕ, zero, suc, ◌+◌, eqb, take, drop}

abbrev pub bit : Bool → ℕ
bit true = 1
bit false = 0

-- how many elements pass a test
abbrev pub count : {A : Type 0} → (A → Bool) → List A → ℕ
count test [] = 0
count test (x ∷ xs) = bit (test x) + count test xs

-- where the first element stands that passes a test; the length where none does
abbrev pub find : {A : Type 0} → (A → Bool) → List A → ℕ
find test [] = 0
find test (x ∷ xs) = if test x then 0 else suc (find test xs)

-- do all elements pass
abbrev pub all : {A : Type 0} → (A → Bool) → List A → Bool
all test [] = true
all test (x ∷ xs) = test x && all test xs

-- do all numbers below n pass
abbrev pub all_below : ℕ → (ℕ → Bool) → Bool
all_below zero test = true
all_below (suc n) test = all_below n test && test n

-- the first n pieces of a list, each as long as the width
abbrev pub pieces : {A : Type 0} → ℕ → ℕ → List A → List (List A)
pieces width zero xs = []
pieces width (suc n) xs = take width xs ∷ pieces width n (drop width xs)

-- are two lists of bytes the same
abbrev pub same_bytes : List ℕ → List ℕ → Bool
same_bytes [] [] = true
same_bytes [] (y ∷ ys) = false
same_bytes (x ∷ xs) [] = false
same_bytes (x ∷ xs) (y ∷ ys) = eqb x y && same_bytes xs ys
