-- Numbers tell lines apart: a thread stands in a line exactly when the two have one number that is not 0. Assumes nothing.
use mathlib.Core.Path.{◌≡◌, refl, sym, ◌∙◌}
use mathlib.Core.Bool.{false}
use Prim.Native.Nat.{ℕ, zero, suc, ◌+◌, ◌*◌, ◌/◌, ◌%◌, ◌<◌}
use native.Mathlib.Omega.{arith}
use borrow.Author.Tests.{eq-eqb, ne_eqb, eqb-true, eqb-false}
use lib.Dec.{eqb}
use Rattle.rules.specs.Lines.{Line, nowhere, ready, waiters, senders, same}
use Rattle.laws.proofs.Split.{is, isnt, test}
use Rattle.laws.proofs.Lines.{same_eq}
use Rattle.marks.specs.Numbers.{line_number}

-- numbers that are equal exactly when two others are
pub as_number : (a b m n : ℕ) → (m ≡ n → a ≡ b) → (a ≡ b → m ≡ n) → eqb m n ≡ eqb a b
as_number a b m n f g = elim (test (eqb a b)) [
  | is e ↦ eq-eqb m n (g (eqb-true a b e)) ∙ sym e
  | isnt e ↦ ne_eqb m n (λ h. eqb-false a b e (f h)) ∙ sym e
]

scaled : (p q k : ℕ) → eqb p q ≡ eqb (3 * p + k) (3 * q + k)
scaled p q k = as_number (3 * p + k) (3 * q + k) p q (λ e. omega arith) (λ e. omega arith)

pub same_none : (a b : Line) → line_number a ≡ 0 → same a b ≡ false
same_none nowhere b h = refl
same_none (ready p) b h = absurd (omega arith)
same_none (waiters p) b h = absurd (omega arith)
same_none (senders p) b h = absurd (omega arith)

apart : (m n : ℕ) → (m ≡ n → ⊥) → false ≡ eqb m n
apart m n h = sym (ne_eqb m n h)

pub same_number : (a b : Line) → (line_number a ≡ 0 → ⊥) → same a b ≡ eqb (line_number a) (line_number b)
same_number nowhere b h = absurd (h refl)
same_number (ready p) nowhere h = apart (3 * p + 1) 0 (omega arith)
same_number (ready p) (ready q) h = scaled p q 1
same_number (ready p) (waiters q) h = apart (3 * p + 1) (3 * q + 2) (omega arith)
same_number (ready p) (senders q) h = apart (3 * p + 1) (3 * q + 3) (omega arith)
same_number (waiters p) nowhere h = apart (3 * p + 2) 0 (omega arith)
same_number (waiters p) (ready q) h = apart (3 * p + 2) (3 * q + 1) (omega arith)
same_number (waiters p) (waiters q) h = scaled p q 2
same_number (waiters p) (senders q) h = apart (3 * p + 2) (3 * q + 3) (omega arith)
same_number (senders p) nowhere h = apart (3 * p + 3) 0 (omega arith)
same_number (senders p) (ready q) h = apart (3 * p + 3) (3 * q + 1) (omega arith)
same_number (senders p) (waiters q) h = apart (3 * p + 3) (3 * q + 2) (omega arith)
same_number (senders p) (senders q) h = scaled p q 3

-- a number that is 0 is that of no line
pub none_of : (l : Line) → 0 ≡ line_number l → l ≡ nowhere
none_of nowhere h = refl
none_of (ready p) h = absurd (omega arith)
none_of (waiters p) h = absurd (omega arith)
none_of (senders p) h = absurd (omega arith)

-- any other is that of one line alone
pub same_line : (a b : Line) → (line_number a ≡ 0 → ⊥) → line_number a ≡ line_number b → a ≡ b
same_line a b h e = same_eq a b (same_number a b h ∙ eq-eqb _ _ e)

-- every number is that of a line, so that a promise for every line of a number is one for every number
pub numbered : (n : ℕ) → (l : Line) × (n ≡ line_number l)
numbered n = pick (n / 3) (n % 3) (omega arith) (omega arith)
  where
    pick : (q k : ℕ) → n ≡ 3 * q + k → k < 3 → (l : Line) × (n ≡ line_number l)
    pick zero zero e h = (nowhere, omega arith)
    pick (suc q) zero e h = (senders q, omega arith)
    pick q (suc zero) e h = (ready q, omega arith)
    pick q (suc (suc zero)) e h = (waiters q, omega arith)
    pick q (suc (suc (suc k))) e h = absurd (omega arith)
