-- The ready word: which lines it tells of, what changes it, and where its highest bit stands. It is a sum of powers of 2, so a bit more is
-- a power more. Assumes nothing.
use mathlib.Core.Bool.{Bool, true, false}
use mathlib.Core.Path.{◌≡◌, refl, ap, sym, ◌∙◌}
use mathlib.Core.Logic.{◌≢◌}
use mathlib.Core.List.{List}
use Prim.Native.Nat.{ℕ, zero, suc, ◌+◌, ◌*◌, ◌/◌, ◌%◌, ◌^◌, ◌≤◌, ◌<◌}
use native.Mathlib.Nat.{pow-suc, pow-le-pow_right, mul-add-div_right, div-eq_of_lt}
use native.Mathlib.Omega.{arith}
use native.Mathlib.Decide.{ℕ_discrete, dec_lt}
use lib.Bits.{bit_and, bit_or, and_block, and_zero_l, and_zero_r, and_self, or_add_and}
use lib.Dec.{ltb}
use lib.ListN.{length}
use Rattle.rules.specs.Basic.{bit}
use Rattle.rules.specs.Board.{top_priority}
use Rattle.rules.specs.State.{free, at, edit}
use Rattle.rules.specs.Lines.{ready, same, line, in_line, has_member, bits_below, ready_word}
use Rattle.rules.specs.declared.Thread.{Thread}
use Rattle.laws.proofs.Split.{is, isnt, test}
use Rattle.laws.proofs.Members.{length_edit, set_each, count_ext}

-- POWERS OF 2

-- one that is not above a number is not above the highest that is not
pub power_low : (n p q : ℕ) → 2 ^ p ≤ n → n < 2 ^ (q + 1) → p ≤ q
power_low n p q a b = elim (dec_lt q p) [
  | yes l ↦ let more : 2 ^ (q + 1) ≤ 2 ^ p = pow-le-pow_right {n = 2} (omega arith) {i = q + 1} {j = p} (omega arith) in absurd (omega (arith, more))
  | no l ↦ omega arith
]

-- THE NUMBER WHOSE BITS PASS A TEST

pub bits_ext : (n : ℕ) (f g : ℕ → Bool) → ((p : ℕ) → p < n → g p ≡ f p) → bits_below n g ≡ bits_below n f
unfolding bits_below
bits_ext zero f g h = refl
bits_ext (suc n) f g h = rw (h n (omega arith), bits_ext n f g (λ p l. h p (omega arith)))

pub bits_less : (n : ℕ) (f : ℕ → Bool) → bits_below n f < 2 ^ n
unfolding bits_below
bits_less zero f = omega arith
bits_less (suc n) f = elim (test (f n)) [
  | is e ↦ rw e (omega (arith, bits_less n f, pow-suc 2 n))
  | isnt e ↦ rw e (omega (arith, bits_less n f, pow-suc 2 n))
]

-- the highest bit that is set
pub bits_top : (n p : ℕ) (f : ℕ → Bool) → p < n → f p ≡ true → ((q : ℕ) → p < q → q < n → f q ≡ false) → (2 ^ p ≤ bits_below n f) × (bits_below n f < 2 ^ suc p)
unfolding bits_below
bits_top zero p f l e h = absurd (omega arith)
bits_top (suc n) p f l e h = elim (ℕ_discrete p n) [
  | yes q ↦ rw (← q, e) (omega arith, omega (arith, bits_less p f, pow-suc 2 p))
  | no q ↦ let x = bits_top n p f (omega arith) e (λ k a b. h k a (omega arith)) in rw (h n (omega arith) (omega arith)) (omega (arith, x.0), omega (arith, x.1))
]

-- a bit more
pub bits_set : (n p : ℕ) (f g : ℕ → Bool) → p < n → f p ≡ false → g p ≡ true → ((q : ℕ) → q ≢ p → g q ≡ f q) → bits_below n g ≡ bits_below n f + 2 ^ p
unfolding bits_below
bits_set zero p f g l e k h = absurd (omega arith)
bits_set (suc n) p f g l e k h = elim (ℕ_discrete p n) [
  | yes q ↦ rw (← q, e, k, bits_ext p f g (λ r m. h r (omega arith))) (omega arith)
  | no q ↦ rw (h n (λ r. q (sym r))) (omega (arith, bits_set n p f g (omega arith) e k h))
]

-- BIT BY BIT

-- a higher power of 2 is so many times a lower one
power_times : (p n : ℕ) → p ≤ n → (k : ℕ) × (2 ^ n ≡ k * 2 ^ p)
power_times p zero h = let e : p ≡ 0 = omega arith in (1, rw e (omega arith))
power_times p (suc n) h = elim (ℕ_discrete p (suc n)) [
  | yes q ↦ (1, rw q (omega arith))
  | no q ↦ let k = power_times p n (omega arith) in (2 * k.0, omega (arith, pow-suc 2 n, k.1))
]

-- what stands above a bit, the bit, and what stands below it
bits_split : (n p : ℕ) (f : ℕ → Bool) → p < n → (h : ℕ) × (bits_below n f ≡ h * 2 ^ suc p + (bit (f p) * 2 ^ p + bits_below p f))
unfolding bits_below
bits_split zero p f l = absurd (omega arith)
bits_split (suc n) p f l = elim (ℕ_discrete p n) [
  | yes q ↦ (0, rw (← q) (elim (test (f p)) [ is e ↦ rw e (omega arith) | isnt e ↦ rw e (omega arith) ]))
  | no q ↦
      let x = bits_split n p f (omega arith) in
      let k = power_times (suc p) n (omega arith) in
      elim (test (f n)) [
        | is e ↦ (x.0 + k.0, rw e (omega (arith, x.1, k.1)))
        | isnt e ↦ (x.0, rw e (omega (arith, x.1)))
      ]
]

-- a bit that is set counts
pub bits_least : (n p : ℕ) (f : ℕ → Bool) → p < n → f p ≡ true → 2 ^ p ≤ bits_below n f
bits_least n p f l e = let x = bits_split n p f l in omega (arith, x.1, ap (λ b. bit b * 2 ^ p) e)

-- bit p of the number
pub bits_at : (n p : ℕ) (f : ℕ → Bool) → p < n → bits_below n f / 2 ^ p % 2 ≡ bit (f p)
bits_at n p f l =
    let x = bits_split n p f l in
    let some : 0 < 2 ^ p = omega (arith, bits_less p f) in
    let above : x.0 * 2 ^ suc p ≡ x.0 * 2 * 2 ^ p = rw (pow-suc 2 p) (omega arith) in
    let e : bits_below n f ≡ (x.0 * 2 + bit (f p)) * 2 ^ p + bits_below p f = omega (arith, x.1, above) in
    let d : bits_below n f / 2 ^ p ≡ x.0 * 2 + bit (f p) = rw e (mul-add-div_right some (x.0 * 2 + bit (f p)) (bits_below p f) ∙ omega (arith, div-eq_of_lt (bits_less p f))) in
    rw d (odd x.0 (f p))
  where
    odd : (h : ℕ) (b : Bool) → (h * 2 + bit b) % 2 ≡ bit b
    odd h true = omega arith
    odd h false = omega arith

bits_and : (n p : ℕ) (f : ℕ → Bool) → p < n → bit_and (bits_below n f) (2 ^ p) ≡ bit (f p) * 2 ^ p
bits_and n p f l =
    let x = bits_split n p f l in
    let low = bits_less p f in
    let half : 2 ^ p ≡ 0 * 2 ^ suc p + (1 * 2 ^ p + 0) = omega arith in
    let own : bit (f p) * 2 ^ p + bits_below p f < 2 ^ suc p = omega (arith, low, pow-suc 2 p, bit_most (f p)) in
    let one : 1 * 2 ^ p + 0 < 2 ^ suc p = omega (arith, low, pow-suc 2 p) in
    ap (λ y. bit_and y (2 ^ p)) x.1
    ∙ ap (bit_and (x.0 * 2 ^ suc p + (bit (f p) * 2 ^ p + bits_below p f))) half
    ∙ and_block (suc p) x.0 0 (bit (f p) * 2 ^ p + bits_below p f) (1 * 2 ^ p + 0) own one
    ∙ rw (and_zero_r x.0, and_block p (bit (f p)) 1 (bits_below p f) 0 low (omega (arith, low)), and_zero_r (bits_below p f), alone (f p)) (omega arith)
  where
    bit_most : (b : Bool) → bit b * 2 ^ p ≤ 2 ^ p
    bit_most true = omega arith
    bit_most false = omega arith

    alone : (b : Bool) → bit_and (bit b) 1 ≡ bit b
    alone true = and_self 1
    alone false = and_zero_l 1

-- one more passes, or passed already
pub bits_or : (n p : ℕ) (f g : ℕ → Bool) → p < n → g p ≡ true → ((q : ℕ) → q ≢ p → g q ≡ f q) → bits_below n g ≡ bit_or (bits_below n f) (2 ^ p)
bits_or n p f g l k h = elim (test (f p)) [
  | is e ↦
      let same : bits_below n g ≡ bits_below n f = bits_ext n f g (λ q m. elim (ℕ_discrete q p) [ yes r ↦ rw r (k ∙ sym e) | no r ↦ h q r ]) in
      omega (arith, same, or_add_and (bits_below n f) (2 ^ p), bits_and n p f l, ap (λ b. bit b * 2 ^ p) e)
  | isnt e ↦ omega (arith, bits_set n p f g l e k h, or_add_and (bits_below n f) (2 ^ p), bits_and n p f l, ap (λ b. bit b * 2 ^ p) e)
]

-- THE WORD

-- where no line changes, the word stays
pub word_kept : (ts us : List Thread) → length us ≡ length ts → ((j : ℕ) → line (at us j) ≡ line (at ts j)) → ready_word us ≡ ready_word ts
unfolding ready_word
word_kept ts us l h =
    bits_ext (suc top_priority) (has_member ts) (has_member us) (λ p m. ap (ltb 0) (count_ext (in_line (ready p)) ts us l (λ j. ap (λ x. same x (ready p)) (h j))))

pub word_edit : (ts : List Thread) (i : ℕ) (g : Thread → Thread) → line (g (at ts i)) ≡ line (at ts i) → ready_word (edit i g ts) ≡ ready_word ts
word_edit ts i g h =
    word_kept ts (edit i g ts) (length_edit ts i g) (set_each (λ j x. line x ≡ line (at ts j)) free ts i (g (at ts i)) h (λ j. refl))
