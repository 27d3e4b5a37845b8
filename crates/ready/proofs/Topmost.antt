-- The first of the highest ready line that has one: a line without a first is passed over, and no line above the word's highest bit
-- has a member. Assumes nothing.
use mathlib.Core.Path.{◌≡◌, refl, ap, ◌∙◌}
use mathlib.Core.Bool.{true, false}
use mathlib.Core.List.{List}
use Prim.Native.Nat.{ℕ, zero, suc, ◌+◌, ◌-◌, ◌^◌, ◌≤◌, ◌<◌}
use native.Mathlib.Nat.{le_refl, add-zero, add-suc, one-le-pow}
use native.Mathlib.Omega.{arith}
use borrow.Author.Tests.{lt-ltb, le-ltb, ltb-false}
use lib.ListN.{length}
use Rattle.rules.specs.Board.{top_priority}
use Rattle.rules.specs.State.{free, at}
use Rattle.rules.specs.Lines.{ready, in_line, line_length, is_first, top_below, top, has_member, bits_below, ready_word}
use Rattle.rules.specs.declared.Thread.{Thread}
use Rattle.laws.proofs.Split.{is, isnt, test, and_true}
use Rattle.laws.proofs.Members.{count_pos}
use Rattle.laws.proofs.Turns.{find_at, find_none}
use Rattle.laws.proofs.Word.{power_low, bits_least}

module _ (ts : List Thread) where
  pub top_found : (p i : ℕ) → i < length ts → ((k : ℕ) → k < i → is_first (ready p) (at ts k) ≡ false) → is_first (ready p) (at ts i) ≡ true → top_below (suc p) ts ≡ i
  unfolding top_below
  top_found p i h n t = rw (find_at (is_first (ready p)) free ts i h n t, lt-ltb i (length ts) h)

  pub top_lower : (p : ℕ) → ((k : ℕ) → k < length ts → is_first (ready p) (at ts k) ≡ false) → top_below (suc p) ts ≡ top_below p ts
  unfolding top_below
  top_lower p n = rw (find_none (is_first (ready p)) free ts n, le-ltb (length ts) (length ts) (le_refl (length ts)))

  pub top_least : top_below 0 ts ≡ 0
  unfolding top_below
  top_least = refl

  -- no ready line above priority r has a member
  module _ (r : ℕ) (most : (p : ℕ) → r < p → p ≤ top_priority → has_member ts p ≡ false) where
    none_above : (p : ℕ) → r < p → p ≤ top_priority → (k : ℕ) → k < length ts → is_first (ready p) (at ts k) ≡ false
    none_above p h q k o = elim (test (is_first (ready p) (at ts k))) [
      | is e ↦ absurd (omega (arith, count_pos (in_line (ready p)) ts k o (and_true (in_line (ready p) (at ts k)) _ e).0, ltb-false 0 (line_length (ready p) ts) (most p h q)))
      | isnt e ↦ e
    ]

    top_above : (n : ℕ) → r + n ≤ top_priority → top_below (suc (r + n)) ts ≡ top_below (suc r) ts
    top_above zero h = ap (λ m. top_below (suc m) ts) (add-zero r)
    top_above (suc n) h = rw add-suc (top_lower (suc (r + n)) (none_above (suc (r + n)) (omega arith) (omega arith)) ∙ top_above n (omega arith))

    pub top_from : r ≤ top_priority → top ts ≡ top_below (suc r) ts
    unfolding top
    top_from h = let e : r + (top_priority - r) ≡ top_priority = omega arith in rw e at (top_above (top_priority - r) (omega arith))

  -- what the word says of the lines above its highest bit
  pub word_most : (r : ℕ) → ready_word ts < 2 ^ (r + 1) → (p : ℕ) → r < p → p ≤ top_priority → has_member ts p ≡ false
  unfolding ready_word
  word_most r h p l q = elim (test (has_member ts p)) [
    | is e ↦ absurd (omega (arith, power_low (bits_below (suc top_priority) (has_member ts)) p r (bits_least (suc top_priority) p (has_member ts) (omega arith) e) h))
    | isnt e ↦ e
  ]

  -- and a word that is 0 of all
  pub top_none : ready_word ts ≡ 0 → top ts ≡ 0
  unfolding ready_word
  top_none h =
      let empty : (p : ℕ) → p ≤ top_priority → has_member ts p ≡ false = λ p q. elim (test (has_member ts p)) [
        | is e ↦ absurd (omega (arith, bits_least (suc top_priority) p (has_member ts) (omega arith) e, one-le-pow p 2 (omega arith)))
        | isnt e ↦ e
      ] in
      top_from 0 (λ p l q. empty p q) (omega arith) ∙ top_lower 0 (λ k o. elim (test (is_first (ready 0) (at ts k))) [
        | is e ↦ absurd (omega (arith, count_pos (in_line (ready 0)) ts k o (and_true (in_line (ready 0) (at ts k)) _ e).0, ltb-false 0 (line_length (ready 0) ts) (empty 0 (omega arith))))
        | isnt e ↦ e
      ]) ∙ top_least
