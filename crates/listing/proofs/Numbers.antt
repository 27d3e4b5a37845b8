-- A number in decimal is read back; and a number that is read, if it has no leading zero, is the decimal of what was read. Both go digit by
-- digit, the first from the last digit on, the second from the first. Assumes nothing.
use Rattle.std.specs.Prelude.{Some}
use mathlib.Core.Path.{◌≡◌, refl, sym, ap, ◌∙◌}
use mathlib.Core.Bool.{Bool, true, false, not, ◌&&◌}
use mathlib.Core.List.{List, [], ◌∷◌, ◌++◌, append_assoc}
use Prim.Native.Nat.{ℕ, zero, suc, ◌+◌, ◌*◌, ◌-◌, ◌/◌, ◌%◌, ◌≤◌, ◌<◌}
use native.Mathlib.Decide.{dec_lt}
use native.Mathlib.Omega.{arith}
use lib.Dec.{eqb, leb}
use borrow.Author.Tests.{leb-true, le-leb, eqb-false, ne_eqb, not-true}
use Rattle.rules.specs.Basic.{all}
use Rattle.laws.proofs.Split.{is, isnt, test, clash, and_true, and_both}
use Rattle.text.specs.Text.{digit, decimal}
use Rattle.text.proofs.Decimal.{decimal_one, decimal_more}
use Rattle.listing.specs.Line.{is_digit, digit_first, digits_from, number_from, plain_from}
use Rattle.listing.specs.Listing.{line_feed}

pub digit_in : (d : ℕ) → d < 10 → is_digit (digit d) ≡ true
digit_in d h = and_both (leb 48 (digit d)) (leb (digit d) 57) (le-leb 48 (digit d) (omega arith)) (le-leb (digit d) 57 (omega arith))

pub digit_range : (c : ℕ) → is_digit c ≡ true → (48 ≤ c) × (c ≤ 57)
digit_range c e = let p = and_true (leb 48 c) (leb c 57) e in (leb-true 48 c p.0, leb-true c 57 p.1)

-- DECIMALS ARE READ BACK

reads_digit : (n d m : ℕ) (rest : List ℕ) → d < 10 → n * 10 + d ≡ m → digits_from n (digit d ∷ rest) ≡ digits_from m rest
unfolding digits_from
reads_digit n d m rest h e = rw (digit_in d h) (ap (λ (k : ℕ). digits_from k rest) (omega arith))

-- k is at least the number, and falls faster than it has digits
reads_below : (k n : ℕ) (rest : List ℕ) → n ≤ k → (digit_first (decimal n ++ rest) ≡ true) × (digits_from 0 (decimal n ++ rest) ≡ digits_from n rest)
reads_below zero n rest h = rw (decimal_one n (omega arith)) (digit_in n (omega arith), reads_digit 0 n n rest (omega arith) (omega arith))
reads_below (suc k) n rest h =
    elim (dec_lt n 10) [
      | yes small ↦ rw (decimal_one n small) (digit_in n small, reads_digit 0 n n rest small (omega arith))
      | no large ↦
          let last = digit (n % 10) in
          let front = reads_below k (n / 10) (last ∷ rest) (omega arith) in
          let seam : decimal n ++ rest ≡ decimal (n / 10) ++ last ∷ rest = rw (decimal_more n (omega arith)) (append_assoc (decimal (n / 10)) (last ∷ []) rest) in
          rw seam (front.0, front.1 ∙ reads_digit (n / 10) (n % 10) n rest (omega arith) (omega arith))
    ]

pub digits_stop : (n : ℕ) (rest : List ℕ) → digit_first rest ≡ false → digits_from n rest ≡ record { number = n; rest = rest }
unfolding digits_from
digits_stop n [] e = refl
digits_stop n (c ∷ cs) e = rw e refl

pub decimal_read : (n : ℕ) (rest : List ℕ) → digit_first rest ≡ false → number_from (decimal n ++ rest) ≡ Some (record { number = n; rest = rest })
unfolding number_from
decimal_read n rest e = let r = reads_below n n rest (omega arith) in rw (r.0, r.1, digits_stop n rest e) refl

-- A NUMBER THAT IS READ

-- a number above 0 with the digits that follow it
goes_on : (n : ℕ) (t : List ℕ) → 1 ≤ n → decimal n ++ t ≡ decimal (digits_from n t).number ++ (digits_from n t).rest
unfolding digits_from
goes_on n [] h = refl
goes_on n (c ∷ cs) h =
    elim (test (is_digit c)) [
      | is e ↦ rw e (one_more n c cs h e ∙ goes_on (n * 10 + (c - 48)) cs (omega arith))
      | isnt e ↦ rw e refl
    ]
  where
    one_more : (n c : ℕ) (cs : List ℕ) → 1 ≤ n → is_digit c ≡ true → decimal n ++ c ∷ cs ≡ decimal (n * 10 + (c - 48)) ++ cs
    one_more n c cs h e =
        let r = digit_range c e in
        let m = n * 10 + (c - 48) in
        let high : m / 10 ≡ n = omega arith in
        let low : digit (m % 10) ≡ c = omega arith in
        let whole : decimal m ≡ decimal n ++ (c ∷ []) = decimal_more m (omega arith) ∙ (λ i. decimal (high i) ++ (low i ∷ [])) in
        sym (rw whole (append_assoc (decimal n) (c ∷ []) cs))

and_second : (a b : Bool) → a ≡ true → a && b ≡ false → b ≡ false
and_second true b p q = q
and_second false b p q = absurd (clash p refl)

-- a number that has no leading zero is the decimal of what is read
pub read_plain : (t : List ℕ) → digit_first t ≡ true → plain_from true t ≡ true → t ≡ decimal (digits_from 0 t).number ++ (digits_from 0 t).rest
unfolding digits_from plain_from
read_plain [] e p = absurd (clash e refl)
read_plain (c ∷ cs) e p =
    let r = digit_range c e in
    let first : c ∷ cs ≡ decimal (c - 48) ++ cs = sym (rw (decimal_one (c - 48) (omega arith)) (ap (λ (x : ℕ). x ∷ cs) (omega arith))) in
    let value : 0 * 10 + (c - 48) ≡ c - 48 = omega arith in
    let alone = (and_true (not (eqb c 48 && digit_first cs)) (plain_from (not (is_digit c)) cs) p).0 in
    rw (e, value)
    (first
    ∙ elim (test (eqb c 48)) [
      | is z ↦ sym (rw (digits_stop (c - 48) cs (and_second (eqb c 48) (digit_first cs) z (not-true (eqb c 48 && digit_first cs) alone))) refl)
      | isnt z ↦ goes_on (c - 48) cs (omega (arith, eqb-false c 48 z))
    ])

-- what stands after a number has as few leading zeros
pub rest_plain : (s : Bool) (n : ℕ) (t : List ℕ) → plain_from s t ≡ true → plain_from false (digits_from n t).rest ≡ true
unfolding digits_from plain_from
rest_plain s n [] p = refl
rest_plain s n (c ∷ cs) p =
    let q = (and_true (not (s && eqb c 48 && digit_first cs)) (plain_from (not (is_digit c)) cs) p).1 in
    elim (test (is_digit c)) [
      | is e ↦ rw e (rest_plain (not (is_digit c)) (n * 10 + (c - 48)) cs q)
      | isnt e ↦ rw e q
    ]

-- TEXTS WITHOUT A LINE FEED

abbrev pub clean : List ℕ → Bool
clean t = all (λ c. not (eqb c line_feed)) t

pub clean_char : (c : ℕ) (cs : List ℕ) → (c ≡ line_feed → ⊥) → clean cs ≡ true → clean (c ∷ cs) ≡ true
clean_char c cs n h = rw (ne_eqb c line_feed n) h

pub digits_clean : (n : ℕ) (t : List ℕ) → clean (digits_from n t).rest ≡ true → clean t ≡ true
unfolding digits_from
digits_clean n [] h = refl
digits_clean n (c ∷ cs) h =
    elim (test (is_digit c)) [
      | is e ↦ clean_char c cs (let r = digit_range c e in omega arith) (digits_clean (n * 10 + (c - 48)) cs (rw e at h))
      | isnt e ↦ rw e at h
    ]
