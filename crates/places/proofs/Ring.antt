-- Threads in a ring: as many entries as there are threads, from any entry on, are those of all threads, so a count from there is the
-- count of all; and of two threads one stands in the half of the ring before the other. So every thread is well placed exactly when
-- each is, by what it asks of the ring. Assumes nothing.
use mathlib.Core.Bool.{true, false}
use mathlib.Core.Path.{◌≡◌, refl, ap, sym, ◌∙◌}
use mathlib.Core.Logic.{◌↔◌}
use mathlib.Core.List.{List, ◌++◌}
use Prim.Native.Nat.{ℕ, ◌+◌, ◌-◌, ◌≤◌, ◌<◌}
use native.Mathlib.Omega.{arith}
use native.Mathlib.Decide.{dec_le, dec_lt}
use borrow.Author.Tests.{eqb-true, eq-eqb}
use lib.Dec.{eqb}
use lib.ListN.{length, get_or, take, drop, length-drop, get_or-append}
use lib.Seq.{paste, length_paste_head, length-take-le, get_or-take, get_or-drop, get_or-append-add}
use Rattle.std.specs.List.{copy_within}
use Rattle.rules.specs.Basic.{all_below}
use Rattle.laws.proofs.Split.{is, isnt, test, clash, and_true, and_both}
use Rattle.laws.proofs.Reflect.{reflect}
use Rattle.laws.proofs.Counts.{below_at, below_of}
use Rattle.places.specs.Rings.{count_below, entry_in, entry_at, placed, half, closed, Near}
use Rattle.places.proofs.Below.{count_same, count_round, count_once, once_alone}

-- A PART OF A RING

-- the n entries from one on, as a part of a list
module _ (from n : ℕ) where
  abbrev part : List ℕ → List ℕ
  part xs = take (from + n - from) (drop from xs)

  part_long : (xs : List ℕ) → from + n ≤ length xs → length (part xs) ≡ n
  part_long xs h = length-take-le (from + n - from) (drop from xs) (omega (arith, length-drop from xs)) ∙ omega arith

  part_at : (xs : List ℕ) (k : ℕ) → k < n → get_or (part xs) k 0 ≡ get_or xs (from + k) 0
  part_at xs k h = get_or-take (from + n - from) (drop from xs) k 0 (omega arith) ∙ get_or-drop from xs k 0

  pub part_count : (lines : List ℕ) (line : ℕ) → from + n ≤ length lines
      → count_below (length (part lines)) (entry_in (part lines) line) ≡ count_below n (λ k. entry_in lines line (from + k))
  part_count lines line h = rw (part_long lines h) (count_same n (entry_in (part lines) line) (λ k. entry_in lines line (from + k)) (λ k q. ap (λ x. eqb x line) (part_at lines k q)))

  pub part_free : (lines places : List ℕ) (line place : ℕ) → from + n ≤ length lines
      → ((k : ℕ) → k < length (part lines) → entry_at (part lines) (part places) line place k ≡ false) ↔ ((k : ℕ) → k < n → entry_at lines places line place (from + k) ≡ false)
  part_free lines places line place h = rw (part_long lines h) (
    λ f k q. rw (← part_at lines k q, ← part_at places k q) (f k q),
    λ f k q. rw (part_at lines k q, part_at places k q) (f k q),
  )

-- TWICE

-- so many entries, and the same once more behind them
pub record Twice (n : ℕ) (ring xs : List ℕ) : Type 0 where
  pub front : (k : ℕ) → k < n → get_or ring k 0 ≡ get_or xs k 0
  pub back : (k : ℕ) → k < n → get_or ring (n + k) 0 ≡ get_or xs k 0

pub copied : (n : ℕ) (xs : List ℕ) → copy_within xs 0 n n ≡ closed n xs
copied n xs = let e : n - 0 ≡ n = omega arith in ap (paste xs n xs) e

module _ (n : ℕ) (xs : List ℕ) (long : n + n ≤ length xs) where
  pub closed_twice : Twice n (closed n xs) xs
  closed_twice =
      let l : length (take n xs) ≡ n = length-take-le n xs (omega arith) in
      let head = length_paste_head xs n xs n (omega arith) (omega arith) in
      record {
        front = λ k h.
            get_or-append (take n xs ++ take n xs) (drop (n + n) xs) 0 k (omega (arith, head))
            ∙ get_or-append (take n xs) (take n xs) 0 k (omega (arith, l))
            ∙ get_or-take n xs k 0 h;
        back = λ k h.
            get_or-append (take n xs ++ take n xs) (drop (n + n) xs) 0 (n + k) (omega (arith, head))
            ∙ ap (λ m. get_or (take n xs ++ take n xs) (m + k) 0) (sym l)
            ∙ get_or-append-add (take n xs) (take n xs) k 0
            ∙ get_or-take n xs k 0 h;
      }

module _ {n : ℕ} {ring xs : List ℕ} (two : Twice n ring xs) where
  own : (j : ℕ) → j < n → get_or ring (j + n) 0 ≡ get_or xs j 0
  own j h = let e : j + n ≡ n + j = omega arith in ap (λ k. get_or ring k 0) e ∙ two.back j h

  -- the length of a line, asked from anywhere
  length_round : (line from : ℕ) → from ≤ n → count_below n (λ k. entry_in ring line (from + k)) ≡ count_below n (entry_in xs line)
  length_round line from h =
      count_round n from (entry_in ring line) h (λ k q. ap (λ x. eqb x line) (two.back k q ∙ sym (two.front k q)))
      ∙ count_same n (entry_in ring line) (entry_in xs line) (λ k q. ap (λ x. eqb x line) (two.front k q))

-- WELL PLACED

module _ (n : ℕ) (even : half n + half n ≡ n) {lines places ring_lines ring_places : List ℕ} (l : Twice n ring_lines lines) (p : Twice n ring_places places) where
  entry_front : (line place k : ℕ) → k < n → entry_at ring_lines ring_places line place k ≡ entry_at lines places line place k
  entry_front line place k h = rw (l.front k h, p.front k h)

  entry_back : (line place k : ℕ) → k < n → entry_at ring_lines ring_places line place (n + k) ≡ entry_at lines places line place k
  entry_back line place k h = rw (l.back k h, p.back k h)

  own_entry : (j : ℕ) → entry_at lines places (get_or lines j 0) (get_or places j 0) j ≡ true
  own_entry j = and_both _ _ (eq-eqb (get_or lines j 0) _ refl) (eq-eqb (get_or places j 0) _ refl)

  -- what thread j asks, in terms of the threads: the half of the ring before it are those above it by half a ring or more, and those below
  -- it by no more than half
  record Asks (j : ℕ) : Type 0 where
    nowhere : get_or lines j 0 ≡ 0 → get_or places j 0 ≡ 0
    low : (get_or lines j 0 ≡ 0 → ⊥) → 1 ≤ get_or places j 0
    high : (get_or lines j 0 ≡ 0 → ⊥) → get_or places j 0 ≤ count_below n (entry_in lines (get_or lines j 0))
    above : (get_or lines j 0 ≡ 0 → ⊥) → (k : ℕ) → k < n → j + half n ≤ k → entry_at lines places (get_or lines j 0) (get_or places j 0) k ≡ false
    below : (get_or lines j 0 ≡ 0 → ⊥) → (k : ℕ) → k < j → j ≤ k + half n → entry_at lines places (get_or lines j 0) (get_or places j 0) k ≡ false

  near_asks : (j : ℕ) → j < n → Near n ring_lines ring_places j → Asks j
  near_asks j h w =
      let line = own l j h in
      let place = own p j h in
      record {
        nowhere = rw (line, place) at w.nowhere;
        low = rw (line, place) at w.low;
        high = λ on. omega (arith, length_round l (get_or lines j 0) j (omega arith), rw (line, place) at w.high on);
        above = λ on k q l.
            let e : j + half n + (k - (j + half n)) ≡ k = omega arith in
            sym (entry_front _ _ k q) ∙ rw (line, place, e) at (w.alone (rw line on) (k - (j + half n)) (omega arith));
        below = λ on k q l.
            let e : j + half n + (k + half n - j) ≡ n + k = omega arith in
            sym (entry_back _ _ k (omega arith)) ∙ rw (line, place, e) at (w.alone (rw line on) (k + half n - j) (omega arith));
      }

  asks_near : (j : ℕ) → j < n → Asks j → Near n ring_lines ring_places j
  asks_near j h a =
      let line = own l j h in
      let place = own p j h in
      record {
        nowhere = rw (line, place) a.nowhere;
        low = rw (line, place) a.low;
        high = rw (line, place) (λ on. omega (arith, length_round l (get_or lines j 0) j (omega arith), a.high on));
        alone = rw (line, place) (λ on k q. elim (dec_lt (j + half n + k) n) [
          | yes q ↦ entry_front _ _ (j + half n + k) q ∙ a.above on (j + half n + k) q (omega arith)
          | no l ↦
              let e : j + half n + k ≡ n + (j + half n + k - n) = omega arith in
              ap (entry_at ring_lines ring_places (get_or lines j 0) (get_or places j 0)) e ∙ entry_back _ _ (j + half n + k - n) (omega arith)
              ∙ a.below on (j + half n + k - n) (omega arith) (omega arith)
        ]);
      }

  -- where each asks, nobody shares a place: of two threads one asks the other
  apart : ((j : ℕ) → j < n → Asks j) → (j : ℕ) → j < n → (get_or lines j 0 ≡ 0 → ⊥) → (k : ℕ) → k < n → (k ≡ j → ⊥)
      → entry_at lines places (get_or lines j 0) (get_or places j 0) k ≡ false
  apart all j h on k q d = elim (test (entry_at lines places (get_or lines j 0) (get_or places j 0) k)) [
    | isnt e ↦ e
    | is e ↦
        let x = and_true (entry_in lines (get_or lines j 0) k) _ e in
        let line = eqb-true (get_or lines k 0) (get_or lines j 0) x.0 in
        let place = eqb-true (get_or places k 0) (get_or places j 0) x.1 in
        let other : (get_or lines k 0 ≡ 0 → ⊥) = rw line on in
        let seen : (entry_at lines places (get_or lines k 0) (get_or places k 0) j ≡ false) → ⊥ = rw (line, place) (λ f. clash (own_entry j) f) in
        elim (dec_lt j k) [
          | yes l ↦ elim (dec_le (j + half n) k) [ yes m ↦ (all j h).above on k q m | no m ↦ absurd (seen ((all k q).below other j l (omega arith))) ]
          | no l ↦ elim (dec_le j (k + half n)) [ yes m ↦ (all j h).below on k (omega arith) m | no m ↦ absurd (seen ((all k q).above other j h (omega arith))) ]
        ]
  ]

  asks_placed : ((j : ℕ) → j < n → Asks j) → (j : ℕ) → j < n → placed n lines places j ≡ true
  unfolding placed
  asks_placed all j h = simp reflect (
    (all j h).nowhere,
    λ on. (((all j h).low on, (all j h).high on), count_once n (entry_at lines places (get_or lines j 0) (get_or places j 0)) j h (own_entry j) (apart all j h on)),
  )

  placed_asks : (j : ℕ) → j < n → placed n lines places j ≡ true → Asks j
  unfolding placed
  placed_asks j h ok =
      let x = simp reflect at ok in
      let f = entry_at lines places (get_or lines j 0) (get_or places j 0) in
      let only : (get_or lines j 0 ≡ 0 → ⊥) → (k : ℕ) → k < n → (k ≡ j → ⊥) → f k ≡ false = λ on k q d. elim (test (f k)) [
        | isnt e ↦ e
        | is e ↦ absurd (omega (arith, (x.1 on).1, once_alone n f j k h q d (own_entry j) e))
      ] in
      record {
        nowhere = x.0;
        low = λ on. (x.1 on).0.0;
        high = λ on. (x.1 on).0.1;
        above = λ on k q l. only on k q (omega arith);
        below = λ on k q l. only on k (omega arith) (omega arith);
      }

  pub ring_says : ((j : ℕ) → j < n → Near n ring_lines ring_places j) ↔ (all_below n (placed n lines places) ≡ true)
  ring_says = (
    λ near. below_of n (placed n lines places) (asks_placed (λ j h. near_asks j h (near j h))),
    λ ok j h. asks_near j h (placed_asks j h (below_at n (placed n lines places) ok j h)),
  )
