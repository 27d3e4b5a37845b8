-- A `move` keeps the places of every line 1 to n, each once: those behind the gap move up, and the one that moves takes the tail.
-- Assumes nothing.
use mathlib.Core.Bool.{Bool, true, false}
use mathlib.Core.Path.{◌≡◌, refl, ap, sym, ◌∙◌}
use mathlib.Core.Logic.{◌≢◌}
use mathlib.Core.List.{List, [], ◌∷◌}
use Prim.Native.Nat.{ℕ, suc, pred, ◌+◌, ◌≤◌, ◌<◌}
use native.Mathlib.Omega.{arith}
use native.Mathlib.Decide.{ℕ_discrete, dec_lt}
use lib.ListN.{length}
use Rattle.rules.specs.Basic.{bit}
use Rattle.rules.specs.State.{at, with_place}
use Rattle.rules.specs.Lines.{Line, nowhere, line, in_line, same, line_length, move_up, filled, move}
use Rattle.rules.specs.Sound.{Lines}
use Rattle.rules.specs.declared.Thread.{Thread}
use Rattle.laws.proofs.Split.{is, isnt, test, clash}
use Rattle.laws.proofs.Lines.{same_eq, same_nowhere, line_filled, filled_field}
use Rattle.laws.proofs.Members.{count_ext, count_change, count_pos}
use Rattle.laws.proofs.Moves.{stays, steps, shifted, move_up_field, move_up_not, move_other, move_self, length_move, changed, changed_self, changed_other, length_changed}

pub count_nowhere : (ts : List Thread) → line_length nowhere ts ≡ 0
count_nowhere [] = refl
count_nowhere (t ∷ ts) = omega (arith, count_nowhere ts, ap bit (same_nowhere (line t)))

bit_le : (b : Bool) → bit b ≤ 1
bit_le true = omega arith
bit_le false = omega arith

module _ (ts : List Thread) (λs : Lines ts) (i : ℕ) (i< : i < length ts) (g : Thread → Thread) where
  us : List Thread
  us = move i g ts

  new : Thread
  new = g (with_place 0 (at ts i))

  gone : ℕ → Thread
  gone j = move_up (line (at ts i)) (at ts i).place (at ts j)

  other : (j : ℕ) → j ≢ i → at us j ≡ gone j
  unfolding us gone
  other j k = move_other i j g ts k

  other_in : (l : Line) (j : ℕ) → j ≢ i → in_line l (at us j) ≡ in_line l (at ts j)
  unfolding gone
  other_in l j k = rw (other j k) (move_up_field (in_line l) (line (at ts i)) (at ts i).place (at ts j) refl)

  self_new : at us i ≡ filled (with_place (line_length (line new) (changed i g ts)) new)
  unfolding us new
  self_new = move_self i g ts i<

  self_line : line (at us i) ≡ line new
  self_line = ap line self_new ∙ line_filled (with_place (line_length (line new) (changed i g ts)) new)

  self_in : (l : Line) → in_line l (at us i) ≡ in_line l new
  self_in l = ap (λ a. same a l) self_line

  changed_in : (l : Line) (j : ℕ) → in_line l (at us j) ≡ in_line l (at (changed i g ts) j)
  unfolding us new
  changed_in l j = elim (ℕ_discrete j i) [
    | yes e ↦ rw (e, self_in l, changed_self i g ts i<)
    | no k ↦ rw (move_other i j g ts k, changed_other i j g ts k)
  ]

  len : length us ≡ length ts
  unfolding us
  len = length_move i g ts

  self_place : (at us i).place ≡ line_length (line new) us
  self_place =
      ap (λ t. t.place) self_new
      ∙ filled_field (λ t. t.place) (with_place (line_length (line new) (changed i g ts)) new) refl
      ∙ sym (count_ext (in_line (line new)) (changed i g ts) us (len ∙ sym (length_changed i g ts)) (changed_in (line new)))

  counts : (l : Line) → line_length l us + bit (in_line l (at ts i)) ≡ line_length l ts + bit (in_line l new)
  counts l = rw (← self_in l) (count_change (in_line l) ts us i i< len (other_in l))

  -- a line loses the one that leaves it and gains the one that joins it
  pub move_count : (l : Line) → line_length l (move i g ts) + bit (in_line l (at ts i)) ≡ line_length l ts + bit (in_line l (g (with_place 0 (at ts i))))
  unfolding us new
  move_count l = counts l

  -- the one that joins takes the place behind all who stand there
  pub move_place : (at (move i g ts) i).place ≡ line_length (line (g (with_place 0 (at ts i)))) (move i g ts)
  unfolding us new
  move_place = self_place

  -- a thread of a line other than i: at 1 or more, and at most the number of the line's others
  bounds : (l : Line) (j : ℕ) → j ≢ i → in_line l (at ts j) ≡ true → (1 ≤ (gone j).place) × ((gone j).place + bit (in_line l (at ts i)) ≤ line_length l ts)
  unfolding gone
  bounds l j k m = elim (shifted (line (at ts i)) (at ts i).place (at ts j)) [
    | steps e n h ↦
        let o : in_line l (at ts i) ≡ true = rw (← same_eq (line (at ts j)) (line (at ts i)) n) m in
        (omega (arith, λs.low l i o), omega (arith, bit_le (in_line l (at ts i)), λs.high l j m))
    | stays e h ↦ (
      omega (arith, λs.low l j m),
      elim (test (in_line l (at ts i))) [
        | isnt n ↦ omega (arith, λs.high l j m, ap bit n)
        | is n ↦
            let q : line (at ts i) ≡ l = same_eq (line (at ts i)) l n in
            let a : (at ts j).place ≤ (at ts i).place = h (rw q m) in
            let b : (at ts j).place ≢ (at ts i).place = λ x. k (λs.apart l j i m n x) in
            omega (arith, λs.high l i n, ap bit n)
      ],
    )
  ]

  -- thread j's line is that of i
  with_i : (l : Line) (j : ℕ) → in_line (line (at ts i)) (at ts j) ≡ true → in_line l (at ts j) ≡ true → in_line l (at ts i) ≡ true
  with_i l j n m = rw (← same_eq (line (at ts j)) (line (at ts i)) n) m

  by_i : (l : Line) (j : ℕ) → in_line l (at ts i) ≡ true → in_line l (at ts j) ≡ true → in_line (line (at ts i)) (at ts j) ≡ true
  by_i l j n m = rw (same_eq (line (at ts i)) l n) m

  -- one that steps up does not meet one that stays
  never_meet : (l : Line) (j k : ℕ) → k ≢ i → in_line l (at ts j) ≡ true → in_line l (at ts k) ≡ true → in_line (line (at ts i)) (at ts j) ≡ true
      → (at ts i).place < (at ts j).place → (in_line (line (at ts i)) (at ts k) ≡ true → (at ts k).place ≤ (at ts i).place) → pred (at ts j).place ≡ (at ts k).place → ⊥
  never_meet l j k b m n o h h' e =
      let c : in_line l (at ts i) ≡ true = with_i l j o m in
      let d : (at ts k).place ≤ (at ts i).place = h' (by_i l k c n) in
      b (λs.apart l k i n c (omega arith))

  -- two others at one place were at one place
  inj : (l : Line) (j k : ℕ) → j ≢ i → k ≢ i → in_line l (at ts j) ≡ true → in_line l (at ts k) ≡ true → (gone j).place ≡ (gone k).place → (at ts j).place ≡ (at ts k).place
  unfolding gone
  inj l j k a b m n e = elim (shifted (line (at ts i)) (at ts i).place (at ts j)) [
    | steps u o h ↦ elim (shifted (line (at ts i)) (at ts i).place (at ts k)) [
      | steps v o' h' ↦ omega arith
      | stays v h' ↦ absurd (never_meet l j k b m n o h h' (omega arith))
    ]
    | stays u h ↦ elim (shifted (line (at ts i)) (at ts i).place (at ts k)) [
      | steps v o' h' ↦ absurd (never_meet l k j a n m o' h' h (omega arith))
      | stays v h' ↦ omega arith
    ]
  ]

  self_at : (l : Line) → in_line l (at us i) ≡ true → (at us i).place ≡ line_length l us
  self_at l m = self_place ∙ ap (λ x. line_length x us) (same_eq (line new) l (sym (self_in l) ∙ m))

  -- i, at the tail, meets no other
  behind : (l : Line) (k : ℕ) → k ≢ i → in_line l (at us i) ≡ true → in_line l (at us k) ≡ true → (at us i).place ≡ (at us k).place → ⊥
  behind l k a m n e = omega (arith, self_at l m, counts l, ap bit (sym (self_in l) ∙ m), bounds l k a (sym (other_in l k a) ∙ n), ap (λ t. t.place) (other k a))

  apart_us : (l : Line) (j k : ℕ) → in_line l (at us j) ≡ true → in_line l (at us k) ≡ true → (at us j).place ≡ (at us k).place → j ≡ k
  apart_us l j k m n e = elim (ℕ_discrete j i) [
    | yes a ↦ elim (ℕ_discrete k i) [
      | yes b ↦ a ∙ sym b
      | no b ↦ absurd (behind l k b (rw a at m) n (rw a at e))
    ]
    | no a ↦ elim (ℕ_discrete k i) [
      | yes b ↦ absurd (behind l j a (rw b at n) m (sym (rw b at e)))
      | no b ↦
          let m' : in_line l (at ts j) ≡ true = sym (other_in l j a) ∙ m in
          let n' : in_line l (at ts k) ≡ true = sym (other_in l k b) ∙ n in
          λs.apart l j k m' n' (inj l j k a b m' n' (sym (ap (λ t. t.place) (other j a)) ∙ e ∙ ap (λ t. t.place) (other k b)))
    ]
  ]

  Found : Line → ℕ → Type 0
  Found l k = (j : ℕ) × (in_line l (at us j) ≡ true) × ((at us j).place ≡ k)

  -- a thread j of the line that comes to place k
  found : (l : Line) (k j : ℕ) → j ≢ i → in_line l (at ts j) ≡ true → (gone j).place ≡ k → Found l k
  unfolding Found
  found l k j a m e = (j, other_in l j a ∙ m, ap (λ t. t.place) (other j a) ∙ e)

  at_k : (l : Line) (k : ℕ) → in_line l (at ts i) ≡ false → (j : ℕ) × (in_line l (at ts j) ≡ true) × ((at ts j).place ≡ k) → Found l k
  unfolding gone
  at_k l k n x = found l k x.0 (λ q. clash x.1 (rw q n)) x.1 (elim (shifted (line (at ts i)) (at ts i).place (at ts x.0)) [
    | steps e o h ↦ absurd (clash (with_i l x.0 o x.1) n)
    | stays e h ↦ e ∙ x.2
  ])

  before : (l : Line) (k : ℕ) → k < (at ts i).place → (j : ℕ) × (in_line l (at ts j) ≡ true) × ((at ts j).place ≡ k) → Found l k
  unfolding gone
  before l k n x = found l k x.0 (λ q. omega (arith, x.2, ap (λ y. (at ts y).place) q)) x.1 (elim (shifted (line (at ts i)) (at ts i).place (at ts x.0)) [
    | steps e o h ↦ absurd (omega (arith, x.2))
    | stays e h ↦ e ∙ x.2
  ])

  past : (l : Line) (k : ℕ) → in_line l (at ts i) ≡ true → (at ts i).place ≤ k → (j : ℕ) × (in_line l (at ts j) ≡ true) × ((at ts j).place ≡ suc k) → Found l k
  unfolding gone
  past l k m n x = found l k x.0 (λ q. omega (arith, x.2, ap (λ y. (at ts y).place) q)) x.1 (elim (shifted (line (at ts i)) (at ts i).place (at ts x.0)) [
    | steps e o h ↦ omega (arith, x.2)
    | stays e h ↦ absurd (omega (arith, x.2, h (by_i l x.0 m x.1)))
  ])

  onto_old : (l : Line) (k : ℕ) → 1 ≤ k → k + bit (in_line l (at ts i)) ≤ line_length l ts → Found l k
  onto_old l k h h' = elim (test (in_line l (at ts i))) [
    | isnt n ↦ at_k l k n (λs.onto l k h (omega arith))
    | is n ↦ elim (dec_lt k (at ts i).place) [
      | yes x ↦ before l k x (λs.onto l k h (omega arith))
      | no x ↦ past l k n (omega arith) (λs.onto l (suc k) (omega arith) (omega (arith, ap bit n)))
    ]
  ]

  onto_us : (l : Line) (k : ℕ) → 1 ≤ k → k ≤ line_length l us → Found l k
  unfolding Found
  onto_us l k h h' = elim (test (in_line l new)) [
    | isnt n ↦ onto_old l k h (omega (arith, counts l, ap bit n))
    | is n ↦ elim (ℕ_discrete k (line_length l us)) [
      | yes e ↦ (i, self_in l ∙ n, self_at l (self_in l ∙ n) ∙ sym e)
      | no e ↦ onto_old l k h (omega (arith, counts l, ap bit n))
    ]
  ]

  out_self : line (at us i) ≡ nowhere → (at us i).place ≡ 0
  out_self e = self_place ∙ ap (λ x. line_length x us) (sym self_line ∙ e) ∙ count_nowhere us

  out_other : (j : ℕ) → j ≢ i → line (at us j) ≡ nowhere → (at us j).place ≡ 0
  unfolding gone
  out_other j k e =
      let d : line (at ts j) ≡ nowhere = sym (move_up_field line (line (at ts i)) (at ts i).place (at ts j) refl) ∙ sym (ap line (other j k)) ∙ e in
      ap (λ t. t.place) (other j k ∙ move_up_not (line (at ts i)) (at ts i).place (at ts j) (rw d)) ∙ λs.out j d

  pub moved : Lines (move i g ts)
  unfolding us Found gone
  moved = record {
    low = λ l j m. elim (ℕ_discrete j i) [
      | yes e ↦ rw e (omega (arith, self_at l (rw e at m), count_pos (in_line l) us i (rw len i<) (rw e at m)))
      | no k ↦ omega (arith, bounds l j k (sym (other_in l j k) ∙ m), ap (λ t. t.place) (other j k))
    ];
    high = λ l j m. elim (ℕ_discrete j i) [
      | yes e ↦ rw e (omega (arith, self_at l (rw e at m)))
      | no k ↦ omega (arith, bounds l j k (sym (other_in l j k) ∙ m), ap (λ t. t.place) (other j k), counts l)
    ];
    apart = apart_us;
    onto = onto_us;
    out = λ j e. elim (ℕ_discrete j i) [
      | yes q ↦ rw q (out_self (rw q at e))
      | no k ↦ out_other j k e
    ];
  }

-- lists that agree in lines and places
pub lines_ext : (ts us : List Thread) → length us ≡ length ts → ((j : ℕ) → line (at us j) ≡ line (at ts j)) → ((j : ℕ) → (at us j).place ≡ (at ts j).place) → Lines ts → Lines us
lines_ext ts us e h k λs = record {
  low = λ l i m. rw (k i) (λs.low l i (rw (h i) at m));
  high = λ l i m. rw (k i, same_count l) (λs.high l i (rw (h i) at m));
  apart = λ l i j m n q. λs.apart l i j (rw (h i) at m) (rw (h j) at n) (sym (k i) ∙ q ∙ k j);
  onto = λ l q a b. let x = λs.onto l q a (rw (same_count l) at b) in (x.0, rw (h x.0) x.1, k x.0 ∙ x.2);
  out = λ i m. k i ∙ λs.out i (sym (h i) ∙ m);
}
  where
    same_count : (l : Line) → line_length l us ≡ line_length l ts
    same_count l = count_ext (in_line l) ts us e (λ j. rw (h j))
