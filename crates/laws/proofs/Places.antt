-- The test of the places says the rule of the places: where each of a line's n members has one of the places 1 to n and shares it
-- with nobody, at most k of them have a place up to k, and since all n have a place up to n, each place is taken. Assumes nothing.
use mathlib.Core.Bool.{Bool, true, false, ◌&&◌}
use mathlib.Core.Path.{◌≡◌, refl, ap, sym, ◌∙◌}
use mathlib.Core.Logic.Iff
use mathlib.Core.Logic.{◌↔◌}
use mathlib.Core.List.{List}
use Prim.Native.Nat.{ℕ, zero, suc, ◌+◌, ◌≤◌, ◌<◌}
use native.Mathlib.Omega.{arith}
use native.Mathlib.Decide.{ℕ_discrete, dec_le}
use borrow.Author.Tests.{eq-eqb, ne_eqb, le-leb, lt-leb}
use lib.Dec.{eqb, leb}
use lib.ListN.{length}
use Rattle.rules.specs.Basic.{bit, count}
use Rattle.rules.specs.State.{free, at, is_ready}
use Rattle.rules.specs.Lines.{Line, ready, line, in_line, line_length, is_first, first}
use Rattle.rules.specs.Sound.{Lines}
use Rattle.rules.specs.Test.{is_nowhere, stands_at, place_ok}
use Rattle.rules.specs.declared.Thread.{Thread}
use Rattle.laws.proofs.Split.{Is, is, isnt, test}
use Rattle.laws.proofs.Reflect.{reflect}
use Rattle.laws.proofs.Counts.{within, find_low, count_in, count_some, count_apart, count_most, count_as, count_split}
use Rattle.laws.proofs.Lines.{same_eq, same_self, same_somewhere, is_nowhere_lem, in_ready}

-- at place q of line l
pub stands : (l : Line) (q : ℕ) (t : Thread) → stands_at l q t ≡ true ↔ ((in_line l t ≡ true) × (t.place ≡ q))
stands l q t = simp reflect Iff.rfl

-- at one of the places up to q of line l
abbrev pub up_to : Line → ℕ → Thread → Bool
up_to l q t = in_line l t && leb t.place q

pub up_one : (l : Line) (q : ℕ) (t : Thread) → bit (up_to l (suc q) t) ≡ bit (up_to l q t) + bit (stands_at l (suc q) t)
up_one l q t = go (in_line l t) t.place
  where
    go : (b : Bool) (p : ℕ) → bit (b && leb p (suc q)) ≡ bit (b && leb p q) + bit (b && eqb p (suc q))
    go false p = refl
    go true p = elim (dec_le p q) [
      | yes h ↦ rw (le-leb p (suc q) (omega arith), le-leb p q h, ne_eqb p (suc q) (omega arith))
      | no h ↦ elim (ℕ_discrete p (suc q)) [
        | yes e ↦ rw (le-leb p (suc q) (omega arith), lt-leb p q (omega arith), eq-eqb p (suc q) e)
        | no e ↦ rw (lt-leb p (suc q) (omega arith), lt-leb p q (omega arith), ne_eqb p (suc q) e)
      ]
    ]

-- what rises by at most 1 a step rises by at most n − k from step k to step n
rise : (c : ℕ → ℕ) → ((q : ℕ) → c (suc q) ≤ c q + 1) → (k n : ℕ) → k ≤ n → c n + k ≤ c k + n
rise c h k zero q = let e : k ≡ 0 = omega arith in omega (arith, ap c e)
rise c h k (suc n) q = elim (ℕ_discrete k (suc n)) [ yes e ↦ omega (arith, ap c e) | no e ↦ omega (arith, h n, rise c h k n (omega arith)) ]

module _ (ts : List Thread) (ok : (i : ℕ) → place_ok ts (at ts i) ≡ true) where
  -- a member's place is one of 1 to n, and nobody else has it
  member : (l : Line) (i : ℕ) → in_line l (at ts i) ≡ true
      → ((1 ≤ (at ts i).place) × ((at ts i).place ≤ line_length l ts)) × (count (stands_at l (at ts i).place) ts ≡ 1)
  unfolding place_ok
  member l i m = let x = simp reflect at (ok i) in rw (same_eq (line (at ts i)) l m) at (x.1 (same_somewhere (line (at ts i)) l m))

  most : (l : Line) (q : ℕ) → count (stands_at l q) ts ≤ 1
  most l q = elim (dec_le 1 (count (stands_at l q) ts)) [
    | yes h ↦
        let w = count_some (stands_at l q) free refl ts h in
        let v = (stands l q (at ts w.0)).0 w.1 in
        omega (arith, rw v.1 at (member l w.0 v.0).1)
    | no h ↦ omega arith
  ]

  one_more : (l : Line) (q : ℕ) → count (up_to l (suc q)) ts ≡ count (up_to l q) ts + count (stands_at l (suc q)) ts
  one_more l q = count_split (up_to l (suc q)) (up_to l q) (stands_at l (suc q)) (up_one l q) ts

  -- nobody has a place up to 0, and all n members have a place up to n
  none : (l : Line) → count (up_to l 0) ts ≤ 0
  none l = elim (dec_le 1 (count (up_to l 0) ts)) [
    | yes h ↦
        let w = count_some (up_to l 0) free refl ts h in
        let v = simp reflect at w.1 in
        absurd (omega (arith, v.1, (member l w.0 v.0).0))
    | no h ↦ omega arith
  ]

  whole : (l : Line) → count (up_to l (line_length l ts)) ts ≡ line_length l ts
  whole l = count_as (up_to l (line_length l ts)) (in_line l) free ts (λ i. go i (test (in_line l (at ts i))))
    where
      go : (i : ℕ) → Is (in_line l (at ts i)) → up_to l (line_length l ts) (at ts i) ≡ in_line l (at ts i)
      go i (is m) = rw (m, le-leb _ _ (member l i m).0.1)
      go i (isnt m) = rw m

  taken : (l : Line) (k : ℕ) → 1 ≤ k → k ≤ line_length l ts → 1 ≤ count (stands_at l k) ts
  taken l zero h h' = absurd (omega arith)
  taken l (suc k) h h' =
      let c : ℕ → ℕ = λ q. count (up_to l q) ts in
      let slow : (q : ℕ) → c (suc q) ≤ c q + 1 = λ q. omega (arith, one_more l q, most l (suc q)) in
      omega (arith, none l, rise c slow 0 k (omega arith), one_more l k, rise c slow (suc k) (line_length l ts) h', whole l)

  there : Lines ts
  unfolding place_ok
  there = record {
    low = λ l i m. (member l i m).0.0;
    high = λ l i m. (member l i m).0.1;
    apart = λ l i j m n e.
        let q = (at ts i).place in
        count_apart (stands_at l q) free refl ts i j (most l q) ((stands l q (at ts i)).1 (m, refl)) ((stands l q (at ts j)).1 (n, sym e));
    onto = λ l k h h'.
        let w = count_some (stands_at l k) free refl ts (taken l k h h') in
        let v = (stands l k (at ts w.0)).0 w.1 in
        (w.0, v.0, v.1);
    out = λ i e. let x = simp reflect at (ok i) in x.0 (ap is_nowhere e);
  }

back : (ts : List Thread) → Lines ts → (i : ℕ) → place_ok ts (at ts i) ≡ true
unfolding place_ok
back ts h i =
    let t = at ts i in
    let l = line t in
    let once = stands_at l t.place in
    let one : in_line l t ≡ true → count once ts ≡ 1 =
    λ m. omega (
      arith,
      count_in once free refl ts i ((stands l t.place t).1 (m, refl)),
      count_most once free refl ts (λ a b x y.
          let v = (stands l t.place (at ts a)).0 x in
          let w = (stands l t.place (at ts b)).0 y in
          h.apart l a b v.0 w.0 (v.1 ∙ sym w.1)),
    ) in
    simp reflect (λ e. h.out i (is_nowhere_lem l e), λ e. let m = same_self l e in ((h.low l i m, h.high l i m), one m))

pub placed : (ts : List Thread) → ((i : ℕ) → place_ok ts (at ts i) ≡ true) ↔ Lines ts
placed ts = (there ts, back ts)

-- a ready thread stands in a line, so its place is at least 1
pub ready_place : (ts : List Thread) → Lines ts → (i : ℕ) → is_ready (at ts i) ≡ true → 1 ≤ (at ts i).place
ready_place ts h i r = h.low (ready (at ts i).priority) i ((in_ready (at ts i).priority (at ts i)).1 (r, refl))

-- a line that is not empty has a first thread
pub first_there : (ts : List Thread) → Lines ts → (l : Line) → 1 ≤ line_length l ts → first l ts < length ts
first_there ts h l n =
    let w = h.onto l 1 (omega arith) n in
    let m = (stands l 1 (at ts w.0)).1 (w.1, w.2) in
    omega (arith, find_low (is_first l) free refl ts w.0 m, within (is_first l) free refl ts w.0 m)
