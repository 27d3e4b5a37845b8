-- A rank is known by its dues: whoever stands behind another has the larger due, so two views of the same members with the same turns and
-- the same dues have the same places, and then the same counters. Assumes nothing.
use mathlib.Core.Path.{◌≡◌, ap, sym, ◌∙◌}
use Prim.Native.Nat.{ℕ, zero, suc, ◌≤◌, ◌<◌}
use native.Mathlib.Omega.{arith}
use native.Mathlib.Decide.{ℕ_discrete, dec_le, dec_lt}
use borrow.Author.Tests.{le-leb, lt-leb}
use Rattle.laws.proofs.Sums.{Σ<, Σ_mono}
use Rattle.fairness.proofs.Rank.{Cell, part, due, Good, due_first}

Σ_less : (n : ℕ) (f g : ℕ → ℕ) (r : ℕ) → r < n → ((j : ℕ) → j < n → f j ≤ g j) → f r < g r → Σ< n f < Σ< n g
Σ_less zero f g r l h e = omega arith
Σ_less (suc n) f g r l h e = elim (ℕ_discrete r n) [
  | yes q ↦ let z : f n < g n = rw q at e in omega (arith, z, Σ_mono n f g (λ j k. h j (omega arith)))
  | no q ↦ omega (arith, Σ_less n f g r (omega arith) (λ j k. h j (omega arith)) e, h n (omega arith))
]

part_in : (q : ℕ) (c : Cell) → c.place ≤ q → part q c ≡ c.counter
part_in q c h = rw (le-leb c.place q h)

part_out : (q : ℕ) (c : Cell) → q < c.place → part q c ≡ 0
part_out q c h = rw (lt-leb c.place q h)

part_mono : (q q' : ℕ) (c : Cell) → q ≤ q' → part q c ≤ part q' c
part_mono q q' c h = elim (dec_le c.place q) [
  | yes a ↦ omega (arith, part_in q c a, part_in q' c (omega arith))
  | no a ↦ omega (arith, part_out q c (omega arith))
]

module _ {n N : ℕ} {v : ℕ → Cell} (g : Good n N v) where
  counter_pos : (j : ℕ) → 1 ≤ (v j).place → 1 ≤ (v j).counter
  counter_pos j h = elim (ℕ_discrete (v j).place 1) [
    | yes b ↦ omega (arith, g.head j b)
    | no b ↦ omega (arith, g.later j (omega arith))
  ]

  due_less : (i j : ℕ) → (v i).place < (v j).place → due n v (v i).place < due n v (v j).place
  unfolding due
  due_less i j h = Σ_less n (λ k. part (v i).place (v k)) (λ k. part (v j).place (v k)) j (g.within j (omega arith))
      (λ k l. part_mono (v i).place (v j).place (v k) (omega arith))
      (omega (arith, part_out (v i).place (v j) h, part_in (v j).place (v j) (omega arith), counter_pos j (omega arith)))

  -- the smaller due stands before
  before : (i j : ℕ) → due n v (v i).place < due n v (v j).place → (v i).place < (v j).place
  before i j h = elim (dec_lt (v i).place (v j).place) [
    | yes a ↦ a
    | no a ↦ elim (ℕ_discrete (v i).place (v j).place) [
      | yes e ↦ absurd (omega (arith, h, ap (due n v) e))
      | no e ↦ absurd (omega (arith, h, due_less j i (omega arith)))
    ]
  ]

module _ {n N N' : ℕ} {v v' : ℕ → Cell} (g : Good n N v) (g' : Good n N' v')
    (onto : (q : ℕ) → 1 ≤ q → q ≤ N → (j : ℕ) × ((v j).place ≡ q))
    (onto' : (q : ℕ) → 1 ≤ q → q ≤ N' → (j : ℕ) × ((v' j).place ≡ q))
    (there : (j : ℕ) → 1 ≤ (v j).place → 1 ≤ (v' j).place)
    (back : (j : ℕ) → 1 ≤ (v' j).place → 1 ≤ (v j).place)
    (same : (j : ℕ) → 1 ≤ (v j).place → due n v' (v' j).place ≡ due n v (v j).place)
    (turn : (j : ℕ) → (v' j).turn ≡ (v j).turn) where
  -- not before its place
  not_before : (k i : ℕ) → ((j : ℕ) → 1 ≤ (v j).place → (v j).place ≤ k → (v' j).place ≡ (v j).place) → (v i).place ≡ suc k → (v' i).place < suc k → ⊥
  not_before k i ih e l =
      let h = there i (omega arith) in
      let x = onto (v' i).place h (omega (arith, g.bound i)) in
      let p : (v x.0).place ≡ (v' i).place = x.1 in
      let a : (v' x.0).place ≡ (v x.0).place = ih x.0 (omega arith) (omega arith) in
      let q : x.0 ≡ i = g'.apart x.0 i (omega arith) (omega arith) in
      omega (arith, ap (λ j. (v j).place) q)

  -- not behind it
  not_behind : (k i : ℕ) → ((j : ℕ) → 1 ≤ (v j).place → (v j).place ≤ k → (v' j).place ≡ (v j).place) → (v i).place ≡ suc k → suc k < (v' i).place → ⊥
  not_behind k i ih e l =
      let x = onto' (suc k) (omega arith) (omega (arith, g'.bound i)) in
      let p : (v' x.0).place ≡ suc k = x.1 in
      let h = back x.0 (omega arith) in
      let d = due_less g' x.0 i (omega arith) in
      let b : (v x.0).place < (v i).place = before g x.0 i (omega (arith, d, same x.0 h, same i (omega arith))) in
      let a : (v' x.0).place ≡ (v x.0).place = ih x.0 h (omega arith) in
      omega arith

  same_places : (k i : ℕ) → 1 ≤ (v i).place → (v i).place ≤ k → (v' i).place ≡ (v i).place
  same_places zero i h l = absurd (omega arith)
  same_places (suc k) i h l = elim (dec_le (v i).place k) [
    | yes a ↦ same_places k i h a
    | no a ↦ elim (dec_lt (v' i).place (suc k)) [
      | yes b ↦ absurd (not_before k i (same_places k) (omega arith) b)
      | no b ↦ elim (dec_lt (suc k) (v' i).place) [
        | yes c ↦ absurd (not_behind k i (same_places k) (omega arith) c)
        | no c ↦ omega arith
      ]
    ]
  ]

  pub same_place : (i : ℕ) → 1 ≤ (v i).place → (v' i).place ≡ (v i).place
  same_place i h = same_places (v i).place i h (omega arith)

  pub same_count : (i : ℕ) → 1 ≤ (v i).place → (v' i).counter ≡ (v i).counter
  same_count i h =
      let e = same_place i h in
      elim (ℕ_discrete (v i).place 1) [
        | yes q ↦
            let s : due n v' 1 ≡ due n v 1 = rw (e, q) at (same i h) in
            sym (due_first g' i (omega arith)) ∙ s ∙ due_first g i q
        | no q ↦ omega (arith, g.later i (omega arith), g'.later i (omega arith), turn i)
      ]
