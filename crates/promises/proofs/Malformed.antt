-- The decoder's tests are document 01's condition for −8: the table of uses agrees with the decoder's line by line, and a word is zero
-- exactly when its four bytes are. Assumes nothing.
use Rattle.std.proofs.lemmas.Option.{none-some}
use Rattle.std.specs.Prelude.{None, Option, Some}
use mathlib.Core.Bool.{Bool, true, false, or-true, or-false}
use mathlib.Core.Path.{◌≡◌, refl, sym, ap, ◌∙◌}
use mathlib.Core.List.{List, [], ◌∷◌, map}
use Prim.Native.Nat.{ℕ, zero, suc, ◌+◌, ◌≤◌, ◌<◌}
use native.Mathlib.Decide.{ℕ_discrete}
use native.Mathlib.Omega.{arith}
use lib.Dec.{eqb, ltb}
use borrow.Author.Tests.{eqb-true, eqb-false, eq-eqb, ltb-true, ltb-false}
use lib.ListN.{length, get_or, get_or-eq_default}
use Rattle.rules.specs.Table.{word_at}
use Rattle.rules.specs.Requests.{Operation, operations, operation_of, kept, decode_request}
use Rattle.rules.specs.declared.Request.{Request}
use Rattle.laws.proofs.Split.{is, isnt, test, clash}
use Rattle.request.specs.Written.{written}
use Rattle.request.specs.Trips.{Bytes}
use Rattle.request.proofs.Parts.{Kept, Parts, parts_asked, parts_of}
use Rattle.request.proofs.Trips.{trips}
use Rattle.promises.specs.Malformed.{uses, has, used, Malformed, not_twelve, gone, unknown, third, unused, Decodes}

-- THE TWO TABLES

-- which of bytes 1 to 11 belong to a field that is used, by either table
abbrev marks : Operation → List Bool
marks u = u.object ∷ u.priority ∷ false ∷ u.number ∷ u.number ∷ u.number ∷ u.number ∷ u.parcel ∷ u.parcel ∷ u.parcel ∷ u.parcel ∷ []

abbrev bytes : List ℕ → List Bool
bytes ks = has ks 1 ∷ has ks 2 ∷ has ks 3 ∷ has ks 4 ∷ has ks 5 ∷ has ks 6 ∷ has ks 7 ∷ has ks 8 ∷ has ks 9 ∷ has ks 10 ∷ has ks 11 ∷ []

-- a number without an operation uses none
marked : Option Operation → List Bool
marked None = bytes []
marked (Some u) = marks u

agree : map marked operations ≡ map bytes uses
unfolding uses marked
agree = refl

module _ {A B C : Type 0} (f : A → C) (g : B → C) (x : A) (y : B) (out : f x ≡ g y) where
  agree_at : (xs : List A) (ys : List B) (i : ℕ) → map f xs ≡ map g ys → f (get_or xs i x) ≡ g (get_or ys i y)
  agree_at [] [] i e = out
  agree_at [] (b ∷ ys) i e = let z : ◌≡◌ {A = ℕ} 0 1 = cc in absurd (omega arith)
  agree_at (a ∷ xs) [] i e = let z : ◌≡◌ {A = ℕ} 0 1 = cc in absurd (omega arith)
  agree_at (a ∷ xs) (b ∷ ys) zero e = cc
  agree_at (a ∷ xs) (b ∷ ys) (suc i) e = let rest : map f xs ≡ map g ys = cc in agree_at xs ys i rest

-- THE NUMBERS THAT HAVE NO OPERATION

-- the numbers of a table's lines that have none, where the first line's number is i
holes : ℕ → List (Option Operation) → List ℕ
holes i [] = []
holes i (None ∷ us) = i ∷ holes (suc i) us
holes i (Some u ∷ us) = holes (suc i) us

hole_at : (us : List (Option Operation)) (i j k : ℕ) → k ≡ i + j → j < length us → get_or us j None ≡ None → has (holes i us) k ≡ true
unfolding holes
hole_at [] i j k e h n = absurd (omega arith)
hole_at (None ∷ us) i zero k e h n = rw (eq-eqb k i (omega arith))
hole_at (None ∷ us) i (suc j) k e h n = rw (hole_at us (suc i) j k (omega arith) (omega arith) n) (or-true (eqb k i))
hole_at (Some u ∷ us) i zero k e h n = absurd (none-some u (sym n))
hole_at (Some u ∷ us) i (suc j) k e h n = hole_at us (suc i) j k (omega arith) (omega arith) n

only_3 : holes 0 operations ≡ 3 ∷ []
unfolding holes
only_3 = refl

-- of the numbers up to 24 only 3 has none
none_of : (k : ℕ) → operation_of k ≡ None → k ≤ 24 → k ≡ 3
none_of k n h = eqb-true k 3 (sym (or-false (eqb k 3)) ∙ rw only_3 at (hole_at operations 0 k k (omega arith) (omega arith) n))

-- FIELDS

kept_if : (m : Bool) (x : ℕ) → (m ≡ false → x ≡ 0) → kept m x ≡ true
kept_if true x h = refl
kept_if false x h = eq-eqb x 0 (h refl)

kept_means : (m : Bool) (x : ℕ) → kept m x ≡ true → m ≡ false → x ≡ 0
kept_means true x k e = absurd (clash refl e)
kept_means false x k e = eqb-true x 0 k

module _ (r : List ℕ) where
  -- the line of a record's operation marks what the operation uses
  mark_of : (u : Operation) → operation_of (get_or r 0 0) ≡ Some u → marks u ≡ bytes (get_or uses (get_or r 0 0) [])
  unfolding marked
  mark_of u h = ap marked (sym h) ∙ agree_at marked bytes None [] refl operations uses (get_or r 0 0) agree

  -- A RECORD THAT ASKS: every byte that its operation does not use is zero

  module _ (x : Parts r) where
    abbrev by : Operation
    by = x.fields.by

    mark : (j : ℕ) → get_or (marks by) j false ≡ get_or (bytes (get_or uses (get_or r 0 0) [])) j false
    mark j = ap (λ l. get_or l j false) (mark_of by x.fields.there)

    number_zero : by.number ≡ false → word_at r 4 ≡ 0
    number_zero e = kept_means by.number (word_at r 4) x.fields.number e

    parcel_zero : by.parcel ≡ false → word_at r 8 ≡ 0
    parcel_zero e = kept_means by.parcel (word_at r 8) x.fields.parcel e

    zeros : (k : ℕ) → 1 ≤ k → used (get_or r 0 0) k ≡ false → get_or r k 0 ≡ 0
    zeros zero low e = absurd (omega arith)
    zeros (suc zero) low e = kept_means by.object (get_or r 1 0) x.fields.object (mark 0 ∙ e)
    zeros (suc (suc zero)) low e = kept_means by.priority (get_or r 2 0) x.fields.priority (mark 1 ∙ e)
    zeros (suc (suc (suc zero))) low e = x.zeroed
    zeros (suc (suc (suc (suc zero)))) low e = let z = number_zero (mark 3 ∙ e) in omega arith
    zeros (suc (suc (suc (suc (suc zero))))) low e = let z = number_zero (mark 4 ∙ e) in omega arith
    zeros (suc (suc (suc (suc (suc (suc zero)))))) low e = let z = number_zero (mark 5 ∙ e) in omega arith
    zeros (suc (suc (suc (suc (suc (suc (suc zero))))))) low e = let z = number_zero (mark 6 ∙ e) in omega arith
    zeros (suc (suc (suc (suc (suc (suc (suc (suc zero)))))))) low e = let z = parcel_zero (mark 7 ∙ e) in omega arith
    zeros (suc (suc (suc (suc (suc (suc (suc (suc (suc zero))))))))) low e = let z = parcel_zero (mark 8 ∙ e) in omega arith
    zeros (suc (suc (suc (suc (suc (suc (suc (suc (suc (suc zero)))))))))) low e = let z = parcel_zero (mark 9 ∙ e) in omega arith
    zeros (suc (suc (suc (suc (suc (suc (suc (suc (suc (suc (suc zero))))))))))) low e = let z = parcel_zero (mark 10 ∙ e) in omega arith
    zeros (suc (suc (suc (suc (suc (suc (suc (suc (suc (suc (suc (suc k)))))))))))) low e = get_or-eq_default r 0 (omega (arith, x.long))

    well : Malformed r → ⊥
    well (not_twelve h) = h x.long
    well (gone h) = none-some x.fields.by (rw h at x.fields.there)
    well (unknown h) = none-some x.fields.by (sym (get_or-eq_default operations None {n = get_or r 0 0} (omega arith)) ∙ x.fields.there)
    well (third h) = h x.zeroed
    well (unused k low e h) = h (zeros k low e)

  -- A RECORD THAT IS NOT MALFORMED has the parts of one that asks

  abbrev Zeroed : ℕ → Type 0
  Zeroed n = (k : ℕ) → 1 ≤ k → k ≤ n → used (get_or r 0 0) k ≡ false → get_or r k 0 ≡ 0

  parts : length r ≡ 12 → (get_or r 0 0 ≡ 3 → ⊥) → get_or r 0 0 ≤ 24 → get_or r 3 0 ≡ 0 → Zeroed 11 → Parts r
  parts long there low z none-set = record { long = long; zeroed = z; fields = of (operation_of (get_or r 0 0)) refl }
    where
      of : (m : Option Operation) → operation_of (get_or r 0 0) ≡ m → Kept (get_or r 0 0) (get_or r 1 0) (get_or r 2 0) (word_at r 4) (word_at r 8)
      of None h = absurd (there (none_of (get_or r 0 0) h low))
      of (Some u) h =
          let mark : (j : ℕ) → get_or (bytes (get_or uses (get_or r 0 0) [])) j false ≡ get_or (marks u) j false = λ j. ap (λ l. get_or l j false) (sym (mark_of u h)) in
          record {
            by = u;
            there = h;
            object = kept_if u.object (get_or r 1 0) (λ e. none-set 1 (omega arith) (omega arith) (mark 0 ∙ e));
            priority = kept_if u.priority (get_or r 2 0) (λ e. none-set 2 (omega arith) (omega arith) (mark 1 ∙ e));
            number = kept_if u.number (word_at r 4) (λ e.
                let a = none-set 4 (omega arith) (omega arith) (mark 3 ∙ e) in
                let b = none-set 5 (omega arith) (omega arith) (mark 4 ∙ e) in
                let c = none-set 6 (omega arith) (omega arith) (mark 5 ∙ e) in
                let d = none-set 7 (omega arith) (omega arith) (mark 6 ∙ e) in
                omega arith);
            parcel = kept_if u.parcel (word_at r 8) (λ e.
                let a = none-set 8 (omega arith) (omega arith) (mark 7 ∙ e) in
                let b = none-set 9 (omega arith) (omega arith) (mark 8 ∙ e) in
                let c = none-set 10 (omega arith) (omega arith) (mark 9 ∙ e) in
                let d = none-set 11 (omega arith) (omega arith) (mark 10 ∙ e) in
                omega arith);
          }

  -- bytes 1 to n are as they should be, or one of them is not
  look : (n : ℕ) → (Zeroed n → Malformed r) → Malformed r
  look zero go = go (λ k low high e. absurd (omega arith))
  look (suc n) go = look n (λ rest. elim (test (used (get_or r 0 0) (suc n))) [
    | is y ↦ go (λ k low high e. elim (ℕ_discrete k (suc n)) [ yes q ↦ absurd (clash y (rw q at e)) | no q ↦ rest k low (omega arith) e ])
    | isnt y ↦ elim (test (eqb (get_or r (suc n) 0) 0)) [
      | is z ↦ go (λ k low high e. elim (ℕ_discrete k (suc n)) [ yes q ↦ rw q (eqb-true (get_or r (suc n) 0) 0 z) | no q ↦ rest k low (omega arith) e ])
      | isnt z ↦ unused (suc n) (omega arith) y (eqb-false (get_or r (suc n) 0) 0 z)
    ]
  ])

  ill : decode_request r ≡ None → Malformed r
  ill bad = elim (test (eqb (length r) 12)) [
    | isnt e ↦ not_twelve (eqb-false (length r) 12 e)
    | is long ↦ elim (test (eqb (get_or r 0 0) 3)) [
      | is e ↦ gone (eqb-true (get_or r 0 0) 3 e)
      | isnt there ↦ elim (test (ltb 24 (get_or r 0 0))) [
        | is e ↦ unknown (ltb-true 24 (get_or r 0 0) e)
        | isnt low ↦ elim (test (eqb (get_or r 3 0) 0)) [
          | isnt e ↦ third (eqb-false (get_or r 3 0) 0 e)
          | is z ↦ look 11 (λ rest.
              let x = parts (eqb-true (length r) 12 long) (eqb-false (get_or r 0 0) 3 there) (ltb-false 24 (get_or r 0 0) low) (eqb-true (get_or r 3 0) 0 z) rest in
              let c : ◌≡◌ {A = ℕ} 0 1 = cc (bad, parts_asked r x) in
              absurd (omega arith))
        ]
      ]
    ]
  ]

  decoded : (d : Option Request) → decode_request r ≡ d → Malformed r → decode_request r ≡ None
  decoded (Some q) e m = absurd (well (parts_of r q e) m)
  decoded None e m = e

  asks : (d : Option Request) → decode_request r ≡ d → Bytes r → (Malformed r → ⊥) → (q : Request) × (written q ≡ r)
  asks (Some q) e byte h = (q, trips.back r byte q e)
  asks None e byte h = absurd (h (ill e))

pub decodes : Decodes
decodes = record { bad = λ r. (ill r, decoded r (decode_request r) refl); other = λ r. asks r (decode_request r) refl }
