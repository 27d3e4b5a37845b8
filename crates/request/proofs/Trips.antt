-- A record that asks a request is the one that the request is written as: each of its bytes is that of a field, an unused field is zero,
-- and the request holds the others. Assumes nothing.
use Rattle.std.specs.Prelude.{if◌then◌else◌, Some, Option, None}
use mathlib.Core.Path.{◌≡◌, refl, sym, ap, ◌∙◌}
use mathlib.Core.Bool.{Bool, true, false}
use mathlib.Core.List.{List, [], ◌∷◌}
use Prim.Native.Nat.{ℕ, zero, suc, ◌+◌}
use native.Mathlib.Omega.{arith}
use lib.ListN.{length, get_or}
use borrow.Author.Tests.{eqb-true}
use Rattle.rules.specs.Table.{word_at}
use Rattle.rules.specs.Requests.{Operation, operations, request_length, kept, decode_request}
use Rattle.rules.specs.declared.Request.{Request}
use Rattle.laws.proofs.Words.{word_of}
use Rattle.request.specs.Written.{fields_of, record_bytes, written}
use Rattle.request.specs.Trips.{Bytes, Trips}
use Rattle.request.proofs.Back.{decode_written}
use Rattle.request.proofs.Parts.{Kept, made, parts_asked, parts_of}

-- THE BYTES OF A RECORD

-- n bytes of a list, from the one numbered k on
cells : List ℕ → ℕ → ℕ → List ℕ
cells r k zero = []
cells r k (suc n) = get_or r k 0 ∷ cells r (suc k) n

cells_behind : (x : ℕ) (r : List ℕ) (k n : ℕ) → cells (x ∷ r) (suc k) n ≡ cells r k n
unfolding cells
cells_behind x r k zero = refl
cells_behind x r k (suc n) = ap (λ (l : List ℕ). get_or r k 0 ∷ l) (cells_behind x r (suc k) n)

all_cells : (r : List ℕ) → r ≡ cells r 0 (length r)
unfolding cells
all_cells [] = refl
all_cells (x ∷ r) = ap (λ (l : List ℕ). x ∷ l) (all_cells r ∙ sym (cells_behind x r 0 (length r)))

pub record_made : (r : List ℕ) → Bytes r → length r ≡ request_length → get_or r 3 0 ≡ 0
    → r ≡ record_bytes (get_or r 0 0) (get_or r 1 0) (get_or r 2 0) (word_at r 4) (word_at r 8)
unfolding cells
record_made r byte long z =
    let n = word_of (get_or r 4 0) (get_or r 5 0) (get_or r 6 0) (get_or r 7 0) (byte 4) (byte 5) (byte 6) (byte 7) in
    let d = word_of (get_or r 8 0) (get_or r 9 0) (get_or r 10 0) (get_or r 11 0) (byte 8) (byte 9) (byte 10) (byte 11) in
    all_cells r ∙ ap (cells r 0) long
    ∙ (λ i. get_or r 0 0 ∷ get_or r 1 0 ∷ get_or r 2 0 ∷ z i ∷ sym n.0 i ∷ sym n.1 i ∷ sym n.2 i ∷ sym n.3 i ∷ sym d.0 i ∷ sym d.1 i ∷ sym d.2 i ∷ sym d.3 i ∷ [])

-- THE FIELDS OF A REQUEST

abbrev Fields : Type 0
Fields = ℕ × ℕ × ℕ × ℕ × ℕ

-- a field that is used, or zero
abbrev only : Bool → ℕ → ℕ
only used field = if used then field else 0

only_kept : (used : Bool) (field : ℕ) → kept used field ≡ true → only used field ≡ field
only_kept true field e = refl
only_kept false field e = sym (eqb-true field 0 e)

-- what is said of an operation, where there is one
said_of : (Operation → Fields) → Option Operation → Option Fields
said_of f None = None
said_of f (Some u) = Some (f u)

-- a table's lines with their numbers, the first of which is i
numbered : (ℕ → Operation → Fields) → ℕ → List (Option Operation) → List (Option Fields)
numbered f i [] = []
numbered f i (u ∷ us) = said_of (f i) u ∷ numbered f (suc i) us

numbered_at : (f g : ℕ → Operation → Fields) (us : List (Option Operation)) (i j k : ℕ) (u : Operation) → k ≡ i + j → numbered f i us ≡ numbered g i us
    → get_or us j None ≡ Some u → f k u ≡ g k u
unfolding numbered said_of
numbered_at f g [] i j k u e q h = let z : ◌≡◌ {A = ℕ} 0 1 = cc in absurd (omega arith)
numbered_at f g (None ∷ us) i zero k u e q h = let z : ◌≡◌ {A = ℕ} 0 1 = cc in absurd (omega arith)
numbered_at f g (Some v ∷ us) i zero k u e q h = let n : k ≡ i = omega arith in cc
numbered_at f g (v ∷ us) i (suc j) k u e q h =
    let rest : numbered f (suc i) us ≡ numbered g (suc i) us = cc in
    numbered_at f g us (suc i) j k u (omega arith) rest h

module _ (o p n d : ℕ) where
  asked : ℕ → Operation → Fields
  asked i u = fields_of (u.asks (only u.object o) (only u.priority p) (only u.number n) (only u.parcel d))

  said : ℕ → Operation → Fields
  said i u = (i, only u.object o, only u.priority p, only u.number n, only u.parcel d)

  -- line by line, the request that a line makes has the line's number and its fields
  every : numbered asked 0 operations ≡ numbered said 0 operations
  unfolding numbered said_of asked said
  every = refl

  fields_made : (operation : ℕ) (k : Kept operation o p n d) → fields_of (k.by.asks o p n d) ≡ (operation, o, p, n, d)
  unfolding asked said
  fields_made operation k =
      let u = k.by in
      let e = numbered_at asked said operations 0 operation operation u (omega arith) every k.there in
      rw (only_kept u.object o k.object, only_kept u.priority p k.priority, only_kept u.number n k.number, only_kept u.parcel d k.parcel) at e

-- the fields of the request that a record asks are the record's
pub fields_read : (r : List ℕ) (q : Request) → decode_request r ≡ Some q → fields_of q ≡ (get_or r 0 0, get_or r 1 0, get_or r 2 0, word_at r 4, word_at r 8)
fields_read r q e =
    let x = parts_of r q e in
    let same : q ≡ made x = cc (parts_asked r x) in
    ap fields_of same ∙ fields_made (get_or r 1 0) (get_or r 2 0) (word_at r 4) (word_at r 8) (get_or r 0 0) x.fields

written_back : (r : List ℕ) → Bytes r → (q : Request) → decode_request r ≡ Some q → written q ≡ r
unfolding written
written_back r byte q e =
    let x = parts_of r q e in
    ap (λ (f : Fields). record_bytes f.0 f.1 f.2 f.3 f.4) (fields_read r q e) ∙ sym (record_made r byte x.long x.zeroed)

pub trips : Trips
trips = record { there = decode_written; back = written_back }
