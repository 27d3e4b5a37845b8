-- A record asks a request exactly when it has 12 bytes, byte 3 is zero, an operation has its number and each field is used or
-- zero: these are the decoder's tests, one by one. Assumes nothing.
use Rattle.std.proofs.lemmas.Option.{none-some}
use Rattle.std.specs.Prelude.{if◌then◌else◌, None, Option, Some}
use mathlib.Core.Path.{◌≡◌, refl}
use mathlib.Core.Bool.{Bool, true, false, ◌&&◌}
use mathlib.Core.List.{List}
use Prim.Native.Nat.{ℕ}
use lib.Dec.{eqb}
use lib.ListN.{length, get_or}
use borrow.Author.Tests.{eqb-true, eq-eqb}
use Rattle.rules.specs.Table.{word_at}
use Rattle.rules.specs.Requests.{Operation, operation_of, request_length, kept, asked_by, request_of, decode_request}
use Rattle.rules.specs.declared.Request.{Request}
use Rattle.laws.proofs.Split.{and_true}

-- an operation of the table, and fields that it uses or that are zero
pub record Kept (operation o p n d : ℕ) : Type 0 where
  pub by : Operation
  pub there : operation_of operation ≡ Some by
  pub object : kept by.object o ≡ true
  pub priority : kept by.priority p ≡ true
  pub number : kept by.number n ≡ true
  pub parcel : kept by.parcel d ≡ true

pub record Parts (r : List ℕ) : Type 0 where
  pub long : length r ≡ request_length
  pub zeroed : get_or r 3 0 ≡ 0
  pub fields : Kept (get_or r 0 0) (get_or r 1 0) (get_or r 2 0) (word_at r 4) (word_at r 8)

-- the request that they make
abbrev pub made : {r : List ℕ} → Parts r → Request
made {r} x = x.fields.by.asks (get_or r 1 0) (get_or r 2 0) (word_at r 4) (word_at r 8)

pub parts_asked : (r : List ℕ) (x : Parts r) → decode_request r ≡ Some (made x)
unfolding decode_request request_of
parts_asked r x =
    let k = x.fields in
    rw (eq-eqb (length r) request_length x.long, eq-eqb (get_or r 3 0) 0 x.zeroed, k.there, k.object, k.priority, k.number, k.parcel) refl

-- what asks is no bad record
passed : (b : Bool) (x : Option Request) (q : Request) → (if b then x else None) ≡ Some q → (b ≡ true) × (x ≡ Some q)
passed true x q e = (refl, e)
passed false x q e = absurd (none-some q e)

kept_of : (m : Option Operation) (operation o p n d : ℕ) (q : Request) → operation_of operation ≡ m → asked_by m o p n d ≡ Some q
    → Kept operation o p n d
kept_of None operation o p n d q h e = absurd (none-some q e)
kept_of (Some u) operation o p n d q h e =
    let all = (passed (kept u.object o && kept u.priority p && kept u.number n && kept u.parcel d) (Some (u.asks o p n d)) q e).0 in
    let a = and_true (kept u.object o && kept u.priority p && kept u.number n) (kept u.parcel d) all in
    let b = and_true (kept u.object o && kept u.priority p) (kept u.number n) a.0 in
    let c = and_true (kept u.object o) (kept u.priority p) b.0 in
    record { by = u; there = h; object = c.0; priority = c.1; number = b.1; parcel = a.1 }

pub parts_of : (r : List ℕ) (q : Request) → decode_request r ≡ Some q → Parts r
unfolding decode_request request_of
parts_of r q e =
    let p = passed (eqb (length r) request_length && eqb (get_or r 3 0) 0) (request_of (get_or r 0 0) (get_or r 1 0) (get_or r 2 0) (word_at r 4) (word_at r 8)) q e in
    let t = and_true (eqb (length r) request_length) (eqb (get_or r 3 0) 0) p.0 in
    record {
      long = eqb-true (length r) request_length t.0;
      zeroed = eqb-true (get_or r 3 0) 0 t.1;
      fields = kept_of (operation_of (get_or r 0 0)) (get_or r 0 0) (get_or r 1 0) (get_or r 2 0) (word_at r 4) (word_at r 8) q refl p.1;
    }
