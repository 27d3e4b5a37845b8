-- Both round trips of one line. A line that is made of a record is read back field by field; a line that is read is made of its fields' texts.
-- Assumes nothing.
use Rattle.std.proofs.lemmas.Option.{none-some, same_Some}
use Rattle.std.specs.Prelude.{Option, None, Some}
use mathlib.Core.Path.{◌≡◌, refl, sym, ap, ◌∙◌}
use mathlib.Core.Bool.{true, false}
use mathlib.Core.List.{List, [], ◌∷◌, ◌++◌, append-nil}
use Prim.Native.Nat.{ℕ, ◌≤◌, ◌<◌}
use native.Mathlib.Omega.{arith}
use lib.Dec.{ltb}
use lib.ListN.{length, length-append, get_or}
use borrow.Author.Tests.{lt-ltb, le-ltb}
use Rattle.rules.specs.Table.{word_at}
use Rattle.rules.specs.Requests.{Operation, operation_of, decode_request}
use Rattle.text.specs.Text.{decimal}
use Rattle.text.proofs.Decimal.{decimal_room}
use Rattle.request.specs.Written.{record_bytes}
use Rattle.listing.specs.Line.{Front, ◌and_then◌, refused, most_byte, most_word, line_most, field_text, line_text, line_of, number_from, field_from, ended, fields_from, record_of, plain_from}
use Rattle.request.specs.Trips.{Bytes}
use Rattle.request.proofs.Parts.{Kept}
use Rattle.request.proofs.Trips.{record_made}
use Rattle.listing.specs.Trips.{Listed, Written, Asks}
use Rattle.listing.proofs.Numbers.{clean, decimal_read}
use Rattle.listing.proofs.Fields.{then_some, unless_some, field_stops, field_read, field_room, number_plain, number_clean, Field, field_of}
use Rattle.listing.proofs.Requests.{parts_of, record_asks, fields_back, word_most}

-- FROM A RECORD TO ITS LINE AND BACK

module _ (operation o p n d : ℕ) (k : Kept operation o p n d) (operation≤ : operation ≤ most_byte) (o≤ : o ≤ most_byte) (p≤ : p ≤ most_byte) (n≤ : n ≤ most_word) (d≤ : d ≤ most_word) where
  line_short : length (line_text k.by operation o p n d) ≤ line_most
  unfolding line_text
  line_short =
      let u = k.by in
      let D = field_text u.parcel d in
      let N = field_text u.number n in
      let P = field_text u.priority p in
      let O = field_text u.object o in
      omega (
        arith,
        length-append (decimal operation) (O ++ (P ++ (N ++ D))),
        length-append O (P ++ (N ++ D)),
        length-append P (N ++ D),
        length-append N D,
        decimal_room 2 {n = operation} (omega arith),
        field_room u.object 2 {field = o} (omega arith),
        field_room u.priority 2 {field = p} (omega arith),
        field_room u.number 9 {field = n} (omega arith),
        field_room u.parcel 9 {field = d} (omega arith),
      )

  pub line_read : record_of (line_text k.by operation o p n d) ≡ Some (record_bytes operation o p n d)
  unfolding record_of line_text fields_from ended
  line_read =
      let u = k.by in
      let D = field_text u.parcel d ++ [] in
      let N = field_text u.number n ++ D in
      let P = field_text u.priority p ++ N in
      let O = field_text u.object o ++ P in
      let dStops = field_stops u.parcel d [] refl in
      let nStops = field_stops u.number n D dStops in
      let pStops = field_stops u.priority p N nStops in
      let oStops = field_stops u.object o P pStops in
      let whole = decimal operation ++ (field_text u.object o ++ (field_text u.priority p ++ (field_text u.number n ++ field_text u.parcel d))) in
      let padded : whole ≡ decimal operation ++ O = ap (λ (t : List ℕ). decimal operation ++ (field_text u.object o ++ (field_text u.priority p ++ (field_text u.number n ++ t)))) (sym (append-nil (field_text u.parcel d))) in
      rw (
        le-ltb line_most (length whole) line_short,
        padded,
        decimal_read operation O oStops,
        k.there,
        field_read u.object most_byte o P pStops o≤ k.object,
        field_read u.priority most_byte p N nStops p≤ k.priority,
        field_read u.number most_word n D dStops n≤ k.number,
        field_read u.parcel most_word d [] refl d≤ k.parcel,
      ) refl

pub taken_back : (r : List ℕ) → Bytes r → refused (decode_request r) ≡ false → (line_of r and_then record_of) ≡ Some r
unfolding line_of
taken_back r byte taken =
    let w = parts_of r taken in
    let k = w.fields in
    rw (taken, k.there)
    (line_read (get_or r 0 0) (get_or r 1 0) (get_or r 2 0) (word_at r 4) (word_at r 8) k
    (omega (arith, byte 0)) (omega (arith, byte 1)) (omega (arith, byte 2))
    (word_most (get_or r 4 0) (get_or r 5 0) (get_or r 6 0) (get_or r 7 0) (byte 4) (byte 5) (byte 6) (byte 7))
    (word_most (get_or r 8 0) (get_or r 9 0) (get_or r 10 0) (get_or r 11 0) (byte 8) (byte 9) (byte 10) (byte 11))
    ∙ ap Some (sym (record_made r byte w.long w.zeroed)))

pub listed : Listed
listed r byte q e = taken_back r byte (ap refused e)

line_taken : (r l : List ℕ) → line_of r ≡ Some l → refused (decode_request r) ≡ false
unfolding line_of
line_taken r l e =
    (unless_some (refused (decode_request r)) (operation_of (get_or r 0 0) and_then λ u. Some (line_text u (get_or r 0 0) (get_or r 1 0) (get_or r 2 0) (word_at r 4) (word_at r 8))) l e).0

-- the same of a line that is known
pub line_back : (r l : List ℕ) → Bytes r → line_of r ≡ Some l → record_of l ≡ Some r
line_back r l byte e = ap (λ (m : Option (List ℕ)). m and_then record_of) (sym e) ∙ taken_back r byte (line_taken r l e)

-- FROM A LINE TO ITS RECORD AND BACK

ended_of : (r t s : List ℕ) → ended r t ≡ Some s → (t ≡ []) × (r ≡ s)
unfolding ended
ended_of r [] s e = (refl, same_Some _ _ e)
ended_of r (c ∷ cs) s e = absurd (none-some s e)

-- what a line that is taken is made of
pub record Read (l r : List ℕ) : Type 0 where
  pub by : Operation
  pub a : Front
  pub o : Front
  pub p : Front
  pub n : Front
  pub d : Front
  pub first : number_from l ≡ Some a
  pub there : operation_of a.number ≡ Some by
  pub object : Field by.object most_byte a.rest o
  pub priority : Field by.priority most_byte o.rest p
  pub number : Field by.number most_word p.rest n
  pub parcel : Field by.parcel most_word n.rest d
  pub ends : d.rest ≡ []
  pub made : record_bytes a.number o.number p.number n.number d.number ≡ r

pub read : (l r : List ℕ) → record_of l ≡ Some r → Read l r
unfolding record_of fields_from
read l r e =
    let line = unless_some (ltb line_most (length l)) (number_from l and_then λ a. operation_of a.number and_then λ u. fields_from u a) r e in
    let A = then_some (number_from l) (λ a. operation_of a.number and_then λ u. fields_from u a) r line.1 in
    let U = then_some (operation_of A.0.number) (λ u. fields_from u A.0) r A.2 in
    let u = U.0 in
    let O = then_some (field_from u.object most_byte A.0.rest) _ r U.2 in
    let P = then_some (field_from u.priority most_byte O.0.rest) _ r O.2 in
    let N = then_some (field_from u.number most_word P.0.rest) _ r P.2 in
    let D = then_some (field_from u.parcel most_word N.0.rest) _ r N.2 in
    let E = ended_of (record_bytes A.0.number O.0.number P.0.number N.0.number D.0.number) D.0.rest r D.2 in
    record {
      by = u;
      a = A.0;
      o = O.0;
      p = P.0;
      n = N.0;
      d = D.0;
      first = A.1;
      there = U.1;
      object = field_of u.object most_byte A.0.rest O.0 O.1;
      priority = field_of u.priority most_byte O.0.rest P.0 P.1;
      number = field_of u.number most_word P.0.rest N.0 N.1;
      parcel = field_of u.parcel most_word N.0.rest D.0 D.1;
      ends = E.0;
      made = E.1;
    }

-- a line that is taken has no line feed
pub taken_clean : (l r : List ℕ) → record_of l ≡ Some r → clean l ≡ true
taken_clean l r e =
    let w = read l r e in
    number_clean l w.a w.first (w.object.clear (w.priority.clear (w.number.clear (w.parcel.clear (ap clean w.ends)))))

-- an operation of the table, and fields that it keeps
kept_read : {l r : List ℕ} (w : Read l r) → Kept w.a.number w.o.number w.p.number w.n.number w.d.number
kept_read w = record { by = w.by; there = w.there; object = w.object.zeroed; priority = w.priority.zeroed; number = w.number.zeroed; parcel = w.parcel.zeroed }

pub asks : Asks
asks l r e =
    let w = read l r e in
    let k = kept_read w in (
      k.by.asks w.o.number w.p.number w.n.number w.d.number,
      ap decode_request (sym w.made) ∙ record_asks w.a.number w.o.number w.p.number w.n.number w.d.number k,
    )

-- a line without leading zeros is its fields' texts
line_plain : {l r : List ℕ} (w : Read l r) → plain_from true l ≡ true
    → line_text w.by w.a.number w.o.number w.p.number w.n.number w.d.number ≡ l
unfolding line_text
line_plain {l} w h =
    let A = number_plain l w.a w.first h in
    let O = w.object.text A.1 in
    let P = w.priority.text O.1 in
    let N = w.number.text P.1 in
    let D = w.parcel.text N.1 in
    let last : w.n.rest ≡ field_text w.by.parcel w.d.number = D.0 ∙ ap (λ (t : List ℕ). field_text w.by.parcel w.d.number ++ t) w.ends ∙ append-nil (field_text w.by.parcel w.d.number) in
    sym (A.0
    ∙ ap (λ (t : List ℕ). decimal w.a.number ++ t) (O.0
    ∙ ap (λ (t : List ℕ). field_text w.by.object w.o.number ++ t) (P.0
    ∙ ap (λ (t : List ℕ). field_text w.by.priority w.p.number ++ t) (N.0
    ∙ ap (λ (t : List ℕ). field_text w.by.number w.n.number ++ t) last))))

made_line : (operation o p n d : ℕ) (k : Kept operation o p n d) → line_of (record_bytes operation o p n d) ≡ Some (line_text k.by operation o p n d)
unfolding line_of
made_line operation o p n d k =
    let fields = fields_back operation o p n d in
    rw (ap refused (record_asks operation o p n d k), k.there, fields.number, fields.parcel) refl

pub written : Written
unfolding kept_read
written l r e h =
    let w = read l r e in
    ap line_of (sym w.made) ∙ made_line w.a.number w.o.number w.p.number w.n.number w.d.number (kept_read w)
    ∙ ap Some (line_plain w h)

-- A LINE THAT IS TOO LONG

pub too_long_lem : (line : List ℕ) → line_most < length line → None ≡ record_of line
unfolding record_of
too_long_lem line h = rw (lt-ltb line_most (length line) h) refl
