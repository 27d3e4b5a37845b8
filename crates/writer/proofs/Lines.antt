-- The fields that an operation uses, asked of the table and never looked into; the number and the fields at the front of a text; and a record's line.
-- Assumes nothing.
use Rattle.std.specs.Prelude.{if◌then◌else◌, Option, None, Some, Result, Ok, Err, is_some}
use Rattle.std.proofs.lemmas.Option.{none-some, same_Some}
use Rattle.std.specs.Result.{OkIff, result_ok}
use mathlib.Core.Path.{◌≡◌, refl, sym, ap, subst, ◌∙◌}
use mathlib.Core.Bool.{Bool, true, false, ◌&&◌}
use mathlib.Core.List.{List, [], ◌∷◌, ◌++◌, append_assoc}
use Rattle.std.specs.Int.{to_le_bytes}
use mir.Syntax.{w32}
use mir.Val.{Fits}
use Prim.Native.Nat.{ℕ, zero, ◌/◌, ◌%◌, suc, ◌+◌, ◌*◌, ◌-◌, ◌≤◌, ◌<◌, min}
use native.Mathlib.Decide.{dec_lt}
use native.Mathlib.Omega.{arith}
use lib.Dec.{eqb}
use lib.ListN.{length, get_or, take, drop, drop_of_length-le, get_or-eq_default}
use lib.Seq.{drop-cons}
use lib.Pointwise.{pointwise}
use denote.Ref.{Bor}
use borrow.Author.Tests.{le-leb, lt-leb, le-ltb}
use Rattle.rules.specs.Table.{word_at, word_bytes}
use Rattle.rules.specs.Requests.{Operation, operation_of, operations, kept, asked_by, request_of, decode_request, request_length}
use Rattle.rules.specs.declared.Request.{Request}
use Rattle.laws.proofs.Split.{is, isnt, test, clash}
use Rattle.listing.specs.Line.{Front as Text, ◌and_then◌, is_digit, digit_first, digits_from, number_from, at_most, spaced_from, field_from, fields_from, ended, record_of, most_byte, most_word, line_most, refused, line_of, line_text, field_text}
use Rattle.text.specs.Text.{decimal}
use Rattle.request.specs.Written.{record_bytes}
use Rattle.listing.proofs.Requests.{parts_of}
use Rattle.listing.proofs.Numbers.{digits_stop}
use Rattle.writer.specs.Lines.{uses_of, too_large, told, any_field, FieldRead, rest_of, fields_text}
use Rattle.writer.specs.declared.asks.Uses.{Uses}

-- THE FIELDS OF AN OPERATION

-- a field that is not used is taken as 0 only
kept_one : (used : Bool) → kept used 1 ≡ used
kept_one true = refl
kept_one false = refl

kept_none : (used : Bool) → kept used 0 ≡ true
kept_none true = refl
kept_none false = refl

told_by : (used : Bool) (q : Request) → is_some (if used then Some q else None) ≡ used
told_by true q = refl
told_by false q = refl

and_on : (a : Bool) → a && true ≡ a
and_on true = refl
and_on false = refl

bare : (u : Operation) → asked_by (Some u) 0 0 0 0 ≡ Some (u.asks 0 0 0 0)
bare u = rw (kept_none u.object, kept_none u.priority, kept_none u.number, kept_none u.parcel) refl

unknown_by : (m : Option Operation) → asked_by m 0 0 0 0 ≡ None → None ≡ uses_of m
unknown_by None e = refl
unknown_by (Some u) e = absurd (none-some (u.asks 0 0 0 0) (sym e ∙ bare u))

-- a number that is not taken without fields has no operation
pub unknown : (operation : ℕ) → request_of operation 0 0 0 0 ≡ None → None ≡ uses_of (operation_of operation)
unfolding request_of
unknown operation e = unknown_by (operation_of operation) e

known_by : (m : Option Operation) {q : Request} → asked_by m 0 0 0 0 ≡ Some q
    → Some (record { object = is_some (asked_by m 1 0 0 0); priority = is_some (asked_by m 0 1 0 0); number = is_some (asked_by m 0 0 1 0); parcel = is_some (asked_by m 0 0 0 1) }) ≡ uses_of m
known_by None e = absurd (none-some _ e)
known_by (Some u) e =
    let o = u.object in
    let p = u.priority in
    let n = u.number in
    let d = u.parcel in
    rw (
      kept_one o,
      kept_none o,
      kept_one p,
      kept_none p,
      kept_one n,
      kept_none n,
      kept_one d,
      kept_none d,
      and_on o,
      and_on o,
      and_on o,
      and_on p,
      and_on p,
      and_on n,
      told_by o (u.asks 1 0 0 0),
      told_by p (u.asks 0 1 0 0),
      told_by n (u.asks 0 0 1 0),
      told_by d (u.asks 0 0 0 1),
    ) refl

-- it uses those with which it is taken
pub known : (operation : ℕ) {q : Request} → request_of operation 0 0 0 0 ≡ Some q
    → Some (record { object = is_some (request_of operation 1 0 0 0); priority = is_some (request_of operation 0 1 0 0); number = is_some (request_of operation 0 0 1 0); parcel = is_some (request_of operation 0 0 0 1) })
    ≡ uses_of (operation_of operation)
unfolding request_of
known operation e = known_by (operation_of operation) e

-- what is known of an operation that uses these fields
known_of : (m : Option Operation) (w : Uses) → Some w ≡ uses_of m
    → (u : Operation) × (m ≡ Some u) × (u.object ≡ w.object) × (u.priority ≡ w.priority) × (u.number ≡ w.number) × (u.parcel ≡ w.parcel)
known_of None w e = absurd (none-some _ (sym e))
known_of (Some u) w e =
    let same : w ≡ record { object = u.object; priority = u.priority; number = u.number; parcel = u.parcel } = same_Some _ _ e in
    (u, refl, sym (ap (λ (x : Uses). x.object) same), sym (ap (λ (x : Uses). x.priority) same), sym (ap (λ (x : Uses). x.number) same), sym (ap (λ (x : Uses). x.parcel) same))

no_uses : (m : Option Operation) → None ≡ uses_of m → m ≡ None
no_uses None e = refl
no_uses (Some u) e = absurd (none-some _ e)

-- A NUMBER AT THE FRONT OF A TEXT

-- a number as it is told
abbrev pub capped : Text → Text
capped f = record { number = min f.number too_large; rest = f.rest }

pub digit_there : (t : List ℕ) (n : ℕ) → n < length t → digit_first (drop n t) ≡ is_digit (get_or t n 0)
digit_there t n h = ap digit_first (drop-cons t n 0 h)

pub none_there : (t : List ℕ) (n : ℕ) → length t ≤ n → digit_first (drop n t) ≡ false
none_there t n h = ap digit_first (drop_of_length-le t h)

same_capped : (m n : ℕ) (t : List ℕ) → min m too_large ≡ min n too_large → capped (digits_from m t) ≡ capped (digits_from n t)
unfolding digits_from
same_capped m n [] e = λ i. record { number = e i; rest = [] }
same_capped m n (c ∷ cs) e =
    elim (test (is_digit c)) [
      | is d ↦ rw d (same_capped (m * 10 + (c - 48)) (n * 10 + (c - 48)) cs (omega arith))
      | isnt d ↦ rw d (λ i. record { number = e i; rest = c ∷ cs })
    ]

-- a turn of the loop takes a digit
pub digit_taken : (m : ℕ) (t : List ℕ) (n : ℕ) → n < length t → is_digit (get_or t n 0) ≡ true
    → capped (digits_from m (drop n t)) ≡ capped (digits_from (min (m * 10 + (get_or t n 0 - 48)) too_large) (drop (n + 1) t))
unfolding digits_from
digit_taken m t n h d =
    let next : n + 1 ≡ suc n = omega arith in
    rw (drop-cons t n 0 h, d, next)
    (same_capped (m * 10 + (get_or t n 0 - 48)) (min (m * 10 + (get_or t n 0 - 48)) too_large) (drop (suc n) t) (omega arith))

-- what the first turn finds of the text's first character, a later one keeps
pub started : (t : List ℕ) (n : ℕ) → (0 < n → digit_first t ≡ true) → digit_first (drop n t) ≡ true → 0 < n + 1 → digit_first t ≡ true
started t zero h d p = d
started t (suc n) h d p = h (omega arith)

-- no digit: no number
pub no_number : (t : List ℕ) → digit_first t ≡ false → None ≡ told (number_from t)
unfolding number_from
no_number t e = rw e refl

pub a_number : (t : List ℕ) (m n : ℕ) → digit_first t ≡ true → digit_first (drop n t) ≡ false → m ≤ too_large
    → capped (digits_from 0 t) ≡ capped (digits_from m (drop n t)) → Some (record { number = m; rest = drop n t }) ≡ told (number_from t)
unfolding number_from
a_number t m n b s v e =
    let all : capped (digits_from 0 t) ≡ record { number = min m too_large; rest = drop n t } = e ∙ ap capped (digits_stop m (drop n t) s) in
    let own : m ≡ min m too_large = omega (arith, v) in
    rw b (ap Some ((λ j. record { number = own j; rest = drop n t }) ∙ sym all))

-- A FIELD AT THE FRONT OF A TEXT

pub unused : (used : Bool) (t : List ℕ) → used ≡ false → Some (record { number = 0; rest = t }) ≡ told (any_field used t)
unfolding any_field
unused true t e = absurd (clash refl e)
unused false t e = refl

pub no_space : (used : Bool) (t : List ℕ) → used ≡ true → pointwise eqb (take 1 t) (32 ∷ []) ≡ false → None ≡ told (any_field used t)
unfolding any_field
no_space false t u e = absurd (clash u refl)
no_space true [] u e = refl
no_space true (c ∷ cs) u e =
    elim (test (eqb c 32)) [
      | is s ↦ absurd (clash (rw s refl) e)
      | isnt s ↦ rw s refl
    ]

pub spaced : (used : Bool) (t : List ℕ) → used ≡ true → pointwise eqb (take 1 t) (32 ∷ []) ≡ true → told (number_from (drop 1 t)) ≡ told (any_field used t)
unfolding any_field
spaced false t u e = absurd (clash u refl)
spaced true [] u e = absurd (clash e refl)
spaced true (c ∷ cs) u e =
    elim (test (eqb c 32)) [
      | is s ↦ rw s refl
      | isnt s ↦ absurd (clash e (rw s refl))
    ]

-- what is converted
pub none_ok : {T E : Type 0} (G : Result T E → Type 0) (x : Result T E) → None ≡ result_ok x → G x → (e : E) × G (Err e)
none_ok G (Ok v) q g = absurd (none-some _ q)
none_ok G (Err e) q g = (e, g)

pub some_ok : {T E : Type 0} (G : Result T E → Type 0) (x : Result T E) (v : T) → Some v ≡ result_ok x → G x → G (Ok v)
some_ok G (Ok w) v q g = subst (λ x. G (Ok x)) (sym (same_Some _ _ q)) g
some_ok G (Err e) v q g = absurd (none-some _ (sym q))

bounded : (used : Bool) (most : ℕ) (t : List ℕ) → (any_field used t and_then at_most most) ≡ field_from used most t
unfolding any_field field_from spaced_from
bounded true most [] = refl
bounded true most (c ∷ cs) =
    elim (test (eqb c 32)) [
      | is s ↦ rw s refl
      | isnt s ↦ rw s refl
    ]
bounded false most t = ap (λ (b : Bool). if b then Some (record { number = 0; rest = t }) else None) (le-leb 0 most (omega arith))

-- a conversion to a type of a field
abbrev Gives : (E : Type 0) → ℕ → ℕ → Result ℕ E → Type 0
Gives E most n x = OkIff x (n < suc most) n

module _ (E : Type 0) (most : ℕ) (h : most ≤ most_word) where
  none_by : (m : Option Text) (r : Option (ℕ × Bor (List ℕ))) → FieldRead (Gives E most) (told m) r → r ≡ None → (m and_then at_most most) ≡ None
  none_by None r f e = refl
  none_by (Some g) r f e =
      let large = (rw e at f) in
      elim (dec_lt most g.number) [
        | yes l ↦ rw (lt-leb g.number most l) refl
        | no l ↦ absurd (large.1 (omega arith))
      ]

  some_by : (m : Option Text) (r : Option (ℕ × Bor (List ℕ))) (n : ℕ) (rest : Bor (List ℕ)) → FieldRead (Gives E most) (told m) r → r ≡ Some (n, rest)
      → (m and_then at_most most) ≡ Some (record { number = n; rest = rest.now })
  some_by None r n rest f e = absurd (none-some _ (sym f ∙ e))
  some_by (Some g) r n rest f e =
      let fits = (rw e at f) in
      let number : g.number ≡ n = omega (arith, fits.0.0, fits.0.1) in
      rw (le-leb g.number most (omega (arith, fits.0.0))) (λ i. Some (record { number = number i; rest = sym fits.1 i }))

  field_none : (used : Bool) (t : List ℕ) {r : Option (ℕ × Bor (List ℕ))} → FieldRead (Gives E most) (told (any_field used t)) r → r ≡ None → field_from used most t ≡ None
  field_none used t {r} f e = sym (bounded used most t) ∙ none_by (any_field used t) r f e

  field_some : (used : Bool) (t : List ℕ) {r : Option (ℕ × Bor (List ℕ))} {n : ℕ} {rest : Bor (List ℕ)} → FieldRead (Gives E most) (told (any_field used t)) r → r ≡ Some (n, rest)
      → field_from used most t ≡ Some (record { number = n; rest = rest.now })
  field_some used t {r} {n} {rest} f e = sym (bounded used most t) ∙ some_by (any_field used t) r n rest f e

-- THE FIELDS OF A LINE

pub no_operation : (operation : ℕ) (t : List ℕ) → None ≡ uses_of (operation_of operation) → None ≡ rest_of operation t
unfolding rest_of
no_operation operation t e = rw (no_uses (operation_of operation) e) refl

goes_on : (r l : List ℕ) → (length l ≡ 0 → ⊥) → ended r l ≡ None
unfolding ended
goes_on r [] h = absurd (h refl)
goes_on r (x ∷ l) h = refl

ends : (r l : List ℕ) → length l ≡ 0 → ended r l ≡ Some r
unfolding ended
ends r [] h = refl
ends r (x ∷ l) h = absurd (omega (arith, h))

-- the ways out of the rest of a line, each field read as the operation tells, and what is answered of it
module _ (E : Type 0) (operation : ℕ) (t : List ℕ) (w : Uses) (k : Some w ≡ uses_of (operation_of operation)) where
  abbrev Reads : ℕ → Bool → List ℕ → Option (ℕ × Bor (List ℕ)) → Type 0
  Reads most used l r = FieldRead (Gives E most) (told (any_field used l)) r

  by_uses : rest_of operation t
      ≡ (field_from w.object most_byte t and_then λ o.
      field_from w.priority most_byte o.rest and_then λ p.
      field_from w.number most_word p.rest and_then λ n.
      field_from w.parcel most_word n.rest and_then λ d.
      ended (record_bytes operation o.number p.number n.number d.number) d.rest)
  unfolding rest_of fields_from
  by_uses =
      let u = known_of (operation_of operation) w k in
      rw (u.1, u.2, u.3, u.4, u.5) refl

  module _ {or : Option (ℕ × Bor (List ℕ))} (o : Reads most_byte w.object t or) where
    pub no_object : or ≡ None → None ≡ rest_of operation t
    no_object e = sym (by_uses ∙ rw (field_none E most_byte (omega arith) w.object t o e) refl)

    module _ {object : ℕ} {a : Bor (List ℕ)} (oe : or ≡ Some (object, a)) where
      of : field_from w.object most_byte t ≡ Some (record { number = object; rest = a.now })
      of = field_some E most_byte (omega arith) w.object t o oe

      module _ {pr : Option (ℕ × Bor (List ℕ))} (p : Reads most_byte w.priority a.now pr) where
        pub no_priority : pr ≡ None → None ≡ rest_of operation t
        no_priority e = sym (by_uses ∙ rw (of, field_none E most_byte (omega arith) w.priority a.now p e) refl)

        module _ {priority : ℕ} {b : Bor (List ℕ)} (pe : pr ≡ Some (priority, b)) where
          pf : field_from w.priority most_byte a.now ≡ Some (record { number = priority; rest = b.now })
          pf = field_some E most_byte (omega arith) w.priority a.now p pe

          module _ {nr : Option (ℕ × Bor (List ℕ))} (n : Reads most_word w.number b.now nr) where
            pub no_word : nr ≡ None → None ≡ rest_of operation t
            no_word e = sym (by_uses ∙ rw (of, pf, field_none E most_word (omega arith) w.number b.now n e) refl)

            module _ {number : ℕ} {c : Bor (List ℕ)} (ne : nr ≡ Some (number, c)) where
              nf : field_from w.number most_word b.now ≡ Some (record { number = number; rest = c.now })
              nf = field_some E most_word (omega arith) w.number b.now n ne

              module _ {dr : Option (ℕ × Bor (List ℕ))} (d : Reads most_word w.parcel c.now dr) where
                pub no_parcel : dr ≡ None → None ≡ rest_of operation t
                no_parcel e = sym (by_uses ∙ rw (of, pf, nf, field_none E most_word (omega arith) w.parcel c.now d e) refl)

                module _ {parcel : ℕ} {end : Bor (List ℕ)} (de : dr ≡ Some (parcel, end)) where
                  df : field_from w.parcel most_word c.now ≡ Some (record { number = parcel; rest = end.now })
                  df = field_some E most_word (omega arith) w.parcel c.now d de

                  pub no_end : (length end.now ≡ 0 → ⊥) → None ≡ rest_of operation t
                  no_end e = sym (by_uses ∙ rw (of, pf, nf, df) (goes_on _ end.now e))

                  pub all_read : length end.now ≡ 0 → Some (record_bytes operation object priority number parcel) ≡ rest_of operation t
                  all_read e = sym (by_uses ∙ rw (of, pf, nf, df) (ends _ end.now e))

-- THE WHOLE LINE

-- the table has no operation above 255
no_large : (m : Option Text) (n : ℕ) (t : List ℕ) → Some (record { number = n; rest = t }) ≡ told m → most_byte < n → None ≡ (m and_then λ a. operation_of a.number and_then λ u. fields_from u a)
no_large None n t e l = refl
no_large (Some f) n t e l =
    let number : n ≡ min f.number too_large = ap (λ (g : Text). g.number) (same_Some _ _ e) in
    rw (get_or-eq_default operations None {n = f.number} (omega (arith, number, l))) refl

no_first : (m : Option Text) → None ≡ told m → None ≡ (m and_then λ a. operation_of a.number and_then λ u. fields_from u a)
no_first None e = refl
no_first (Some f) e = absurd (none-some (record { number = min f.number too_large; rest = f.rest }) e)

first : (m : Option Text) (n : ℕ) (t : List ℕ) → Some (record { number = n; rest = t }) ≡ told m → n ≤ most_byte → rest_of n t ≡ (m and_then λ a. operation_of a.number and_then λ u. fields_from u a)
unfolding rest_of
first None n t e l = absurd (none-some (record { number = n; rest = t }) (sym e))
first (Some f) n t e l =
    let same = same_Some _ _ e in
    let told-number : n ≡ min f.number too_large = ap (λ (g : Text). g.number) same in
    let number : n ≡ f.number = omega (arith, told-number, l) in
    let rest : t ≡ f.rest = ap (λ (g : Text). g.rest) same in
    (λ i. operation_of (number i) and_then λ u. fields_from u (record { number = number i; rest = rest i }))

module _ (line : List ℕ) (h : length line ≤ line_most) where
  pub not_a_number : None ≡ told (number_from line) → None ≡ record_of line
  unfolding record_of
  not_a_number e = rw (le-ltb line_most (length line) h) (no_first (number_from line) e)

  pub large_operation : {n : ℕ} {t : List ℕ} → Some (record { number = n; rest = t }) ≡ told (number_from line) → (n < 256 → ⊥) → None ≡ record_of line
  unfolding record_of
  large_operation {n} {t} e l = rw (le-ltb line_most (length line) h) (no_large (number_from line) n t e (omega (arith, l)))

  pub line_read : {n : ℕ} {t : List ℕ} → Some (record { number = n; rest = t }) ≡ told (number_from line) → n < 256 → rest_of n t ≡ record_of line
  unfolding record_of
  line_read {n} {t} e l = rw (le-ltb line_most (length line) h) (first (number_from line) n t e (omega (arith, l)))

-- a word as the library writes it
pub word_written : (n : ℕ) → Fits w32 n → to_le_bytes w32 n ≡ word_bytes n
word_written n h =
    let top : n / 16777216 % 256 ≡ n / 16777216 = omega (arith, h.fits) in
    λ i. n % 256 ∷ n / 256 % 256 ∷ n / 65536 % 256 ∷ top i ∷ []

pub put_in_turn : (l a b c : List ℕ) → ((l ++ a) ++ b) ++ c ≡ l ++ (a ++ (b ++ c))
put_in_turn l a b c = append_assoc (l ++ a) b c ∙ append_assoc l a (b ++ c)

-- A RECORD'S LINE

right : (a b c d e : List ℕ) → a ++ (b ++ (c ++ (d ++ e))) ≡ a ++ b ++ c ++ d ++ e
right a b c d e = sym (append_assoc a b (c ++ (d ++ e))) ∙ sym (append_assoc (a ++ b) c (d ++ e)) ∙ sym (append_assoc (a ++ b ++ c) d e)

pub refused_text : (r : List ℕ) → decode_request r ≡ None → line_of r ≡ None
unfolding line_of
refused_text r e = rw e refl

-- a record that asks something
module _ (r : List ℕ) {q : Request} (e : decode_request r ≡ Some q) where
  asks : refused (decode_request r) ≡ false
  asks = ap refused e

  pub is_record : length r ≡ request_length
  is_record = (parts_of r asks).long

  pub not_unknown : None ≡ uses_of (operation_of (get_or r 0 0)) → ⊥
  not_unknown k = none-some _ (sym (no_uses (operation_of (get_or r 0 0)) k) ∙ (parts_of r asks).fields.there)

  pub taken_text : (w : Uses) → Some w ≡ uses_of (operation_of (get_or r 0 0))
      → line_of r ≡ Some (fields_text w (record { operation = get_or r 0 0; object = get_or r 1 0; priority = get_or r 2 0; number = word_at r 4; parcel = word_at r 8 }))
  unfolding line_of line_text
  taken_text w k =
      let u = known_of (operation_of (get_or r 0 0)) w k in
      rw (e, u.1, u.2, u.3, u.4, u.5)
      (ap Some (right (decimal (get_or r 0 0)) (field_text w.object (get_or r 1 0)) (field_text w.priority (get_or r 2 0)) (field_text w.number (word_at r 4)) (field_text w.parcel (word_at r 8))))
