-- A line of a listing and its record. Order 2: "one request per text line, the operation's number, then the fields it uses in record order, in
-- decimal, single spaces, and out come 12-byte records."
use Rattle.std.specs.Prelude.{if◌then◌else◌, Bool, true, false, not, ◌&&◌, List, [], ◌∷◌, ◌++◌, ℕ, ◌+◌, ◌*◌, ◌-◌, eqb, leb, ltb, length, get_or, None, Option, Some}
use Rattle.rules.specs.declared.Request.{Request}
use Rattle.rules.specs.Table.{word_at}
use Rattle.rules.specs.Requests.{Operation, operation_of, decode_request}
use Rattle.request.specs.Written.{record_bytes}
use Rattle.text.specs.Text.{ascii, decimal}

-- FIELDS

-- the largest object and priority, of a byte; the largest number and data, of a word
abbrev pub most_byte : ℕ
most_byte = 255

abbrev pub most_word : ℕ
most_word = 4294967295

-- FROM A RECORD TO ITS LINE, which is here without its line feed

-- a field that is used: a space and the number
abbrev pub field_text : Bool → ℕ → List ℕ
field_text used field = if used then ascii " " ++ decimal field else []

unfoldable pub line_text : Operation → ℕ → ℕ → ℕ → ℕ → ℕ → List ℕ
line_text u operation o p n d =
    decimal operation ++ (field_text u.object o ++ (field_text u.priority p ++ (field_text u.number n ++ field_text u.parcel d)))

-- does −8 refuse it
abbrev pub refused : Option Request → Bool
refused (Some q) = false
refused None = true

-- what follows on a result, if there is one
infixr 1 ◌and_then◌
abbrev pub ◌and_then◌ : {A B : Type 0} → Option A → (A → Option B) → Option B
None and_then f = None
Some a and_then f = f a

-- the line of a record; none of one that −8 refuses
unfoldable pub line_of : List ℕ → Option (List ℕ)
line_of r =
    if refused (decode_request r) then None else
    (operation_of (get_or r 0 0) and_then λ u. Some (line_text u (get_or r 0 0) (get_or r 1 0) (get_or r 2 0) (word_at r 4) (word_at r 8)))

-- FROM A LINE TO ITS RECORD

abbrev pub is_digit : ℕ → Bool
is_digit c = leb 48 c && leb c 57

abbrev pub digit_first : List ℕ → Bool
digit_first [] = false
digit_first (c ∷ cs) = is_digit c

-- a number that a text begins with, and the text after it
pub record Front : Type 0 where
  pub number : ℕ
  pub rest : List ℕ

-- n, with the digits at the front of a text written behind it
unfoldable pub digits_from : ℕ → List ℕ → Front
digits_from n [] = record { number = n; rest = [] }
digits_from n (c ∷ cs) = if is_digit c then digits_from (n * 10 + (c - 48)) cs else record { number = n; rest = c ∷ cs }

-- at least one digit
unfoldable pub number_from : List ℕ → Option Front
number_from t = if digit_first t then Some (digits_from 0 t) else None

-- order 2: "a number too large for its field"
abbrev pub at_most : ℕ → Front → Option Front
at_most most f = if leb f.number most then Some f else None

-- a space, then a number
unfoldable pub spaced_from : ℕ → List ℕ → Option Front
spaced_from most [] = None
spaced_from most (c ∷ cs) = if eqb c 32 then number_from cs and_then at_most most else None

-- a field that is used; one that is not is 0, and no character speaks of it
unfoldable pub field_from : Bool → ℕ → List ℕ → Option Front
field_from true most t = spaced_from most t
field_from false most t = Some (record { number = 0; rest = t })

-- the end of the line
unfoldable pub ended : List ℕ → List ℕ → Option (List ℕ)
ended r [] = Some r
ended r (c ∷ cs) = None

-- order 2: "A line of over 40 characters before it"
abbrev pub line_most : ℕ
line_most = 40

-- the fields that operation u uses, and the end of the line
unfoldable pub fields_from : Operation → Front → Option (List ℕ)
fields_from u a =
    field_from u.object most_byte a.rest and_then λ o.
    field_from u.priority most_byte o.rest and_then λ p.
    field_from u.number most_word p.rest and_then λ n.
    field_from u.parcel most_word n.rest and_then λ d.
    ended (record_bytes a.number o.number p.number n.number d.number) d.rest

-- the record of a line; none of a bad line
unfoldable pub record_of : List ℕ → Option (List ℕ)
record_of line =
    if ltb line_most (length line) then None else
    (number_from line and_then λ a. operation_of a.number and_then λ u. fields_from u a)

-- order 2: "if its numbers had no leading zeros". No 0 at a number's start has a digit after it. `start` says that no digit stands before
unfoldable pub plain_from : Bool → List ℕ → Bool
plain_from start [] = true
plain_from start (c ∷ cs) = not (start && eqb c 48 && digit_first cs) && plain_from (not (is_digit c)) cs

abbrev pub plain : List ℕ → Bool
plain t = plain_from true t
