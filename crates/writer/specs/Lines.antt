-- What the code answers of a line and of a record: the fields of the record, and what is read of a line on the way to them.
use Rattle.std.specs.Prelude.{if◌then◌else◌, Bool, true, false, List, [], ◌∷◌, ◌++◌, ℕ, suc, ◌+◌, min, eqb, ◌≡◌, Option, None, Some, MatchOption, Result, Ok, Err}
use denote.Ref.{Bor}
use Rattle.rules.specs.Requests.{Operation, operation_of}
use Rattle.request.specs.Written.{record_bytes}
use Rattle.listing.specs.Line.{Front as Text, ◌and_then◌, most_word, field_text, fields_from, number_from}
use Rattle.listing.specs.Listing.{line_feed}
use Rattle.text.specs.Text.{decimal}
use Rattle.request.specs.declared.Fields.{Fields}
use Rattle.writer.specs.declared.reading.Front.{Front}
use Rattle.writer.specs.declared.asks.Uses.{Uses}

-- the fields that an operation uses
abbrev pub uses_of : Option Operation → Option Uses
uses_of None = None
uses_of (Some u) = Some (record { object = u.object; priority = u.priority; number = u.number; parcel = u.parcel })

-- FROM A LINE

-- a number that no field can hold is told as 2^32, whatever it is
abbrev pub too_large : ℕ
too_large = suc most_word

abbrev pub told : Option Text → Option Text
told None = None
told (Some f) = Some (record { number = min f.number too_large; rest = f.rest })

-- what an answer says
abbrev pub front_of : Option Front → Option Text
front_of None = None
front_of (Some f) = Some (record { number = f.number; rest = f.rest.now })

-- a field of any number, however large
unfoldable pub any_field : Bool → List ℕ → Option Text
any_field false t = Some (record { number = 0; rest = t })
any_field true [] = None
any_field true (c ∷ cs) = if eqb c 32 then number_from cs else None

-- what is answered of a field: its number, as its type converts it, and the text after it; none where it is not read or not converted
abbrev pub FieldRead : {T E : Type 0} → (ℕ → Result T E → Type 0) → Option Text → Option (T × Bor (List ℕ)) → Type 0
FieldRead gives None r = r ≡ None
FieldRead {T} {E} gives (Some f) r = MatchOption r ((e : E) × gives f.number (Err e)) (λ p. gives f.number (Ok p.0) × (p.1.now ≡ f.rest))

-- the record of an operation's number and the rest of its line
unfoldable pub rest_of : ℕ → List ℕ → Option (List ℕ)
rest_of operation t = operation_of operation and_then λ u. fields_from u (record { number = operation; rest = t })

-- the record of a line's fields
abbrev pub bytes_read : Option Fields → Option (List ℕ)
bytes_read None = None
bytes_read (Some f) = Some (record_bytes f.operation f.object f.priority f.number f.parcel)

-- FROM A RECORD

-- a line with its line feed, if there is one
abbrev pub fed : Option (List ℕ) → List ℕ
fed None = []
fed (Some l) = l ++ line_feed ∷ []

-- the line of a record's fields, without its line feed, by what its operation uses
abbrev pub fields_text : Uses → Fields → List ℕ
fields_text u f = decimal f.operation ++ field_text u.object f.object ++ field_text u.priority f.priority ++ field_text u.number f.number ++ field_text u.parcel f.parcel

-- the room for any line: an operation of a byte, four fields of a word, the line feed
abbrev pub listed_room : ℕ
listed_room = 3 + 11 + 11 + 11 + 11 + 1
