-- What holds of listing and writing, there and back.
use Rattle.std.specs.Prelude.{true, ◌≡◌, ℕ, length, take, Some, None}
use mathlib.Core.List.{List, flatten}
use Rattle.rules.specs.Requests.{decode_request}
use Rattle.rules.specs.Trace.{whole_records}
use Rattle.rules.specs.declared.Request.{Request}
use Rattle.request.specs.Trips.{Bytes}
use Rattle.listing.specs.Line.{◌and_then◌, line_of, record_of, plain}
use Rattle.listing.specs.Listing.{text_of, write, list}

-- order 2: "Listing a record that −8 doesn't refuse, then writing it again, gives the same bytes"
abbrev pub Listed : Type 0
Listed = (r : List ℕ) → Bytes r → (q : Request) → decode_request r ≡ Some q → (line_of r and_then record_of) ≡ Some r

-- order 2: "an accepted line written and listed again gives the same line, if its numbers had no leading zeros"
abbrev pub Written : Type 0
Written = (l r : List ℕ) → record_of l ≡ Some r → plain l ≡ true → line_of r ≡ Some l

-- what −8 refuses is no line's record
abbrev pub Asks : Type 0
Asks = (l r : List ℕ) → record_of l ≡ Some r → (q : Request) × (decode_request r ≡ Some q)

-- the lines that the lister puts out, up to a record that stops it, are a listing that the writer takes whole
abbrev pub Whole : Type 0
Whole = (input : List ℕ) → Bytes input →
    let out = list input in write (text_of out.done) ≡ record { done = take (length out.done) (whole_records input); bad = None }

-- records of which none is bad are listed, and the listing written again is the same bytes
abbrev pub Same : Type 0
Same = (input : List ℕ) → Bytes input → (list input).bad ≡ None →
    let back = write (text_of (list input).done) in (back.bad ≡ None) × (flatten back.done ≡ input)

-- a whole text that is taken is listed again
abbrev pub WholeBack : Type 0
WholeBack = (text : List ℕ) → (write text).bad ≡ None → plain text ≡ true → text_of (list (flatten (write text).done)).done ≡ text
