-- What the code promises of a block: how far its whole pieces are turned.
use Rattle.std.specs.Prelude.{Bool, List, [], ◌++◌, ◌≡◌, ℕ, ◌+◌, ◌*◌, ◌≤◌, length, take, Result, Ok, Err}
use Rattle.listing.specs.Listing.{cut, input_of, bytes_of}
use Rattle.listing.specs.Parts.{part_of, is_bad}
use Rattle.listing.specs.declared.Way.{Way}
use Rattle.text.specs.Puts.{Puts}
use Rattle.writer.specs.Lines.{listed_room}

-- the place after the last piece of which something came out
unfoldable pub place_after : Way → List ℕ → ℕ
place_after w come = length (input_of w (take (length (part_of w come).done) (cut w come).pieces))

-- the room for what comes out of so many bytes: a record of 12 for a line of a character and its line feed, 48 characters for a record
abbrev pub part_room : ℕ → ℕ
part_room n = 6 * n + listed_room

-- the longest refusal: `bad record `, a number of 64 bits and the line feed
abbrev pub refusal_room : ℕ
refusal_room = 11 + 20 + 1

-- how far something came, well or not
abbrev pub reached : {A : Type 0} → Result A A → A
reached (Ok x) = x
reached (Err x) = x

-- the whole pieces of a block are turned: how many are done, the place after them, and whether the next one is bad; what comes out of them is put
-- behind what stood there
pub record Block (w : Way) (come out out' : List ℕ) (done at : ℕ) (bad : Bool) : Type 0 where
  pub count : done ≡ length (part_of w come).done
  pub place : at ≡ place_after w come
  pub puts : out' ≡ out ++ bytes_of w (part_of w come).done
  pub stop : bad ≡ is_bad (part_of w come).bad
  pub inside : (at ≤ length come) × (done ≤ length come)
  pub room : length out' ≤ length out + 6 * length come

-- the same of lent bytes: the text that comes out is put at their front, and `next` is the place after it
pub record LentBlock (w : Way) (come out out' : List ℕ) (done at next : ℕ) (bad : Bool) : Type 0 where
  pub text : List ℕ
  pub block : Block w come [] text done at bad
  pub puts : Puts out 0 text out' next
