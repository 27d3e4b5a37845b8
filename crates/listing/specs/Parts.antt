-- An input that comes in parts, as a program reads it: where it stands between two of them, and what comes out of each. However the input is
-- cut into parts, what comes out of them one after the other is what comes out of the whole.
use Rattle.std.specs.Prelude.{if◌then◌else◌, Bool, true, false, ◌||◌, ◌≡◌, ℕ, ◌+◌, ltb, length, Option, None, Some}
use mathlib.Core.List.{List, [], ◌∷◌, ◌++◌, flatten}
use Rattle.listing.specs.Line.{line_most}
use Rattle.listing.specs.Listing.{Out, cut, rule, each, turned}
use Rattle.listing.specs.declared.Way.{Way}
use Rattle.listing.specs.declared.Way.TheVariants.{ToRecords, ToListing}

-- A PART

-- what comes out of its whole pieces, up to the first that is bad
unfoldable pub part_of : Way → List ℕ → Out
part_of w come = each (rule w) 0 (cut w come).pieces []

abbrev pub is_bad : Option ℕ → Bool
is_bad None = false
is_bad (Some k) = true

-- order 2: "A line of over 40 characters". One that has so many and has not ended yet is bad already
abbrev pub too_long : Way → ℕ → Bool
too_long ToRecords n = ltb line_most n
too_long ToListing n = false

-- is this the last part that is looked at
unfoldable pub stops : Way → List ℕ → Bool
stops w come = is_bad (part_of w come).bad || too_long w (length (cut w come).rest)

-- what is held of it: what goes before the next part, and all where it is the last
unfoldable pub holds : Way → List ℕ → List ℕ
holds w come = if stops w come then come else (cut w come).rest

-- PART AFTER PART

-- the number of the next piece, the bytes that have come and are no whole piece yet, and whether a bad one has stopped it
pub record Stand : Type 0 where
  pub number : ℕ
  pub held : List ℕ
  pub stopped : Bool

abbrev pub begins : Stand
begins = record { number = 0; held = []; stopped = false }

abbrev pub after : Way → Stand → List ℕ → Stand
after w s part =
    let come = s.held ++ part in
    if s.stopped then s else record { number = s.number + length (part_of w come).done; held = holds w come; stopped = stops w come }

abbrev pub out_of : Way → Stand → List ℕ → List (List ℕ)
out_of w s part = if s.stopped then [] else (part_of w (s.held ++ part)).done

abbrev pub is_some : List ℕ → Bool
is_some [] = false
is_some (c ∷ cs) = true

-- no more comes: what is held then is bad
abbrev pub last : Stand → Option ℕ
last s = if s.stopped || is_some s.held then Some s.number else None

unfoldable pub out_of_all : Way → Stand → List (List ℕ) → Out
out_of_all w s [] = record { done = []; bad = last s }
out_of_all w s (part ∷ parts) = let more = out_of_all w (after w s part) parts in record { done = out_of w s part ++ more.done; bad = more.bad }

-- for every way of cutting the input
abbrev pub InParts : Type 0
InParts = (w : Way) (parts : List (List ℕ)) → out_of_all w begins parts ≡ turned w (flatten parts)
