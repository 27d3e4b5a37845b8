-- A whole listing and its records. Order 2: "Every line ends in a line feed." A bad line "stops the writer there with the earlier records out.
-- Refusals: bad line, with its number from 0." Records go to a listing in the same way.
use mathlib.Core.List.{List, [], ◌∷◌, ◌++◌, flatten}
use Rattle.std.specs.Prelude.{if◌then◌else◌, ℕ, suc, eqb, Option, None, Some}
use Rattle.rules.specs.Trace.{whole_records}
use Rattle.text.specs.Text.{ascii, decimal}
use Rattle.parts.specs.LeftOver.{left_over}
use Rattle.listing.specs.Line.{line_of, record_of}
use Rattle.listing.specs.declared.Way.{Way}
use Rattle.listing.specs.declared.Way.TheVariants.{ToRecords, ToListing}

abbrev pub line_feed : ℕ
line_feed = 10

-- TEXTS

unfoldable pub text_of : List (List ℕ) → List ℕ
text_of [] = []
text_of (l ∷ ls) = l ++ line_feed ∷ text_of ls

-- an input cut into its pieces, and what is left over behind the last of them
pub record Cut : Type 0 where
  pub pieces : List (List ℕ)
  pub rest : List ℕ

abbrev pub lengthened : ℕ → List (List ℕ) → List ℕ → Cut
lengthened c [] t = record { pieces = []; rest = c ∷ t }
lengthened c (l ∷ ls) t = record { pieces = (c ∷ l) ∷ ls; rest = t }

-- a text's lines, each without its line feed
unfoldable pub lines_of : List ℕ → Cut
lines_of [] = record { pieces = []; rest = [] }
lines_of (c ∷ cs) =
    let more = lines_of cs in
    if eqb c line_feed then record { pieces = [] ∷ more.pieces; rest = more.rest } else lengthened c more.pieces more.rest

-- THE TWO WAYS

-- the pieces of an input: lines, or records of 12 bytes
abbrev pub cut : Way → List ℕ → Cut
cut ToRecords text = lines_of text
cut ToListing input = record { pieces = whole_records input; rest = left_over input }

-- the bytes of some pieces
abbrev pub input_of : Way → List (List ℕ) → List ℕ
input_of ToRecords ls = text_of ls
input_of ToListing rs = flatten rs

-- what comes out of one; none of a bad one
abbrev pub rule : Way → List ℕ → Option (List ℕ)
rule ToRecords line = record_of line
rule ToListing r = line_of r

-- the bytes of what comes out of some
abbrev pub bytes_of : Way → List (List ℕ) → List ℕ
bytes_of ToRecords rs = flatten rs
bytes_of ToListing ls = text_of ls

-- WHOLE TEXTS

-- what comes out, and the number of the piece that stopped it
pub record Out : Type 0 where
  pub done : List (List ℕ)
  pub bad : Option ℕ

abbrev pub joined : Option (List ℕ) → ℕ → Out → Out
joined None k out = record { done = []; bad = Some k }
joined (Some x) k out = record { done = x ∷ out.done; bad = out.bad }

-- each by a rule, from number k on, up to the first that the rule refuses; what is left over is refused as well
unfoldable pub each : (List ℕ → Option (List ℕ)) → ℕ → List (List ℕ) → List ℕ → Out
each rule k [] [] = record { done = []; bad = None }
each rule k [] (c ∷ cs) = record { done = []; bad = Some k }
each rule k (x ∷ xs) rest = joined (rule x) k (each rule (suc k) xs rest)

-- what comes out of an input whose first piece has number k
unfoldable pub turned_from : Way → ℕ → List ℕ → Out
turned_from w k input = each (rule w) k (cut w input).pieces (cut w input).rest

abbrev pub turned : Way → List ℕ → Out
turned w input = turned_from w 0 input

-- from a listing to records, and from records to lines
abbrev pub write : List ℕ → Out
write text = turned ToRecords text

abbrev pub list : List ℕ → Out
list input = turned ToListing input

-- REFUSALS

abbrev pub bad_what : Way → List ℕ
bad_what ToRecords = ascii "bad line "
bad_what ToListing = ascii "bad record "

-- order 2: "bad line, with its number from 0", where there is one
abbrev pub refusal_text : Way → Option ℕ → List ℕ
refusal_text w None = []
refusal_text w (Some k) = bad_what w ++ (decimal k ++ ascii "\n")
