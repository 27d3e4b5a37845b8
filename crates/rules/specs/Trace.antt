-- The trace: what the trace program prints of its input, line by line.
use Rattle.std.specs.Prelude.{if◌then◌else◌, List, [], ◌∷◌, ◌++◌, ℕ, suc, ◌/◌, ◌%◌, eqb, ℤ, length, replicate}
use Rattle.rules.specs.Basic.{pieces}
use Rattle.rules.specs.Board.{Board}
use Rattle.rules.specs.Table.{word_at, decode}
use Rattle.rules.specs.Answers.{area_length}
use Rattle.rules.specs.Requests.{request_length}
use Rattle.rules.specs.Door.{Doored, Handed, door, fresh_table}

-- "Per record: record number from 0, code, value, running thread after it."
-- "Left-over bytes (1 to 11) give a last line `short N`."
pub data TraceLine : Type 0 where
  served : ℕ → ℤ → ℕ → ℕ → TraceLine
  short : ℕ → TraceLine

-- the first n records of the input
unfoldable pub records : ℕ → List ℕ → List (List ℕ)
records n input = pieces request_length n input

-- an area of 8 bytes to write the answer into
abbrev pub clean_area : List ℕ
clean_area = replicate area_length 0

-- a record, handed with such an area
abbrev pub cleanly : List ℕ → Handed
cleanly r = record { request = r; area = clean_area }

-- what is printed of a record
abbrev pub trace_line : Board → ℕ → Doored → TraceLine
trace_line b n d = served n d.code (word_at d.area 4) (decode b d.table).running

unfoldable pub trace_from : Board → ℕ → List ℕ → List (List ℕ) → List TraceLine
trace_from b n t [] = []
trace_from b n t (r ∷ rs) = let d = door b t r clean_area in trace_line b n d ∷ trace_from b (suc n) d.table rs

abbrev pub short_line : ℕ → List TraceLine
short_line n = if eqb n 0 then [] else short n ∷ []

-- the whole records of an input
abbrev pub whole_records : List ℕ → List (List ℕ)
whole_records input = records (length input / request_length) input

-- the trace of an input whose first record has number n and finds table t
abbrev pub trace_on : Board → ℕ → List ℕ → List ℕ → List TraceLine
trace_on b n t input = trace_from b n t (whole_records input) ++ short_line (length input % request_length)

-- "It reads request records from standard input, starts fresh."
unfoldable pub trace : Board → List ℕ → List TraceLine
trace b input = trace_on b 0 (fresh_table b) input
