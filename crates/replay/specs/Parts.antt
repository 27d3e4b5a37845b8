-- An input that comes in parts, as a program reads it: where its trace stands between two of them, and what is printed of each. However the
-- input is cut, what is printed of the parts, one after the other, is what is printed of the whole.
use Rattle.std.specs.Prelude.{◌≡◌, ℕ, ◌+◌, ◌/◌, length}
use mathlib.Core.List.{List, [], ◌∷◌, ◌++◌, map, flatten}
use Rattle.rules.specs.Board.{Board}
use Rattle.rules.specs.Requests.{request_length}
use Rattle.rules.specs.Door.{fresh_table, table_after}
use Rattle.rules.specs.Trace.{TraceLine, cleanly, whole_records, trace_from, short_line, trace}
use Rattle.text.specs.Text.{trace_text}
use Rattle.parts.specs.LeftOver.{left_over}

-- the number of the next record, the table that it finds, and the bytes that have come and are no whole record yet
pub record Stand : Type 0 where
  pub number : ℕ
  pub table : List ℕ
  pub held : List ℕ

-- at the first record, with any table
abbrev pub begins : List ℕ → Stand
begins t = record { number = 0; table = t; held = [] }

-- a part comes: what is printed of it, and where the trace then stands
abbrev pub lines : Board → Stand → List ℕ → List TraceLine
lines b s part = trace_from b s.number s.table (whole_records (s.held ++ part))

unfoldable pub after : Board → Stand → List ℕ → Stand
after b s part =
    let come = s.held ++ part in
    record {
      number = s.number + length come / request_length;
      table = table_after b s.table (map cleanly (whole_records come));
      held = left_over come;
    }

-- no more comes
abbrev pub last : Stand → List TraceLine
last s = short_line (length s.held)

-- what is printed of all parts, and of their end
unfoldable pub printed : Board → Stand → List (List ℕ) → List ℕ
printed b s [] = trace_text (last s)
printed b s (part ∷ parts) = trace_text (lines b s part) ++ printed b (after b s part) parts

-- THE WHOLE TRACE: for every way of cutting the input
abbrev pub InParts : Type 0
InParts = (b : Board) (parts : List (List ℕ)) → printed b (begins (fresh_table b)) parts ≡ trace_text (trace b (flatten parts))

-- two parts that come one after the other leave the trace where the two as one leave it
abbrev pub AsOne : Type 0
AsOne = (b : Board) (s : Stand) (p q : List ℕ) → after b (after b s p) q ≡ after b s (p ++ q)
