-- The line of a record, from what the door answered. Assumes nothing.
use mathlib.Core.Path.{◌≡◌, refl}
use mathlib.Core.List.{List}
use Prim.Native.Nat.{ℕ}
use lib.IntN.{ℤ}
use Rattle.rules.specs.Board.{Board}
use Rattle.rules.specs.Table.{word_at, decode}
use Rattle.rules.specs.Door.{Doored}
use Rattle.rules.specs.Trace.{served, trace_line}
use Rattle.text.specs.Text.{line_text}

-- a line with the door's code, the area's value and the table's running thread is the trace's
pub line_same : (b : Board) (n : ℕ) (d : Doored) (code : ℤ) (value running : ℕ) (area table : List ℕ)
    → code ≡ d.code → area ≡ d.area → value ≡ word_at area 4 → table ≡ d.table → running ≡ (decode b table).running
    → line_text (served n code value running) ≡ line_text (trace_line b n d)
line_same b n d code value running area table ec ea ev et er = rw (ec, er, et, ev, ea) refl
