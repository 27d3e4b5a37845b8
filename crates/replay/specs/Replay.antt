-- What a replay of whole records makes of a table, and what it prints: the rules' trace, as text.
use Rattle.std.specs.Prelude.{◌≡◌, List, ◌++◌, map, ℕ, ◌+◌, ◌*◌, ◌/◌, ◌≤◌, length}
use Rattle.rules.specs.Board.{printer}
use Rattle.rules.specs.Requests.{request_length}
use Rattle.rules.specs.Door.{table_after}
use Rattle.rules.specs.Trace.{cleanly, whole_records, trace_from}
use Rattle.text.specs.Text.{trace_text}
use Rattle.text.specs.Puts.{Puts}
use Rattle.text.specs.Rooms.{line_room}

-- the table is the one after the records, and behind what the buffer had stand their lines, numbered from n on
pub record Replayed (t input : List ℕ) (n : ℕ) (out t' out' : List ℕ) : Type 0 where
  pub table : t' ≡ table_after printer t (map cleanly (whole_records input))
  pub lines : out' ≡ out ++ trace_text (trace_from printer n t (whole_records input))
  -- the room that they take
  pub room : length out' ≤ length out + length input / request_length * line_room

-- the same where bytes are lent: the lent bytes begin with the lines, and `next` is the place after them
pub record ReplayedAt (t input : List ℕ) (n : ℕ) (out t' out' : List ℕ) (next : ℕ) : Type 0 where
  pub table : t' ≡ table_after printer t (map cleanly (whole_records input))
  pub lines : Puts out 0 (trace_text (trace_from printer n t (whole_records input))) out' next
  -- there was room for them
  pub room : next ≤ length input / request_length * line_room
