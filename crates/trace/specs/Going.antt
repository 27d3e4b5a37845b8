-- What all turns of the program come to. No contract says which bytes a read gives, so `seen` is some bytes, as many as the reads say; all
-- that follows from them is said. The run is promised for every table that it may begin with, so that one which takes a fresh table between
-- two reads does not meet it, nor one which drops what came, forgets what is left over, or numbers a record by itself.
use Rattle.std.specs.Prelude.{◌≡◌, List, ℕ, length}
use Rattle.rules.specs.Board.{printer}
use Rattle.text.specs.Text.{trace_text}
use Rattle.replay.specs.Parts.{Stand, begins, after, last}

-- where the trace stands: the bytes that are held are those of the block
abbrev pub standing : ℕ → List ℕ → List ℕ → Stand
standing number table block = record { number = number; table = table; held = block }

-- all that has come since the trace began with table t, so many bytes, has left it at s
pub record Traced (t : List ℕ) (bytes : ℕ) (s : Stand) : Type 0 where
  pub seen : List ℕ
  pub size : length seen ≡ bytes
  pub stands : s ≡ after printer (begins t) seen

-- the run with table t ends: so many bytes have come, `number` records are served, the table is t', and `out` is what is printed of the end of
-- these bytes
pub record Ended (t : List ℕ) (bytes number : ℕ) (t' out : List ℕ) : Type 0 where
  pub held : List ℕ
  pub traced : Traced t bytes (standing number t' held)
  pub prints : out ≡ trace_text (last (standing number t' held))
