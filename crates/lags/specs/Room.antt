-- What the report is made of, and how long it can be.
use Rattle.std.specs.Prelude.{◌≡◌, List, ℕ, ◌+◌, ◌*◌, length}
use Rattle.rules.specs.Board.{printer, table_length}
use Rattle.rules.specs.Sound.{Sound}
use Rattle.rules.specs.Table.{decode}

-- a table of the right length that says a sound state
abbrev pub SaysSound : List ℕ → Type 0
SaysSound t = (length t ≡ table_length printer) × Sound (decode printer t)

-- the longest line: a number of 2 digits, charges of 11 digits, a lag of 18 digits with its sign, each with the byte after it
abbrev pub lane_room : ℕ
lane_room = 2 + 1 + 11 + 1 + 19 + 1

-- `stopped` with its line feed, and a line for each thread
abbrev pub report_room : ℕ
report_room = 8 + printer.threads * lane_room
