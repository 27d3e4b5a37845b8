-- How long the longest lines are.
use Rattle.std.specs.Prelude.{ℕ, ◌+◌}

-- the longest line of a record: a number of 64 bits, a code and a value of 32, a thread of 8, each with the byte after it
abbrev pub line_room : ℕ
line_room = 20 + 1 + 11 + 1 + 10 + 1 + 3 + 1

-- the longest line of left-over bytes: `short `, a number of 64 bits and the line feed
abbrev pub short_room : ℕ
short_room = 6 + 20 + 1
