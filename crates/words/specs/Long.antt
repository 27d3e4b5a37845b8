-- Eight bytes as a number.
use Rattle.std.specs.Prelude.{List, ℕ, ◌+◌, ◌*◌}
use Rattle.rules.specs.Table.{word_at}

-- the lowest first, from byte `at` on
abbrev pub long_at : List ℕ → ℕ → ℕ
long_at t at = word_at t at + 4294967296 * word_at t (at + 4)
