-- A record of which every byte is 0, as a free record is.
use Rattle.std.specs.Prelude.{Bool, List, ℕ, ◌+◌, eqb, get_or}
use Rattle.rules.specs.Basic.{all_below}
use Rattle.rules.specs.Board.{record_length}

-- the record that starts at byte `base`
unfoldable pub record_zero : List ℕ → ℕ → Bool
record_zero t base = all_below record_length (λ k. eqb (get_or t (base + k) 0) 0)
