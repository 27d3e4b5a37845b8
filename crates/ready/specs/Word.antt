-- Which bit of the ready word is a thread's, and what becomes of the word when a thread goes from one line to another.
use Rattle.std.specs.Prelude.{if◌then◌else◌, ◌&&◌, ◌≡◌, List, ℕ, ◌-◌, ◌^◌, ◌≤◌, eqb, leb}
use Rattle.std.specs.Int.Bits.{bit_or}
use Rattle.rules.specs.Board.{top_priority}
use Rattle.rules.specs.State.{at, is_ready}
use Rattle.rules.specs.Lines.{tail_place, ready_word}
use Rattle.rules.specs.Table.{word_at}
use Rattle.rules.specs.declared.Thread.{Thread}
use Rattle.layout.specs.Bytes.{word_from}
use Rattle.layout.specs.Held.{board, said}

-- the bit of the ready line that a thread stands in; 0 where it stands in none
abbrev pub ready_bit : Thread → ℕ
ready_bit t = if is_ready t && leb t.priority top_priority then 2 ^ t.priority else 0

-- the bit that goes with thread i: that of its ready line, if nobody else stands there
abbrev pub last_bit : ℕ → List Thread → ℕ
last_bit i ts = if eqb (tail_place i ts) 1 then ready_bit (at ts i) else 0

-- the table's word is right once the bit that goes is taken out and thread i's own is in
pub record Mends (t : List ℕ) (i left : ℕ) : Type 0 where
  pub enough : left ≤ word_at t (word_from (board t))
  pub right : bit_or (word_at t (word_from (board t)) - left) (ready_bit (at (said t).threads i)) ≡ ready_word (said t).threads
