-- THE READY WORD, for a reader. Order 6: "Keep a 32-bit word in kernel bytes 2 to 5, bit p set exactly when ready line p has a member, and find
-- the top line by the count of leading zeros of that word. Every operation keeps it true and a table where it is wrong is unsound. A fresh table now
-- holds 1 there. Refusals: −7 also for tables saved earlier."
-- The word is no part of the state: `encode` works it out, and `decode` does not read it. So the three demands read as they did.
use Rattle.std.specs.Prelude.{true, ◌≡◌, ◌↔◌, List, ℕ, ◌+◌, ◌*◌, ◌/◌, ◌%◌, ◌^◌, ◌≤◌, ◌<◌, negsuc}
use Rattle.std.specs.Int.Count.{count_leading_zeros}
use Rattle.rules.specs.Board.{Board, printer, record_length, top_priority}
use Rattle.rules.specs.State.{State, at, caller, is_ready}
use Rattle.rules.specs.Table.{word_at, decode}
use Rattle.rules.specs.Sound.{SoundTable}
use Rattle.rules.specs.Door.{door, fresh_table, Handed, table_after}

-- the bytes, lowest first, as a number
abbrev pub ready_word_in : Board → List ℕ → ℕ
ready_word_in b t = word_at t ((b.threads + b.sems) * record_length + 2)

abbrev pub bit_of : ℕ → ℕ → ℕ
bit_of word p = word / 2 ^ p % 2

-- some thread is ready, with that priority
abbrev pub Ready : State → ℕ → Type 0
Ready s p = (i : ℕ) × (is_ready (at s.threads i) ≡ true) × ((at s.threads i).priority ≡ p)

-- what the word of table t says
pub record WordSays (b : Board) (t : List ℕ) : Type 0 where
  -- "bit p set exactly when ready line p has a member"
  pub bits : (p : ℕ) → p ≤ top_priority → (bit_of (ready_word_in b t) p ≡ 1) ↔ Ready (decode b t) p
  -- "a 32-bit word": there is no other bit
  pub wide : ready_word_in b t < 2 ^ 32
  -- "find the top line by the count of leading zeros of that word": it is 31 less these, and with lock 0 the running thread's
  pub top : (decode b t).lock ≡ 0 → (caller (decode b t)).priority + count_leading_zeros 32 (ready_word_in b t) ≡ top_priority
  -- Init is always ready, so the word is never 0
  pub some : 1 ≤ ready_word_in b t

pub record ReadyWord : Type 0 where
  -- a sound table's word says so,
  pub sound : (b : Board) (t : List ℕ) → SoundTable b t → WordSays b t
  -- and it is the only one: two sound tables that say one state are the same bytes. "A table where it is wrong is unsound."
  pub one : (b : Board) (t t' : List ℕ) → SoundTable b t → SoundTable b t' → decode b t ≡ decode b t' → t ≡ t'
  -- "Every operation keeps it true": after a run of any length too
  pub kept : (b : Board) (t : List ℕ) (hs : List Handed) → SoundTable b t → WordSays b (table_after b t hs)
  -- "A fresh table now holds 1 there."
  pub fresh : ready_word_in printer (fresh_table printer) ≡ 1
  -- "−7 also for tables saved earlier", in which these bytes are zero, whatever is asked; and nothing is written
  pub earlier : (b : Board) (t r a : List ℕ) → ready_word_in b t ≡ 0 → door b t r a ≡ record { code = negsuc 6; table = t; area = a }
