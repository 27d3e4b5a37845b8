-- What the test of a table finds out, in the order in which it asks.
use Rattle.std.specs.Prelude.{if◌then◌else◌, Bool, true, false, not, ◌&&◌, ◌||◌, ◌≡◌, List, Option, Some, None, ℕ, ◌+◌, ◌*◌, ◌≤◌, ◌<◌, eqb, length, get_or}
use Rattle.rules.specs.Board.{record_length}
use Rattle.rules.specs.State.{State, at, sem_at, waiting, sending}
use Rattle.rules.specs.Lines.{line, ready_word}
use Rattle.rules.specs.Table.{word_at}
use Rattle.rules.specs.Test.{is_done, is_none_yet, free_ok, used_ok, thread_ok, sem_ok}
use Rattle.rules.specs.declared.Thread.{Thread}
use Rattle.rules.specs.declared.Wait.{Wait}
use Rattle.rules.specs.declared.Wait.TheVariants.{Nothing, Delay, Receive, Send, Semaphore}
use Rattle.rules.specs.declared.Outcome.{Outcome}
use Rattle.layout.specs.Bytes.{sems_from, word_from}
use Rattle.layout.specs.Boards.{HasThread}
use Rattle.layout.specs.Canon.{thread_canon, sem_canon}
use Rattle.layout.specs.Held.{board, Whole}
use Rattle.marks.specs.Numbers.{line_number}
use Rattle.places.specs.Rings.{Entries, ring_length}

-- an answer that says whether something holds, of a table that holds the state that it says
pub record Decides (r : Bool) (t : List ℕ) (P : Type 0) : Type 0 where
  pub passed : r ≡ true → P
  pub passes : Whole t → P → r ≡ true

-- what is found of a thread
abbrev pub is_good : Option ℕ → Bool
is_good None = false
is_good (Some bit) = true

abbrev pub bit_in : Option ℕ → ℕ
bit_in None = 0
bit_in (Some bit) = bit

-- A THREAD IN USE

-- the outcome of a wait, and the parcel
unfoldable pub outcome_ok : Wait → Outcome → ℕ → Bool
outcome_ok w o parcel = (not (waiting w) || is_none_yet o) && (sending w || is_done o || eqb parcel 0)

-- the wait object is one of the state's
abbrev pub InTable : State → Wait → Type 0
InTable s (Nothing n) = Unit {0}
InTable s (Delay n) = Unit {0}
InTable s (Receive n) = Unit {0}
InTable s (Send to n) = to < length s.threads
InTable s (Semaphore on n) = on < length s.sems

-- PLACES

-- of the threads before i the number of the line and the place are noted, and nothing of the rest
pub record Noted (noted : Entries) (ts : List Thread) (i : ℕ) : Type 0 where
  pub numbered : (k : ℕ) → k < i → get_or noted.lines k 0 ≡ line_number (line (at ts k))
  pub placed : (k : ℕ) → k < i → get_or noted.places k 0 ≡ (at ts k).place
  pub room : (length noted.lines ≡ ring_length) × (length noted.places ≡ ring_length)
  pub rest : (k : ℕ) → i ≤ k → (get_or noted.lines k 0 ≡ 0) × (get_or noted.places k 0 ≡ 0)

-- RECORDS

-- thread i, whoever else stands in its line
pub record Passes (t : List ℕ) (s : State) (i : ℕ) : Type 0 where
  pub canon : thread_canon t (i * record_length) ≡ true
  pub own : (if (at s.threads i).used then used_ok s i (at s.threads i) else free_ok (at s.threads i)) ≡ true

-- every thread, and the ready word
pub record Threads (t : List ℕ) (s : State) : Type 0 where
  pub canon : (i : ℕ) → HasThread t i → thread_canon t (i * record_length) ≡ true
  pub each : (i : ℕ) → HasThread t i → thread_ok s i ≡ true
  pub word : word_at t (word_from (board t)) ≡ ready_word s.threads

-- semaphore k
unfoldable pub sem_test : List ℕ → State → ℕ → Bool
sem_test t s k = sem_canon t (sems_from (board t) + k * record_length) && sem_ok (sem_at s.sems k)
