-- Soundness for a reader: "A table is sound exactly when:", a field for each thing that document 01 says.
-- `Test` has the same as a Bool that computes, and the two are proved equivalent.
use Rattle.std.specs.Prelude.{true, false, ◌≡◌, List, ℕ, ◌≤◌, length}
use Rattle.rules.specs.Board.{Board, table_length, top_priority, most_ticks, most_count, most_lock}
use Rattle.rules.specs.State.{State, free, free_sem, at, sem_at, caller, counter_of, waiting, delaying, receiving, sending, is_ready}
use Rattle.rules.specs.Lines.{Line, nowhere, line, in_line, line_length}
use Rattle.rules.specs.Table.{encode, decode}
use Rattle.rules.specs.declared.Thread.{Thread}
use Rattle.rules.specs.declared.Wait.TheVariants.{Send, Semaphore}
use Rattle.rules.specs.declared.Outcome.TheVariants.{Done, NoneYet}

-- "The n members of each line have places 1 to n, each once. A thread in no line has place 0."
pub record Lines (ts : List Thread) : Type 0 where
  pub low : (l : Line) (i : ℕ) → in_line l (at ts i) ≡ true → 1 ≤ (at ts i).place
  pub high : (l : Line) (i : ℕ) → in_line l (at ts i) ≡ true → (at ts i).place ≤ line_length l ts
  pub apart : (l : Line) (i j : ℕ) → in_line l (at ts i) ≡ true → in_line l (at ts j) ≡ true → (at ts i).place ≡ (at ts j).place → i ≡ j
  pub onto : (l : Line) (k : ℕ) → 1 ≤ k → k ≤ line_length l ts → (j : ℕ) × (in_line l (at ts j) ≡ true) × ((at ts j).place ≡ k)
  pub out : (i : ℕ) → line (at ts i) ≡ nowhere → (at ts i).place ≡ 0

-- what is said of a thread in use by its own record alone
pub record SoundThread (t : Thread) : Type 0 where
  -- "Every field is in range."
  pub priority : t.priority ≤ top_priority
  pub turn : (1 ≤ t.turn) × (t.turn ≤ most_ticks)
  -- "Counter: at place 1 of a ready line, 1 to the turn; at a later place, the turn itself;"
  pub first : is_ready t ≡ true → t.place ≡ 1 → (1 ≤ counter_of t.wait) × (counter_of t.wait ≤ t.turn)
  pub later : is_ready t ≡ true → 2 ≤ t.place → counter_of t.wait ≡ t.turn
  -- "in a delay, 1 to 99,999 left; in another wait, 0 to 99,999, where 0 is forever; else 0."
  pub delay : delaying t.wait ≡ true → 1 ≤ counter_of t.wait
  pub timed : waiting t.wait ≡ true → counter_of t.wait ≤ most_ticks
  pub idle : is_ready t ≡ false → waiting t.wait ≡ false → counter_of t.wait ≡ 0
  -- "A receiver's own mailbox is empty. An empty mailbox holds value 0."
  pub receiver : receiving t.wait ≡ true → t.full ≡ false
  pub empty : t.full ≡ false → t.value ≡ 0
  -- "A waiting thread has outcome 1. The parcel is 0 unless the thread is sending or its outcome is 0."
  pub outcome : waiting t.wait ≡ true → t.outcome ≡ NoneYet
  pub parcel : sending t.wait ≡ false → (t.outcome ≡ Done → ⊥) → t.parcel ≡ 0

pub record Sound (s : State) : Type 0 where
  -- "A free record is all zero."
  pub free_thread : (i : ℕ) → (at s.threads i).used ≡ false → at s.threads i ≡ free
  pub free_semaphore : (k : ℕ) → (sem_at s.sems k).used ≡ false → sem_at s.sems k ≡ free_sem
  pub threads : (i : ℕ) → (at s.threads i).used ≡ true → SoundThread (at s.threads i)
  pub counts : (k : ℕ) → (sem_at s.sems k).count ≤ most_count
  pub lock : s.lock ≤ most_lock
  -- "Thread 0 is in use, priority 0, not suspended, not waiting."
  pub init : (is_ready (at s.threads 0) ≡ true) × ((at s.threads 0).priority ≡ 0)
  pub lines : Lines s.threads
  -- "Wait object: for a send, another thread that is in use with a full mailbox; for a semaphore, one in use with count 0; else 0."
  pub sends : (i to n : ℕ) → (at s.threads i).wait ≡ Send to n → (i ≡ to → ⊥) × ((at s.threads to).used ≡ true) × ((at s.threads to).full ≡ true)
  pub pends : (i on n : ℕ) → (at s.threads i).wait ≡ Semaphore on n → ((sem_at s.sems on).used ≡ true) × ((sem_at s.sems on).count ≡ 0)
  -- "The running thread is ready. With lock count 0 it has place 1 in the highest non-empty ready line."
  pub runs : is_ready (caller s) ≡ true
  pub leads : s.lock ≡ 0 → (caller s).place ≡ 1
  pub highest : s.lock ≡ 0 → (i : ℕ) → is_ready (at s.threads i) ≡ true → (at s.threads i).priority ≤ (caller s).priority

pub record SoundTable (b : Board) (t : List ℕ) : Type 0 where
  -- "Its length is 600."
  pub long : length t ≡ table_length b
  -- "Bytes given no meaning are zero, every field is in range": the table says what its state says and nothing else. So flags are 0
  -- or 1, the wait kind is 0 to 4, the outcome is 1, 0 or −5, and the wait object is 0 where no object is waited for.
  pub meaning : t ≡ encode (decode b t)
  pub state : Sound (decode b t)
