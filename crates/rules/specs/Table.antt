-- The table: "25 records of 24 bytes, no header. Records 0 to 15 are threads, 16 to 23 semaphores, 24 the kernel.
-- Wide fields are little-endian."
use Rattle.std.specs.Prelude.{if◌then◌else◌, Bool, List, [], ◌∷◌, ◌++◌, map, ℕ, ◌+◌, ◌*◌, ◌/◌, ◌%◌, eqb, get_or, drop, replicate}
use Rattle.rules.specs.Basic.{bit, pieces}
use Rattle.rules.specs.Board.{Board, record_length}
use Rattle.rules.specs.State.{State, counter_of}
use Rattle.rules.specs.Lines.{ready_word}
use Rattle.rules.specs.declared.Thread.{Thread}
use Rattle.rules.specs.declared.Sem.{Sem}
use Rattle.rules.specs.declared.Wait.{Wait}
use Rattle.rules.specs.declared.Wait.TheVariants.{Nothing, Delay, Receive, Send, Semaphore}
use Rattle.rules.specs.declared.Outcome.{Outcome}
use Rattle.rules.specs.declared.Outcome.TheVariants.{Done, NoneYet, Failed}

-- FIELDS

-- four bytes, the lowest first: of a number that four bytes hold
abbrev pub word_bytes : ℕ → List ℕ
word_bytes x = x % 256 ∷ x / 256 % 256 ∷ x / 65536 % 256 ∷ x / 16777216 ∷ []

abbrev pub word_at : List ℕ → ℕ → ℕ
word_at bs k = get_or bs k 0 + 256 * get_or bs (k + 1) 0 + 65536 * get_or bs (k + 2) 0 + 16777216 * get_or bs (k + 3) 0

-- "3 wait kind (0 none, 1 delay, 2 receive, 3 send, 4 semaphore)"
abbrev pub kind_of : Wait → ℕ
kind_of (Nothing n) = 0
kind_of (Delay n) = 1
kind_of (Receive n) = 2
kind_of (Send to n) = 3
kind_of (Semaphore on n) = 4

-- "4 wait object"
abbrev pub object_of : Wait → ℕ
object_of (Nothing n) = 0
object_of (Delay n) = 0
object_of (Receive n) = 0
object_of (Send to n) = to
object_of (Semaphore on n) = on

unfoldable pub wait_of : ℕ → ℕ → ℕ → Wait
wait_of kind object counter =
    if eqb kind 0 then Nothing counter else
    if eqb kind 1 then Delay counter else
    if eqb kind 2 then Receive counter else
    if eqb kind 3 then Send object counter else
    Semaphore object counter

-- "7 outcome, a signed byte (1 none yet, 0 done, −5 failed)"
abbrev pub outcome_byte : Outcome → ℕ
outcome_byte Done = 0
outcome_byte NoneYet = 1
outcome_byte Failed = 251

unfoldable pub outcome_of : ℕ → Outcome
outcome_of byte =
    if eqb byte 0 then Done else
    if eqb byte 1 then NoneYet else
    Failed

abbrev pub is_one : ℕ → Bool
is_one byte = eqb byte 1

-- RECORDS

-- "Thread: byte 0 in use (0/1); 1 priority; 2 suspended (0/1); 3 wait kind; 4 wait object; 5 place in line; 6 mailbox full (0/1);
-- 7 outcome; 8-11 turn; 12-15 counter; 16-19 mailbox value; 20-23 parcel."
unfoldable pub thread_row : Thread → List ℕ
thread_row t =
    bit t.used ∷ t.priority ∷ bit t.suspended ∷ kind_of t.wait ∷ object_of t.wait ∷ t.place ∷ bit t.full ∷ outcome_byte t.outcome
    ∷ (word_bytes t.turn ++ (word_bytes (counter_of t.wait) ++ (word_bytes t.value ++ word_bytes t.parcel)))

unfoldable pub thread_of : List ℕ → Thread
thread_of row = record {
  used = is_one (get_or row 0 0);
  priority = get_or row 1 0;
  suspended = is_one (get_or row 2 0);
  wait = wait_of (get_or row 3 0) (get_or row 4 0) (word_at row 12);
  place = get_or row 5 0;
  full = is_one (get_or row 6 0);
  outcome = outcome_of (get_or row 7 0);
  turn = word_at row 8;
  value = word_at row 16;
  parcel = word_at row 20;
}

-- "Semaphore: byte 0 in use, 1 count."
unfoldable pub sem_row : Sem → List ℕ
sem_row e = bit e.used ∷ e.count ∷ replicate 22 0

unfoldable pub sem_of : List ℕ → Sem
sem_of row = record { used = is_one (get_or row 0 0); count = get_or row 1 0 }

-- "Kernel: byte 0 running thread, 1 lock count." Order 6: "Keep a 32-bit word in kernel bytes 2 to 5."
unfoldable pub kernel_row : ℕ → ℕ → ℕ → List ℕ
kernel_row running lock word = running ∷ lock ∷ (word_bytes word ++ replicate 18 0)

-- THE TABLE

-- the rows of a list's elements, one after the other
unfoldable pub flat : {A : Type 0} → (A → List ℕ) → List A → List ℕ
flat row [] = []
flat row (x ∷ xs) = row x ++ flat row xs

-- the table of a state, with that ready word
unfoldable pub encode_with : ℕ → State → List ℕ
encode_with word s = flat thread_row s.threads ++ (flat sem_row s.sems ++ kernel_row s.running s.lock word)

-- the table that holds a state: order 6, "Every operation keeps it true and a table where it is wrong is unsound."
unfoldable pub encode : State → List ℕ
encode s = encode_with (ready_word s.threads) s

-- the first n records of a table
unfoldable pub rows : ℕ → List ℕ → List (List ℕ)
rows n t = pieces record_length n t

-- the state that a table says
unfoldable pub decode : Board → List ℕ → State
decode b t =
    let behind = drop (b.threads * record_length) t in
    let kernel = drop (b.sems * record_length) behind in
    record {
      threads = map thread_of (rows b.threads t);
      sems = map sem_of (rows b.sems behind);
      running = get_or kernel 0 0;
      lock = get_or kernel 1 0;
    }
