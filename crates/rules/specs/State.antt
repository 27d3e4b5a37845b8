-- The kernel's state as a reader sees it: lists of any length. A number out of range reads as a free record.
use Rattle.std.specs.Prelude.{Bool, true, false, not, ◌&&◌, ◌≡◌, List, ℕ, length, get_or, set}
use Rattle.rules.specs.Board.{Board}
use Rattle.rules.specs.declared.Thread.{Thread}
use Rattle.rules.specs.declared.Sem.{Sem}
use Rattle.rules.specs.declared.Wait.{Wait}
use Rattle.rules.specs.declared.Wait.TheVariants.{Nothing, Delay, Receive, Send, Semaphore}
use Rattle.rules.specs.declared.Outcome.{Outcome}
use Rattle.rules.specs.declared.Outcome.TheVariants.{Done}

pub record State : Type 0 where
  pub threads : List Thread
  pub sems : List Sem
  pub running : ℕ
  pub lock : ℕ

-- as many records as the board has
pub record On (b : Board) (s : State) : Type 0 where
  pub threads : length s.threads ≡ b.threads
  pub sems : length s.sems ≡ b.sems

-- "A free record is all zero (its outcome too, though 0 otherwise means done)."
abbrev pub free : Thread
free = record { used = false; priority = 0; suspended = false; wait = Nothing 0; place = 0; full = false; outcome = Done; turn = 0; value = 0; parcel = 0 }

abbrev pub free_sem : Sem
free_sem = record { used = false; count = 0 }

abbrev pub at : List Thread → ℕ → Thread
at ts i = get_or ts i free

abbrev pub sem_at : List Sem → ℕ → Sem
sem_at es k = get_or es k free_sem

-- "The running thread is the caller."
abbrev pub caller : State → Thread
caller s = at s.threads s.running

-- WAITS

abbrev pub counter_of : Wait → ℕ
counter_of (Nothing n) = n
counter_of (Delay n) = n
counter_of (Receive n) = n
counter_of (Send to n) = n
counter_of (Semaphore on n) = n

abbrev pub with_counter_of : ℕ → Wait → Wait
with_counter_of n (Nothing m) = Nothing n
with_counter_of n (Delay m) = Delay n
with_counter_of n (Receive m) = Receive n
with_counter_of n (Send to m) = Send to n
with_counter_of n (Semaphore on m) = Semaphore on n

abbrev pub waiting : Wait → Bool
waiting (Nothing n) = false
waiting (Delay n) = true
waiting (Receive n) = true
waiting (Send to n) = true
waiting (Semaphore on n) = true

abbrev pub delaying : Wait → Bool
delaying (Nothing n) = false
delaying (Delay n) = true
delaying (Receive n) = false
delaying (Send to n) = false
delaying (Semaphore on n) = false

abbrev pub receiving : Wait → Bool
receiving (Nothing n) = false
receiving (Delay n) = false
receiving (Receive n) = true
receiving (Send to n) = false
receiving (Semaphore on n) = false

abbrev pub sending : Wait → Bool
sending (Nothing n) = false
sending (Delay n) = false
sending (Receive n) = false
sending (Send to n) = true
sending (Semaphore on n) = false

abbrev pub pending : Wait → Bool
pending (Nothing n) = false
pending (Delay n) = false
pending (Receive n) = false
pending (Send to n) = false
pending (Semaphore on n) = true

-- "A thread is ready when in use, not suspended, not waiting; the running thread is ready too."
abbrev pub is_ready : Thread → Bool
is_ready t = t.used && not t.suspended && not (waiting t.wait)

-- ONE FIELD CHANGED

abbrev pub with_place : ℕ → Thread → Thread
with_place q t = record { used = t.used; priority = t.priority; suspended = t.suspended; wait = t.wait; place = q; full = t.full; outcome = t.outcome; turn = t.turn; value = t.value; parcel = t.parcel }

abbrev pub with_wait : Wait → Thread → Thread
with_wait w t = record { used = t.used; priority = t.priority; suspended = t.suspended; wait = w; place = t.place; full = t.full; outcome = t.outcome; turn = t.turn; value = t.value; parcel = t.parcel }

abbrev pub with_counter : ℕ → Thread → Thread
with_counter n t = with_wait (with_counter_of n t.wait) t

abbrev pub with_suspended : Bool → Thread → Thread
with_suspended b t = record { used = t.used; priority = t.priority; suspended = b; wait = t.wait; place = t.place; full = t.full; outcome = t.outcome; turn = t.turn; value = t.value; parcel = t.parcel }

-- the outcome, with its parcel
abbrev pub with_outcome : Outcome → ℕ → Thread → Thread
with_outcome o x t = record { used = t.used; priority = t.priority; suspended = t.suspended; wait = t.wait; place = t.place; full = t.full; outcome = o; turn = t.turn; value = t.value; parcel = x }

-- the mailbox: full or empty, with its value
abbrev pub with_mail : Bool → ℕ → Thread → Thread
with_mail b v t = record { used = t.used; priority = t.priority; suspended = t.suspended; wait = t.wait; place = t.place; full = b; outcome = t.outcome; turn = t.turn; value = v; parcel = t.parcel }

abbrev pub with_priority : ℕ → Thread → Thread
with_priority p t = record { used = t.used; priority = p; suspended = t.suspended; wait = t.wait; place = t.place; full = t.full; outcome = t.outcome; turn = t.turn; value = t.value; parcel = t.parcel }

abbrev pub with_turn : ℕ → Thread → Thread
with_turn n t = record { used = t.used; priority = t.priority; suspended = t.suspended; wait = t.wait; place = t.place; full = t.full; outcome = t.outcome; turn = n; value = t.value; parcel = t.parcel }

abbrev pub with_threads : List Thread → State → State
with_threads ts s = record { threads = ts; sems = s.sems; running = s.running; lock = s.lock }

abbrev pub with_sems : List Sem → State → State
with_sems es s = record { threads = s.threads; sems = es; running = s.running; lock = s.lock }

abbrev pub with_running : ℕ → State → State
with_running r s = record { threads = s.threads; sems = s.sems; running = r; lock = s.lock }

abbrev pub with_lock : ℕ → State → State
with_lock n s = record { threads = s.threads; sems = s.sems; running = s.running; lock = n }

-- thread i changed by g
abbrev pub edit : ℕ → (Thread → Thread) → List Thread → List Thread
edit i g ts = set ts i (g (at ts i))
