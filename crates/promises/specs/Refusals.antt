-- Document 01's two tables of refusals as the orders change them, written down apart from the operations, so that they can disagree with
-- them.
use Rattle.std.specs.Prelude.{if◌then◌else◌, Bool, false, not, ◌&&◌, ◌||◌, List, [], ◌∷◌, ℕ, ◌+◌, ◌-◌, eqb, leb, ltb, length, Err, Ok, Option, None, Some}
use Rattle.rules.specs.Basic.{count}
use Rattle.rules.specs.State.{State, at, sem_at, caller, delaying, pending}
use Rattle.rules.specs.declared.Thread.{Thread}
use Rattle.rules.specs.declared.Wait.{Wait}
use Rattle.rules.specs.declared.Wait.TheVariants.{Nothing, Delay, Receive, Send, Semaphore}
use Rattle.rules.specs.declared.Refusal.{Refusal}
use Rattle.rules.specs.declared.Refusal.TheVariants.{BadThread, BadPriority, BadTicks, BadState, BadOperation, BadSemaphore, BadTable, BadRecord}
use Rattle.rules.specs.Answers.{Answer}
use Rattle.rules.specs.declared.Reply.TheVariants.{Done, Blocked, NoneYet, Failed}
use Rattle.rules.specs.declared.Request.{Request}
use Rattle.rules.specs.declared.Request.TheVariants as Ask

-- THE FIRST TABLE: "Refused, in this order"

abbrev pub order : Request → List Refusal
order Ask.Yield = []
order (Ask.Create i p n) = BadPriority ∷ BadTicks ∷ BadThread ∷ []
order (Ask.Delete i) = BadThread ∷ BadOperation ∷ []
order (Ask.Suspend i) = BadThread ∷ BadState ∷ BadOperation ∷ []
order (Ask.Resume i) = BadThread ∷ BadState ∷ []
order (Ask.Delay n) = BadTicks ∷ BadOperation ∷ []
order (Ask.Cancel i) = BadThread ∷ BadState ∷ []
order (Ask.Send i n x) = BadThread ∷ BadOperation ∷ []
order (Ask.SendFromInterrupt i x) = BadThread ∷ BadOperation ∷ []
order (Ask.Receive n) = BadOperation ∷ []
order (Ask.Make k n) = BadSemaphore ∷ BadOperation ∷ []
order (Ask.Drop k) = BadSemaphore ∷ []
order (Ask.Pend k n) = BadSemaphore ∷ BadOperation ∷ []
order (Ask.Abort i) = BadThread ∷ BadState ∷ []
order (Ask.Post k n) = BadSemaphore ∷ BadOperation ∷ []
order (Ask.PostFromInterrupt k n) = BadSemaphore ∷ BadOperation ∷ []
order Ask.Lock = BadOperation ∷ []
order Ask.Unlock = BadOperation ∷ []
order Ask.Tick = []
order (Ask.Outcome i) = BadThread ∷ []
-- order 7: "−3 for 21 with 0 or above 99,999", and nothing for 22
order (Ask.Ticks n) = BadTicks ∷ []
order Ask.Nearest = []
-- order 8: "Refusals: 23: −2, −1, −5; 24: −3, −1, −5"
order (Ask.SetPriority i p) = BadPriority ∷ BadThread ∷ BadOperation ∷ []
order (Ask.SetTurn i n) = BadTicks ∷ BadThread ∷ BadOperation ∷ []

-- THE SECOND TABLE: "Given exactly when"

-- what a request names, its priority, and its turn, delay or number of ticks; 0 and 1 where it has none
pub data Named : Type 0 where
  nothing : Named
  thread newThread semaphore newSemaphore : ℕ → Named

pub record Names : Type 0 where
  pub object : Named
  pub priority : ℕ
  pub ticks : ℕ

abbrev names : Named → ℕ → ℕ → Names
names o p n = record { object = o; priority = p; ticks = n }

abbrev pub names_of : Request → Names
names_of Ask.Yield = names nothing 0 1
names_of (Ask.Create i p n) = names (newThread i) p n
names_of (Ask.Delete i) = names (thread i) 0 1
names_of (Ask.Suspend i) = names (thread i) 0 1
names_of (Ask.Resume i) = names (thread i) 0 1
names_of (Ask.Delay n) = names nothing 0 n
names_of (Ask.Cancel i) = names (thread i) 0 1
names_of (Ask.Send i n x) = names (thread i) 0 1
names_of (Ask.SendFromInterrupt i x) = names (thread i) 0 1
names_of (Ask.Receive n) = names nothing 0 1
names_of (Ask.Make k n) = names (newSemaphore k) 0 1
names_of (Ask.Drop k) = names (semaphore k) 0 1
names_of (Ask.Pend k n) = names (semaphore k) 0 1
names_of (Ask.Abort i) = names (thread i) 0 1
names_of (Ask.Post k n) = names (semaphore k) 0 1
names_of (Ask.PostFromInterrupt k n) = names (semaphore k) 0 1
names_of Ask.Lock = names nothing 0 1
names_of Ask.Unlock = names nothing 0 1
names_of Ask.Tick = names nothing 0 1
names_of (Ask.Outcome i) = names (thread i) 0 1
names_of (Ask.Ticks n) = names nothing 0 n
names_of Ask.Nearest = names nothing 0 1
names_of (Ask.SetPriority i p) = names (thread i) p 1
names_of (Ask.SetTurn i n) = names (thread i) 0 n

-- "−1: thread number above 15, or free (Create: in use)": 15 is the last thread of the board
abbrev pub minus1 : State → Named → Bool
minus1 s nothing = false
minus1 s (thread i) = leb (length s.threads) i || not (at s.threads i).used
minus1 s (newThread i) = leb (length s.threads) i || (at s.threads i).used
minus1 s (semaphore k) = false
minus1 s (newSemaphore k) = false

-- "−6: semaphore number above 7, or free (Make: in use)": 7 is the last semaphore of the board
abbrev pub minus6 : State → Named → Bool
minus6 s nothing = false
minus6 s (thread i) = false
minus6 s (newThread i) = false
minus6 s (semaphore k) = leb (length s.sems) k || not (sem_at s.sems k).used
minus6 s (newSemaphore k) = leb (length s.sems) k || (sem_at s.sems k).used

-- "−4: Suspend: already suspended; Resume: not; Cancel: not in a delay; Abort: not waiting on a semaphore"
abbrev pub minus4 : State → Request → Bool
minus4 s Ask.Yield = false
minus4 s (Ask.Create i p n) = false
minus4 s (Ask.Delete i) = false
minus4 s (Ask.Suspend i) = (at s.threads i).suspended
minus4 s (Ask.Resume i) = not (at s.threads i).suspended
minus4 s (Ask.Delay n) = false
minus4 s (Ask.Cancel i) = not (delaying (at s.threads i).wait)
minus4 s (Ask.Send i n x) = false
minus4 s (Ask.SendFromInterrupt i x) = false
minus4 s (Ask.Receive n) = false
minus4 s (Ask.Make k n) = false
minus4 s (Ask.Drop k) = false
minus4 s (Ask.Pend k n) = false
minus4 s (Ask.Abort i) = not (pending (at s.threads i).wait)
minus4 s (Ask.Post k n) = false
minus4 s (Ask.PostFromInterrupt k n) = false
minus4 s Ask.Lock = false
minus4 s Ask.Unlock = false
minus4 s Ask.Tick = false
minus4 s (Ask.Outcome i) = false
minus4 s (Ask.Ticks n) = false
minus4 s Ask.Nearest = false
minus4 s (Ask.SetPriority i p) = false
minus4 s (Ask.SetTurn i n) = false

abbrev pub locked : State → Bool
locked s = not (eqb s.lock 0)

-- "A call that must wait answers −5 if its number is 0, the caller is Init or the lock is on."
abbrev pub cannot_wait : State → ℕ → Bool
cannot_wait s n = eqb n 0 || eqb s.running 0 || locked s

-- "wait kind [..] 4 semaphore", and its object is k
abbrev pub on_semaphore : ℕ → Wait → Bool
on_semaphore k (Nothing c) = false
on_semaphore k (Delay c) = false
on_semaphore k (Receive c) = false
on_semaphore k (Send to c) = false
on_semaphore k (Semaphore on c) = eqb on k

-- a thread that waits on semaphore k, suspended or not
abbrev pub waits_on : ℕ → Thread → Bool
waits_on k t = t.used && on_semaphore k t.wait

abbrev pub waiters_on : State → ℕ → ℕ
waiters_on s k = count (waits_on k) s.threads

-- order 4: "the units left over after the waiters are served": each takes one, and 0 are left where as many wait or more
abbrev pub units_over : State → ℕ → ℕ → ℕ
units_over s k n = n - waiters_on s k

-- "−5: as said under each operation below"
abbrev pub minus5 : State → Request → Bool
minus5 s Ask.Yield = false
minus5 s (Ask.Create i p n) = false
-- "−5 for Init, or the running thread under lock."
minus5 s (Ask.Delete i) = eqb i 0 || (eqb i s.running && locked s)
-- "−5 for Init, or the running thread under lock."
minus5 s (Ask.Suspend i) = eqb i 0 || (eqb i s.running && locked s)
minus5 s (Ask.Resume i) = false
-- "−5 for Init or under lock."
minus5 s (Ask.Delay n) = eqb s.running 0 || locked s
minus5 s (Ask.Cancel i) = false
-- "To oneself −5." "To a full one, the sender must wait."
minus5 s (Ask.Send i n x) = eqb i s.running || ((at s.threads i).full && cannot_wait s n)
-- "From an interrupt: −5 under lock or if full."
minus5 s (Ask.SendFromInterrupt i x) = locked s || (at s.threads i).full
-- "An empty one must wait."
minus5 s (Ask.Receive n) = not (caller s).full && cannot_wait s n
-- "−5 if number is above 99."
minus5 s (Ask.Make k n) = ltb 99 n
minus5 s (Ask.Drop k) = false
-- "With count above 0 takes one [..]; else must wait."
minus5 s (Ask.Pend k n) = eqb (sem_at s.sems k).count 0 && cannot_wait s n
minus5 s (Ask.Abort i) = false
-- order 4: "−5 for number 0 or when the count plus the units left over after the waiters are served is above 99"; "from an interrupt
-- also under lock."
minus5 s (Ask.Post k n) = eqb n 0 || ltb 99 ((sem_at s.sems k).count + units_over s k n)
minus5 s (Ask.PostFromInterrupt k n) = eqb n 0 || ltb 99 ((sem_at s.sems k).count + units_over s k n) || locked s
-- "Lock −5 at 255. Unlock −5 at 0."
minus5 s Ask.Lock = leb 255 s.lock
minus5 s Ask.Unlock = eqb s.lock 0
minus5 s Ask.Tick = false
minus5 s (Ask.Outcome i) = false
minus5 s (Ask.Ticks n) = false
minus5 s Ask.Nearest = false
-- order 8: "Init gets −5 in both"
minus5 s (Ask.SetPriority i p) = eqb i 0
minus5 s (Ask.SetTurn i n) = eqb i 0

abbrev pub given : State → Request → Refusal → Bool
given s q BadThread = minus1 s (names_of q).object
-- "−2: priority above 31"
given s q BadPriority = ltb 31 (names_of q).priority
-- "−3: turn or delay 0 or above 99,999"; order 7: "−3 for 21 with 0 or above 99,999"
given s q BadTicks = eqb (names_of q).ticks 0 || ltb 99999 (names_of q).ticks
given s q BadState = minus4 s q
given s q BadOperation = minus5 s q
given s q BadSemaphore = minus6 s (names_of q).object
given s q BadTable = false
given s q BadRecord = false

-- THE REFUSAL

-- the first of a list whose condition holds
unfoldable pub first_given : State → Request → List Refusal → Option Refusal
first_given s q [] = None
first_given s q (why ∷ rest) = let behind = first_given s q rest in if given s q why then Some why else behind

-- the refusal that document 01's two tables name
unfoldable pub refusal : State → Request → Option Refusal
refusal s q = first_given s q (order q)

-- the refusal that an answer is
abbrev pub refusal_in : Answer → Option Refusal
refusal_in (Ok (Done v)) = None
refusal_in (Ok (Blocked v)) = None
refusal_in (Ok NoneYet) = None
refusal_in (Ok Failed) = None
refusal_in (Err why) = Some why
