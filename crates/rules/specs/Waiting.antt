-- How a step ends, and how a wait begins and ends.
use Rattle.std.specs.Prelude.{if◌then◌else◌, Bool, ◌||◌, List, ℕ, zero, suc, eqb, ltb, Ok, Err}
use Rattle.rules.specs.Board.{most_ticks}
use Rattle.rules.specs.State.{State, caller, with_wait, with_outcome, with_threads}
use Rattle.rules.specs.Lines.{Line, line, line_length, first, move, settle}
use Rattle.rules.specs.declared.Thread.{Thread}
use Rattle.rules.specs.declared.Wait.{Wait}
use Rattle.rules.specs.declared.Wait.TheVariants.{Nothing}
use Rattle.rules.specs.declared.Outcome.{Outcome}
use Rattle.rules.specs.declared.Outcome.TheVariants.{NoneYet}
use Rattle.rules.specs.declared.Refusal.{Refusal}
use Rattle.rules.specs.declared.Refusal.TheVariants.{BadOperation}
use Rattle.rules.specs.Answers.{Answer}
use Rattle.rules.specs.declared.Reply.TheVariants.{Done, Blocked}

-- THE END OF A STEP

pub record Step : Type 0 where
  pub state : State
  pub answer : Answer

-- "On every other refusal the table is untouched."
abbrev pub refuse : State → Refusal → Step
refuse s why = record { state = s; answer = Err why }

abbrev pub accept : State → ℕ → Step
accept s v = record { state = settle s; answer = Ok (Done v) }

-- the same where only threads change
abbrev pub accept_threads : State → List Thread → Step
accept_threads s ts = accept (with_threads ts s) 0

-- A WAIT ENDS

-- "Its wait kind, object and counter become 0, the outcome is 0 or −5 and the parcel is 0, or the data for a receive that succeeded."
abbrev pub ended : Outcome → ℕ → Thread → Thread
ended o x t = with_outcome o x (with_wait (Nothing 0) t)

-- "When a wait ends the thread leaves its line [..]; then the thread enters its ready line if not suspended."
unfoldable pub end_wait : ℕ → Outcome → ℕ → List Thread → List Thread
end_wait i o x ts = move i (ended o x) ts

-- the waits of the first n threads of a line end, in line order
unfoldable pub serve : ℕ → Line → Outcome → List Thread → List Thread
serve zero l o ts = ts
serve (suc n) l o ts = serve n l o (end_wait (first l ts) o 0 ts)

-- A WAIT BEGINS

-- "Outcome 1, parcel 0 (for a send, the data)."
abbrev pub begun : Wait → ℕ → Thread → Thread
begun w x t = with_outcome NoneYet x (with_wait w t)

-- order 1: "A Send or Pend that answers 1 now gives as its value the number of threads already in that line. [..] Delay and Receive keep
-- value 0." The line is the one that the caller stands in once it waits; in a delay or a receive it is none, and nobody stands in it.
abbrev pub ahead : State → Wait → ℕ
ahead s w = line_length (line (with_wait w (caller s))) s.threads

-- "Otherwise it leaves its ready line, joins its line's tail (a delay or receive has none), counter becomes the number [..], answer 1."
unfoldable pub block : State → Wait → ℕ → Step
block s w x = record { state = settle (with_threads (move s.running (begun w x) s.threads) s); answer = Ok (Blocked (ahead s w)) }

-- Init, or a caller under lock, never waits
abbrev pub may_not_wait : State → Bool
may_not_wait s = eqb s.running 0 || ltb 0 s.lock

-- "Wait number 0 means never wait; 1 to 99,999 is a time limit; 100,000 or more is forever."
-- "Counter becomes the number (forever 0)."
abbrev pub never_wait : ℕ → Bool
never_wait n = eqb n 0

abbrev pub wait_counter : ℕ → ℕ
wait_counter n = if ltb most_ticks n then 0 else n

-- "A call that must wait answers −5 if its number is 0, the caller is Init or the lock is on."
unfoldable pub must_wait : State → ℕ → (ℕ → Wait) → ℕ → Step
must_wait s n w x = if never_wait n || may_not_wait s then refuse s BadOperation else block s (w (wait_counter n)) x
