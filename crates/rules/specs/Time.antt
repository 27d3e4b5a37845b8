-- The scheduler lock, the tick, and Outcome.
use Rattle.std.specs.Prelude.{if◌then◌else◌, not, ◌||◌, List, ℕ, zero, suc, pred, eqb, leb, length, Ok}
use Rattle.rules.specs.Board.{most_lock}
use Rattle.rules.specs.State.{State, at, counter_of, waiting, with_counter, with_lock, edit}
use Rattle.rules.specs.Lines.{move}
use Rattle.rules.specs.Waiting.{Step, refuse, accept, accept_threads, end_wait}
use Rattle.rules.specs.Threads.{no_thread}
use Rattle.rules.specs.declared.Thread.{Thread}
use Rattle.rules.specs.declared.Wait.{Wait}
use Rattle.rules.specs.declared.Wait.TheVariants.{Nothing, Delay, Receive, Send, Semaphore}
use Rattle.rules.specs.declared.Outcome.{Outcome}
use Rattle.rules.specs.declared.Outcome.TheVariants.{Done, NoneYet, Failed}
use Rattle.rules.specs.Answers.{Answer}
use Rattle.rules.specs.declared.Reply.TheVariants as Reply
use Rattle.rules.specs.declared.Refusal.TheVariants.{BadThread, BadOperation}

-- "Lock −5 at 255."
unfoldable pub do_lock : State → Step
do_lock s = if leb most_lock s.lock then refuse s BadOperation else accept (with_lock (suc s.lock) s) 0

-- "Unlock −5 at 0."
unfoldable pub do_unlock : State → Step
do_unlock s = if eqb s.lock 0 then refuse s BadOperation else accept (with_lock (pred s.lock) s) 0

-- "First, with lock 0, the running thread is charged: counter less 1 and, if that gives 0, tail of its line with a full counter."
unfoldable pub charge : ℕ → List Thread → List Thread
charge r ts =
    let c = counter_of (at ts r).wait in
    if leb c 1 then move r (λ t. t) ts else edit r (with_counter (pred c)) ts

unfoldable pub charged : State → List Thread
charged s = if eqb s.lock 0 then charge s.running s.threads else s.threads

-- "At 0 ends: a delay with 0, others with −5."
abbrev pub timed_out : Wait → Outcome
timed_out (Nothing n) = Failed
timed_out (Delay n) = Done
timed_out (Receive n) = Failed
timed_out (Send to n) = Failed
timed_out (Semaphore on n) = Failed

-- "Each wait with counter above 0 counts down, and at 0 ends."
unfoldable pub count_down : ℕ → List Thread → List Thread
count_down i ts =
    let w = (at ts i).wait in
    if not (waiting w) || eqb (counter_of w) 0 then ts else
    if eqb (counter_of w) 1 then end_wait i (timed_out w) 0 ts else
    edit i (with_counter (pred (counter_of w))) ts

-- "Then, by thread number": the threads below n
unfoldable pub timeouts : ℕ → List Thread → List Thread
timeouts zero ts = ts
timeouts (suc n) ts = count_down n (timeouts n ts)

unfoldable pub do_tick : State → Step
do_tick s = accept_threads s (timeouts (length s.threads) (charged s))

-- "Outcome −1: code is the outcome, value the parcel if that is 0, else 0."
abbrev pub outcome_answer : Outcome → ℕ → Answer
outcome_answer Done x = Ok (Reply.Done x)
outcome_answer NoneYet x = Ok Reply.NoneYet
outcome_answer Failed x = Ok Reply.Failed

unfoldable pub do_outcome : State → ℕ → Step
do_outcome s i =
    if no_thread s i then refuse s BadThread else
    record { state = s; answer = outcome_answer (at s.threads i).outcome (at s.threads i).parcel }
