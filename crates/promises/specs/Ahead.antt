-- Order 1's value, written down apart from the operations and by the bytes of the table, so that it can disagree with them.
-- "A Send or Pend that answers 1 now gives as its value the number of threads already in that line. [..] Delay and Receive keep value 0."
use Rattle.std.specs.Prelude.{if◌then◌else◌, Bool, ◌&&◌, List, ℕ, eqb, get_or}
use Rattle.rules.specs.Basic.{count}
use Rattle.rules.specs.Board.{Board}
use Rattle.rules.specs.Table.{rows}

-- "Thread: byte 0 in use (0/1); [..] 3 wait kind (0 none, 1 delay, 2 receive, 3 send, 4 semaphore); 4 wait object": a record says that its
-- thread waits for this
abbrev pub waits_for : ℕ → ℕ → List ℕ → Bool
waits_for kind object row = eqb (get_or row 0 0) 1 && eqb (get_or row 3 0) kind && eqb (get_or row 4 0) object

-- how many of the threads' records say so
abbrev pub already : Board → List ℕ → ℕ → ℕ → ℕ
already b t kind object = count (waits_for kind object) (rows b.threads t)

-- what is told beside code 1, by operation and object: for "8 Send" the senders to that thread, for "13 Pend" the waiters on that
-- semaphore, 0 for any other
abbrev pub told : Board → List ℕ → ℕ → ℕ → ℕ
told b t operation object =
    if eqb operation 8 then already b t 3 object else
    if eqb operation 13 then already b t 4 object else
    0
