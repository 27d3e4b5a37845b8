-- Semaphores: Make, Drop, Pend, Abort, Post, Post from interrupt.
use Rattle.std.specs.Prelude.{if◌then◌else◌, Bool, true, not, ◌||◌, ℕ, pred, ◌+◌, ◌-◌, min, eqb, leb, ltb, length, set}
use Rattle.rules.specs.Board.{most_count}
use Rattle.rules.specs.State.{State, free_sem, sem_at, pending, with_threads, with_sems}
use Rattle.rules.specs.Lines.{waiters, line_length}
use Rattle.rules.specs.Waiting.{Step, refuse, accept, serve, must_wait}
use Rattle.rules.specs.Threads.{break_off}
use Rattle.rules.specs.declared.Wait.TheVariants.{Semaphore}
use Rattle.rules.specs.declared.Outcome.TheVariants.{Done, Failed}
use Rattle.rules.specs.declared.Refusal.TheVariants.{BadOperation, BadSemaphore}

-- "−6: semaphore number above 7, or free"
abbrev pub no_sem : State → ℕ → Bool
no_sem s k = not (sem_at s.sems k).used

abbrev pub count_of : State → ℕ → ℕ
count_of s k = (sem_at s.sems k).count

-- semaphore k in use, with a count
abbrev pub with_count : ℕ → ℕ → State → State
with_count k n s = with_sems (set s.sems k (record { used = true; count = n })) s

-- "Make −6, −5"; "−6 (Make: in use)"; "−5 if number is above 99."
unfoldable pub do_make : State → ℕ → ℕ → Step
do_make s k n =
    if leb (length s.sems) k || (sem_at s.sems k).used then refuse s BadSemaphore else
    if ltb most_count n then refuse s BadOperation else
    accept (with_count k n s) 0

-- "Drop −6: its waiters end with −5 in line order."
unfoldable pub do_drop : State → ℕ → Step
do_drop s k =
    if no_sem s k then refuse s BadSemaphore else
    accept (with_sems (set s.sems k free_sem) (with_threads (serve (line_length (waiters k) s.threads) (waiters k) Failed s.threads) s)) 0

-- "Pend −6, −5: with count above 0 takes one and the value is what is left; else must wait."
unfoldable pub do_pend : State → ℕ → ℕ → Step
do_pend s k n =
    if no_sem s k then refuse s BadSemaphore else
    if ltb 0 (count_of s k) then accept (with_count k (pred (count_of s k)) s) (pred (count_of s k)) else
    must_wait s n (Semaphore k) 0

-- "Abort −1, −4"; "−4 Abort: not waiting on a semaphore"; "the wait ends with −5."
unfoldable pub do_abort : State → ℕ → Step
do_abort s i = break_off pending s i

-- "Units go to waiters in line order": how many of n units do. A suspended waiter stays in the line, and takes one too.
abbrev pub served_by : State → ℕ → ℕ → ℕ
served_by s k n = min n (line_length (waiters k) s.threads)

-- order 4: "the count plus the units left over after the waiters are served"
abbrev pub count_after : State → ℕ → ℕ → ℕ
count_after s k n = count_of s k + (n - served_by s k n)

-- order 4: "Post, from threads and interrupts, answers −5 for number 0 or when the count plus the units left over after the waiters
-- are served is above 99."
abbrev pub too_many : State → ℕ → ℕ → Bool
too_many s k n = eqb n 0 || ltb most_count (count_after s k n)

-- "Units go to waiters in line order, priority notwithstanding; each such wait ends with 0; the rest is added to the count."
unfoldable pub posted : State → ℕ → ℕ → State
posted s k n = with_count k (count_after s k n) (with_threads (serve (served_by s k n) (waiters k) Done s.threads) s)

-- "Post −6, −5"
unfoldable pub do_post : State → ℕ → ℕ → Step
do_post s k n =
    if no_sem s k then refuse s BadSemaphore else
    if too_many s k n then refuse s BadOperation else
    accept (posted s k n) 0

-- "From an interrupt also under lock."
unfoldable pub do_post_from_interrupt : State → ℕ → ℕ → Step
do_post_from_interrupt s k n =
    if no_sem s k then refuse s BadSemaphore else
    if ltb 0 s.lock then refuse s BadOperation else
    do_post s k n
