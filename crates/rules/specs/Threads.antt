-- Threads: Yield, Create, Delete, Suspend, Resume, Delay, Cancel, Set priority, Set turn.
use Rattle.std.specs.Prelude.{if◌then◌else◌, Bool, true, false, not, ◌&&◌, ◌||◌, List, ℕ, eqb, leb, ltb, length}
use Rattle.rules.specs.Board.{top_priority, most_ticks}
use Rattle.rules.specs.State.{State, free, at, waiting, delaying, is_ready, with_wait, with_suspended, with_priority, with_turn, edit}
use Rattle.rules.specs.Lines.{senders, line_length, filled, move}
use Rattle.rules.specs.Waiting.{Step, refuse, accept, accept_threads, end_wait, serve, block, may_not_wait}
use Rattle.rules.specs.declared.Thread.{Thread}
use Rattle.rules.specs.declared.Wait.{Wait}
use Rattle.rules.specs.declared.Wait.TheVariants.{Nothing, Delay}
use Rattle.rules.specs.declared.Outcome.TheVariants.{NoneYet, Failed}
use Rattle.rules.specs.declared.Refusal.TheVariants.{BadThread, BadPriority, BadTicks, BadState, BadOperation}

-- "−1: thread number above 15, or free"
abbrev pub no_thread : State → ℕ → Bool
no_thread s i = not (at s.threads i).used

-- "−2: priority above 31"
abbrev pub bad_priority : ℕ → Bool
bad_priority p = ltb top_priority p

-- "−3: turn or delay 0 or above 99,999"
abbrev pub bad_ticks : ℕ → Bool
bad_ticks n = eqb n 0 || ltb most_ticks n

-- "−5 for Init, or the running thread under lock."
abbrev pub bound : State → ℕ → Bool
bound s i = eqb i 0 || (eqb i s.running && ltb 0 s.lock)

-- "Yield: tail of its line, counter = turn; under lock, nothing."
unfoldable pub do_yield : State → Step
do_yield s = if ltb 0 s.lock then accept s 0 else accept_threads s (move s.running (λ t. t) s.threads)

-- "Create: not suspended, no wait, empty mailbox, outcome 1, ready."
abbrev pub created : ℕ → ℕ → Thread
created p n = record { used = true; priority = p; suspended = false; wait = Nothing 0; place = 0; full = false; outcome = NoneYet; turn = n; value = 0; parcel = 0 }

-- "Create −2, −3, −1"; "−1 (Create: in use)"
unfoldable pub do_create : State → ℕ → ℕ → ℕ → Step
do_create s i p n =
    if bad_priority p then refuse s BadPriority else
    if bad_ticks n then refuse s BadTicks else
    if leb (length s.threads) i || (at s.threads i).used then refuse s BadThread else
    accept_threads s (move i (λ t. created p n) s.threads)

-- "Senders waiting on it end with −5 in line order; its record becomes free."
unfoldable pub deleted : ℕ → List Thread → List Thread
deleted i ts = serve (line_length (senders i) ts) (senders i) Failed (move i (λ t. free) ts)

-- "Delete −1, −5"
unfoldable pub do_delete : State → ℕ → Step
do_delete s i =
    if no_thread s i then refuse s BadThread else
    if bound s i then refuse s BadOperation else
    accept_threads s (deleted i s.threads)

-- "A ready thread leaves its line with counter 0."
abbrev pub stopped : Thread → Thread
stopped t = with_wait (Nothing 0) (with_suspended true t)

-- "Suspend −1, −4, −5"; "−4 Suspend: already suspended"
unfoldable pub do_suspend : State → ℕ → Step
do_suspend s i =
    if no_thread s i then refuse s BadThread else
    if (at s.threads i).suspended then refuse s BadState else
    if bound s i then refuse s BadOperation else
    if is_ready (at s.threads i)
    then accept_threads s (move i stopped s.threads)
    else accept_threads s (edit i (with_suspended true) s.threads)

-- "Resume −1, −4"; "−4 Resume: not [suspended]"; "Resume: ready if not waiting."
unfoldable pub do_resume : State → ℕ → Step
do_resume s i =
    if no_thread s i then refuse s BadThread else
    if not (at s.threads i).suspended then refuse s BadState else
    if waiting (at s.threads i).wait
    then accept_threads s (edit i (with_suspended false) s.threads)
    else accept_threads s (move i (with_suspended false) s.threads)

-- "Delay −3, −5": "−5 for Init or under lock; else it waits as above."
unfoldable pub do_delay : State → ℕ → Step
do_delay s n =
    if bad_ticks n then refuse s BadTicks else
    if may_not_wait s then refuse s BadOperation else
    block s (Delay n) 0

-- a wait of the named kind ends with −5; −4 where the thread is in no such wait
unfoldable pub break_off : (Wait → Bool) → State → ℕ → Step
break_off kind s i =
    if no_thread s i then refuse s BadThread else
    if not (kind (at s.threads i).wait) then refuse s BadState else
    accept_threads s (end_wait i Failed 0 s.threads)

-- "Cancel −1, −4"; "−4 Cancel: not in a delay"; "the wait ends with −5."
unfoldable pub do_cancel : State → ℕ → Step
do_cancel s i = break_off delaying s i

-- Order 8: "operation 23 sets the priority (a ready thread whose priority differs goes to the new tail with a full counter; the same priority
-- changes nothing)". "Refusals: 23: −2, −1, −5", "Init gets −5 in both". A thread that is in no ready line keeps its counter, as in document
-- 01's Set: "any other keeps its counter".
unfoldable pub do_set_priority : State → ℕ → ℕ → Step
do_set_priority s i p =
    if bad_priority p then refuse s BadPriority else
    if no_thread s i then refuse s BadThread else
    if eqb i 0 then refuse s BadOperation else
    if is_ready (at s.threads i) && not (eqb (at s.threads i).priority p)
    then accept_threads s (move i (with_priority p) s.threads)
    else accept_threads s (edit i (with_priority p) s.threads)

-- Order 8: "operation 24 sets the turn (a ready thread takes a full counter and keeps its place; otherwise only the turn changes)". "24: −3,
-- −1, −5"
unfoldable pub do_set_turn : State → ℕ → ℕ → Step
do_set_turn s i n =
    if bad_ticks n then refuse s BadTicks else
    if no_thread s i then refuse s BadThread else
    if eqb i 0 then refuse s BadOperation else
    accept_threads s (edit i (λ t. filled (with_turn n t)) s.threads)
