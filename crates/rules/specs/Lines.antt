-- Lines: which line a thread stands in, who is first, and what becomes of the places when one leaves or joins.
-- A thread's own record says which line it stands in; there are no lists of lines.
use Rattle.std.specs.Prelude.{if◌then◌else◌, Bool, false, ◌&&◌, List, map, ℕ, zero, suc, pred, ◌+◌, ◌^◌, eqb, ltb, length}
use Rattle.rules.specs.Basic.{count, find}
use Rattle.rules.specs.Board.{top_priority}
use Rattle.rules.specs.State.{State, at, edit, is_ready, with_place, with_counter, with_running}
use Rattle.rules.specs.declared.Thread.{Thread}
use Rattle.rules.specs.declared.Wait.{Wait}
use Rattle.rules.specs.declared.Wait.TheVariants.{Nothing, Delay, Receive, Send, Semaphore}

-- "There is a ready line per priority, a line per semaphore, and a line of senders per receiving thread."
pub data Line : Type 0 where
  nowhere : Line
  ready waiters senders : ℕ → Line

-- the first is the second, which is a line
abbrev pub same : Line → Line → Bool
same nowhere m = false
same (ready p) nowhere = false
same (ready p) (ready q) = eqb p q
same (ready p) (waiters q) = false
same (ready p) (senders q) = false
same (waiters p) nowhere = false
same (waiters p) (ready q) = false
same (waiters p) (waiters q) = eqb p q
same (waiters p) (senders q) = false
same (senders p) nowhere = false
same (senders p) (ready q) = false
same (senders p) (waiters q) = false
same (senders p) (senders q) = eqb p q

-- "A suspended thread that waits on a semaphore or a send stays in that line."
abbrev pub wait_line : Wait → Bool → ℕ → Line
wait_line (Nothing n) suspended p = if suspended then nowhere else ready p
wait_line (Delay n) suspended p = nowhere
wait_line (Receive n) suspended p = nowhere
wait_line (Send to n) suspended p = senders to
wait_line (Semaphore on n) suspended p = waiters on

-- the line that a thread stands in
abbrev pub line : Thread → Line
line t = if t.used then wait_line t.wait t.suspended t.priority else nowhere

abbrev pub in_line : Line → Thread → Bool
in_line l t = same (line t) l

abbrev pub line_length : Line → List Thread → ℕ
line_length l ts = count (in_line l) ts

abbrev pub is_first : Line → Thread → Bool
is_first l t = in_line l t && eqb t.place 1

-- the number of the line's first thread; the number of threads where it has none
abbrev pub first : Line → List Thread → ℕ
first l ts = find (is_first l) ts

-- a thread behind place q of the line moves up
abbrev pub move_up : Line → ℕ → Thread → Thread
move_up l q t = if in_line l t && ltb q t.place then with_place (pred t.place) t else t

-- "Leaving any line closes the gap."
unfoldable pub leave : ℕ → List Thread → List Thread
leave i ts = map (move_up (line (at ts i)) (at ts i).place) (edit i (with_place 0) ts)

-- a ready thread takes a full counter
abbrev pub filled : Thread → Thread
filled t = if is_ready t then with_counter t.turn t else t

-- the place at the tail of thread i's line, which counts thread i already; 0 in no line
abbrev pub tail_place : ℕ → List Thread → ℕ
tail_place i ts = line_length (line (at ts i)) ts

-- "Entering the ready line is at the tail with counter = turn."
-- Thread i, which has no place, joins the tail of the line that its record names.
unfoldable pub join : ℕ → List Thread → List Thread
join i ts = edit i (λ t. filled (with_place (tail_place i ts) t)) ts

-- thread i leaves its line, is changed by g, and joins the line that it then belongs to
unfoldable pub move : ℕ → (Thread → Thread) → List Thread → List Thread
move i g ts = join i (edit i g (leave i ts))

-- "The first of the highest non-empty line": of the ready lines below priority p
unfoldable pub top_below : ℕ → List Thread → ℕ
top_below zero ts = 0
top_below (suc p) ts = let i = first (ready p) ts in let lower = top_below p ts in if ltb i (length ts) then i else lower

unfoldable pub top : List Thread → ℕ
top ts = top_below (suc top_priority) ts

-- "After every step, with lock 0, the running thread is the first of the highest non-empty line; with lock above 0
-- it doesn't change."
unfoldable pub settle : State → State
settle s = if eqb s.lock 0 then with_running (top s.threads) s else s

-- THE READY WORD

abbrev pub has_member : List Thread → ℕ → Bool
has_member ts p = ltb 0 (line_length (ready p) ts)

-- the number below 2 ^ n whose bit p is set exactly when p passes a test
unfoldable pub bits_below : ℕ → (ℕ → Bool) → ℕ
bits_below zero test = 0
bits_below (suc p) test = bits_below p test + (if test p then 2 ^ p else 0)

-- order 6: "a 32-bit word [..], bit p set exactly when ready line p has a member"
unfoldable pub ready_word : List Thread → ℕ
ready_word ts = bits_below (suc top_priority) (has_member ts)
