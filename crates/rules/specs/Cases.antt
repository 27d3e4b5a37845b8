-- Document 01's example run and its twelve proved cases, and cases of the orders, in one table: what is asked from a fresh table, through
-- bytes and the door, what the trace then says line by line, and what some bytes of the table hold afterwards.
use Rattle.std.specs.Prelude.{◌≡◌, List, [], ◌∷◌, ◌++◌, map, ℕ, zero, suc, pred, ◌+◌, ◌*◌, ◌^◌, ℤ, pos, negsuc, length, take, drop, replicate}
use Rattle.rules.specs.Board.{printer, record_length}
use Rattle.rules.specs.Table.{word_bytes}
use Rattle.rules.specs.Door.{fresh_table, table_after}
use Rattle.rules.specs.Trace.{TraceLine, served, short, cleanly, trace}

-- REQUESTS, by document 01's numbers

abbrev ask : ℕ → ℕ → ℕ → ℕ → ℕ → List ℕ
ask operation object priority number parcel = operation ∷ object ∷ priority ∷ 0 ∷ (word_bytes number ++ word_bytes parcel)

abbrev create : ℕ → ℕ → ℕ → List ℕ
create i p n = ask 1 i p n 0

abbrev delete : ℕ → List ℕ
delete i = ask 2 i 0 0 0

abbrev suspend : ℕ → List ℕ
suspend i = ask 4 i 0 0 0

abbrev resume : ℕ → List ℕ
resume i = ask 5 i 0 0 0

abbrev delay : ℕ → List ℕ
delay n = ask 6 0 0 n 0

abbrev send : ℕ → ℕ → ℕ → List ℕ
send i n x = ask 8 i 0 n x

abbrev receive : ℕ → List ℕ
receive n = ask 10 0 0 n 0

abbrev make : ℕ → ℕ → List ℕ
make k n = ask 11 k 0 n 0

abbrev pend : ℕ → ℕ → List ℕ
pend k n = ask 13 k 0 n 0

abbrev post : ℕ → ℕ → List ℕ
post k n = ask 15 k 0 n 0

abbrev post_from_interrupt : ℕ → ℕ → List ℕ
post_from_interrupt k n = ask 16 k 0 n 0

abbrev lock_on : List ℕ
lock_on = ask 17 0 0 0 0

abbrev unlock : List ℕ
unlock = ask 18 0 0 0 0

abbrev tick : List ℕ
tick = ask 19 0 0 0 0

abbrev outcome : ℕ → List ℕ
outcome i = ask 20 i 0 0 0

abbrev ticks : ℕ → List ℕ
ticks n = ask 21 0 0 n 0

abbrev nearest : List ℕ
nearest = ask 22 0 0 0 0

abbrev set_priority : ℕ → ℕ → List ℕ
set_priority i p = ask 23 i p 0 0

abbrev set_turn : ℕ → ℕ → List ℕ
set_turn i n = ask 24 i 0 n 0

-- ANSWERS, each with the thread that runs after it

pub record Seen : Type 0 where
  pub code : ℤ
  pub value : ℕ
  pub running : ℕ

-- done, with a value
abbrev gives : ℕ → ℕ → Seen
gives v r = record { code = pos 0; value = v; running = r }

abbrev done : ℕ → Seen
done r = gives 0 r

-- blocked, with n threads ahead
abbrev behind : ℕ → ℕ → Seen
behind n r = record { code = pos 1; value = n; running = r }

abbrev blocked : ℕ → Seen
blocked r = behind 0 r

-- −k: a refusal, or an outcome that failed
abbrev minus : ℕ → ℕ → Seen
minus k r = record { code = negsuc (pred k); value = 0; running = r }

-- CASES

-- bytes that a record of the table holds from an offset on
pub record Held : Type 0 where
  pub index : ℕ
  pub offset : ℕ
  pub bytes : List ℕ

abbrev held : ℕ → ℕ → List ℕ → Held
held i k bs = record { index = i; offset = k; bytes = bs }

-- order 6: the ready word, and the kernel's bytes behind it
abbrev held_word : ℕ → Held
held_word word = held (printer.threads + printer.sems) 2 (word_bytes word ++ replicate 18 0)

pub record Case : Type 0 where
  pub asked : List (List ℕ)
  pub left_over : List ℕ
  pub seen : List Seen
  pub holds : List Held

abbrev case : List (List ℕ) → List Seen → Case
case rs ss = record { asked = rs; left_over = []; seen = ss; holds = [] }

abbrev case_holding : List (List ℕ) → List Seen → List Held → Case
case_holding rs ss hs = record { asked = rs; left_over = []; seen = ss; holds = hs }

-- three threads wait on semaphore 0, and Init runs
abbrev three : List (List ℕ)
three = make 0 0 ∷ create 1 5 5 ∷ pend 0 100000 ∷ create 2 5 5 ∷ pend 0 100000 ∷ create 3 5 5 ∷ pend 0 100000 ∷ []

abbrev three_wait : List Seen
three_wait = done 0 ∷ done 1 ∷ blocked 0 ∷ done 2 ∷ behind 1 0 ∷ done 3 ∷ behind 2 0 ∷ []

unfoldable pub table : List Case
table =
    -- the example run
    record {
      asked = create 1 5 2 ∷ create 2 5 3 ∷ tick ∷ tick ∷ make 0 0 ∷ pend 0 100000 ∷ post 0 1 ∷ pend 0 0 ∷ ask 99 0 0 0 0 ∷ outcome 2 ∷ [];
      left_over = 7 ∷ 7 ∷ 7 ∷ [];
      seen = done 1 ∷ done 1 ∷ done 1 ∷ done 2 ∷ done 2 ∷ blocked 1 ∷ done 1 ∷ minus 5 1 ∷ minus 8 1 ∷ done 1 ∷ [];
      holds = [];
    }
    -- "(1) priority 31 accepted, 32 −2"
    ∷ case (create 1 31 1 ∷ create 2 32 1 ∷ []) (done 1 ∷ minus 2 1 ∷ [])
    -- "(2) turn 0 −3, 1 and 99,999 accepted, 100,000 −3"
    ∷ case (create 1 5 0 ∷ create 1 5 1 ∷ create 2 5 99999 ∷ create 3 5 100000 ∷ []) (minus 3 0 ∷ done 1 ∷ done 1 ∷ minus 3 1 ∷ [])
    -- "(3) priority 32 with turn 0 on slot 0: −2"
    ∷ case (create 0 32 0 ∷ create 0 31 0 ∷ create 0 31 1 ∷ []) (minus 2 0 ∷ minus 3 0 ∷ minus 1 0 ∷ [])
    -- "(4) Delay 1 ends at the next tick with 0": and Delay 2 does not
    ∷ case (create 1 5 2 ∷ delay 1 ∷ outcome 1 ∷ tick ∷ outcome 1 ∷ []) (done 1 ∷ blocked 0 ∷ blocked 0 ∷ done 1 ∷ done 1 ∷ [])
    ∷ case (create 1 5 2 ∷ delay 2 ∷ tick ∷ outcome 1 ∷ tick ∷ outcome 1 ∷ []) (done 1 ∷ blocked 0 ∷ done 0 ∷ blocked 0 ∷ done 1 ∷ done 1 ∷ [])
    -- "(5) Pend on count 0 for 99,999 leaves that counter, for 100,000 leaves 0"
    ∷ case_holding (make 0 0 ∷ create 1 5 2 ∷ pend 0 99999 ∷ []) (done 0 ∷ done 1 ∷ blocked 0 ∷ []) (held 1 12 (word_bytes 99999) ∷ [])
    ∷ case_holding (make 0 0 ∷ create 1 5 2 ∷ pend 0 100000 ∷ []) (done 0 ∷ done 1 ∷ blocked 0 ∷ []) (held 1 12 (word_bytes 0) ∷ [])
    -- "(6) count 0: Post 99 accepted, 100 −5; count 99: Post 1 −5"
    ∷ case (make 0 0 ∷ post 0 100 ∷ post 0 99 ∷ post 0 1 ∷ []) (done 0 ∷ minus 5 0 ∷ done 0 ∷ minus 5 0 ∷ [])
    -- "(7) a priority 3 waiter that came first is served before a priority 9 one"
    ∷ case
    (make 0 0 ∷ create 1 3 5 ∷ pend 0 100000 ∷ create 2 9 5 ∷ pend 0 100000 ∷ post 0 1 ∷ outcome 1 ∷ outcome 2 ∷ post 0 1 ∷ outcome 2 ∷ [])
    (done 0 ∷ done 1 ∷ blocked 0 ∷ done 2 ∷ behind 1 0 ∷ done 1 ∷ done 1 ∷ blocked 1 ∷ done 2 ∷ done 2 ∷ [])
    -- "(8) Delete with two waiting senders: both −5"
    ∷ case
    (create 1 5 5 ∷ create 2 7 5 ∷ create 3 8 5 ∷ send 1 0 40 ∷ send 1 100000 41 ∷ send 1 100000 42 ∷ delete 1 ∷ outcome 2 ∷ outcome 3 ∷ [])
    (done 1 ∷ done 2 ∷ done 3 ∷ done 3 ∷ blocked 2 ∷ behind 1 1 ∷ done 3 ∷ minus 5 3 ∷ minus 5 3 ∷ [])
    -- "(9) Post serves a suspended waiter: outcome 0, not ready": suspended, no wait, place 0
    ∷ case_holding
    (make 0 0 ∷ create 1 5 5 ∷ pend 0 100000 ∷ suspend 1 ∷ post 0 1 ∷ outcome 1 ∷ [])
    (done 0 ∷ done 1 ∷ blocked 0 ∷ done 0 ∷ done 0 ∷ done 0 ∷ [])
    (held 1 2 (1 ∷ 0 ∷ 0 ∷ 0 ∷ []) ∷ held_word 1 ∷ [])
    ∷ case
    (make 0 0 ∷ create 1 5 5 ∷ pend 0 100000 ∷ suspend 1 ∷ post 0 1 ∷ resume 1 ∷ [])
    (done 0 ∷ done 1 ∷ blocked 0 ∷ done 0 ∷ done 0 ∷ done 1 ∷ [])
    -- "(10) broken off with 1 tick left, a thread gets 1 tick on return, then the next"
    ∷ case
    (create 1 5 2 ∷ create 2 5 3 ∷ tick ∷ create 3 9 1 ∷ tick ∷ tick ∷ delete 3 ∷ tick ∷ tick ∷ tick ∷ tick ∷ [])
    (done 1 ∷ done 1 ∷ done 1 ∷ done 3 ∷ done 3 ∷ done 3 ∷ done 1 ∷ done 2 ∷ done 2 ∷ done 2 ∷ done 1 ∷ [])
    -- "(11) Lock, Lock, Unlock: the outranking thread still waits": and a second Unlock lets it run
    ∷ case_holding
    (create 1 5 2 ∷ lock_on ∷ lock_on ∷ create 2 9 2 ∷ unlock ∷ unlock ∷ [])
    (done 1 ∷ done 1 ∷ done 1 ∷ done 1 ∷ done 1 ∷ done 2 ∷ [])
    (held_word (1 + 2 ^ 5 + 2 ^ 9) ∷ [])
    -- "(12) Delete 0 is −5, Delete 16 is −1"
    ∷ case (delete 0 ∷ delete 16 ∷ delete 15 ∷ []) (minus 5 0 ∷ minus 1 0 ∷ minus 1 0 ∷ [])
    -- what the twelve leave open. A timed-out waiter is out of its line, and the next unit goes to the waiter behind it
    ∷ case
    (make 0 0 ∷ create 1 5 5 ∷ pend 0 1 ∷ create 2 9 5 ∷ pend 0 100000 ∷ tick ∷ outcome 1 ∷ post 0 1 ∷ outcome 2 ∷ [])
    (done 0 ∷ done 1 ∷ blocked 0 ∷ done 2 ∷ behind 1 0 ∷ done 1 ∷ minus 5 1 ∷ done 2 ∷ done 2 ∷ [])
    -- "Pend: with count above 0 takes one and the value is what is left"
    ∷ case (make 0 2 ∷ pend 0 0 ∷ pend 0 0 ∷ pend 0 0 ∷ []) (done 0 ∷ gives 1 0 ∷ done 0 ∷ minus 5 0 ∷ [])
    -- turns go round a second time as the first
    ∷ case
    (create 1 5 1 ∷ create 2 5 2 ∷ tick ∷ tick ∷ tick ∷ tick ∷ tick ∷ tick ∷ [])
    (done 1 ∷ done 1 ∷ done 2 ∷ done 2 ∷ done 1 ∷ done 2 ∷ done 2 ∷ done 1 ∷ [])
    -- Receive gives the mailbox's value, then those of the waiting senders in line order: priority 7 came first, priority 9 second
    ∷ case
    (create 1 5 5 ∷ create 2 7 5 ∷ send 1 0 40 ∷ send 1 100000 41 ∷ create 3 9 5 ∷ send 1 100000 42 ∷ receive 0 ∷ outcome 3 ∷ suspend 2 ∷ receive 0 ∷ [])
    (done 1 ∷ done 2 ∷ done 2 ∷ blocked 1 ∷ done 3 ∷ behind 1 1 ∷ gives 40 2 ∷ blocked 2 ∷ done 1 ∷ gives 41 3 ∷ [])
    -- order 8, in the place of document 01's Set: "Refusals: 23: −2, −1, −5; 24: −3, −1, −5; Init gets −5 in both"
    ∷ case
    (set_priority 0 32 ∷ set_priority 1 32 ∷ set_priority 1 31 ∷ set_priority 0 31 ∷ set_turn 0 0 ∷ set_turn 1 100000 ∷ set_turn 1 99999 ∷ set_turn 0 1 ∷ [])
    (minus 2 0 ∷ minus 2 0 ∷ minus 1 0 ∷ minus 5 0 ∷ minus 3 0 ∷ minus 3 0 ∷ minus 1 0 ∷ minus 5 0 ∷ [])
    -- "−8 for 3 and above 24", and for "a lane's turn" with "a stale priority" sent along
    ∷ case (create 1 5 2 ∷ ask 3 1 5 2 0 ∷ ask 25 0 0 0 0 ∷ ask 23 1 5 2 0 ∷ ask 24 1 5 2 0 ∷ []) (done 1 ∷ minus 8 1 ∷ minus 8 1 ∷ minus 8 1 ∷ minus 8 1 ∷ [])
    -- "a ready thread whose priority differs goes to the new tail with a full counter": 1 of its 2 ticks is spent before, and it runs after thread
    -- 2's whole turn
    ∷ case_holding
    (create 1 5 2 ∷ tick ∷ create 2 6 3 ∷ set_priority 1 6 ∷ tick ∷ tick ∷ tick ∷ [])
    (done 1 ∷ done 1 ∷ done 2 ∷ done 2 ∷ done 2 ∷ done 2 ∷ done 1 ∷ [])
    (held 1 12 (word_bytes 2) ∷ held_word (1 + 2 ^ 6) ∷ [])
    -- "the same priority changes nothing": place 1, and 1 tick left
    ∷ case_holding
    (create 1 5 2 ∷ create 2 5 3 ∷ tick ∷ set_priority 1 5 ∷ [])
    (done 1 ∷ done 1 ∷ done 1 ∷ done 1 ∷ [])
    (held 1 5 (1 ∷ []) ∷ held 1 12 (word_bytes 1) ∷ [])
    -- "a ready thread takes a full counter and keeps its place": the running thread, and one whose new turn is below what it had left
    ∷ case_holding
    (create 1 5 2 ∷ create 2 5 3 ∷ tick ∷ set_turn 1 4 ∷ set_turn 2 1 ∷ [])
    (done 1 ∷ done 1 ∷ done 1 ∷ done 1 ∷ done 1 ∷ [])
    (held 1 5 (1 ∷ []) ∷ held 1 8 (word_bytes 4 ++ word_bytes 4) ∷ held 2 5 (2 ∷ []) ∷ held 2 8 (word_bytes 1 ++ word_bytes 1) ∷ [])
    -- "otherwise only the turn changes", and only the priority: a thread that waits waits on, and then has both
    ∷ case_holding
    (create 1 5 2 ∷ delay 9 ∷ set_turn 1 4 ∷ set_priority 1 8 ∷ [])
    (done 1 ∷ blocked 0 ∷ done 0 ∷ done 0 ∷ [])
    (held 1 1 (8 ∷ []) ∷ held 1 8 (word_bytes 4 ++ word_bytes 9) ∷ held_word 1 ∷ [])
    ∷ case_holding
    (create 1 5 2 ∷ delay 1 ∷ set_turn 1 4 ∷ set_priority 1 8 ∷ tick ∷ [])
    (done 1 ∷ blocked 0 ∷ done 0 ∷ done 0 ∷ done 1 ∷ [])
    (held 1 12 (word_bytes 4) ∷ held_word (1 + 2 ^ 8) ∷ [])
    -- the running thread leaves its line for a lower one: another runs at once, and under lock it runs on
    ∷ case (create 1 5 2 ∷ create 2 4 3 ∷ set_priority 1 3 ∷ []) (done 1 ∷ done 1 ∷ done 2 ∷ [])
    ∷ case (create 1 5 2 ∷ create 2 4 3 ∷ lock_on ∷ set_priority 1 3 ∷ unlock ∷ []) (done 1 ∷ done 1 ∷ done 1 ∷ done 1 ∷ done 2 ∷ [])
    -- order 1: "the number of threads already in that line". Three wait, the second of them suspended: the fourth comer gets 3. The first is
    -- served, and comes again: 3 again
    ∷ case
    (make 0 0 ∷ create 1 5 5 ∷ pend 0 100000 ∷ create 2 5 5 ∷ pend 0 100000 ∷ create 3 5 5 ∷ pend 0 100000 ∷ suspend 2 ∷ create 4 5 5 ∷ pend 0 100000 ∷ post 0 1 ∷ pend 0 9 ∷ [])
    (done 0 ∷ done 1 ∷ blocked 0 ∷ done 2 ∷ behind 1 0 ∷ done 3 ∷ behind 2 0 ∷ done 0 ∷ done 4 ∷ behind 3 0 ∷ done 1 ∷ behind 3 0 ∷ [])
    -- the same of senders to the mailbox of thread 1
    ∷ case
    (create 1 5 5 ∷ create 2 7 5 ∷ send 1 0 40 ∷ send 1 100000 41 ∷ create 3 7 5 ∷ send 1 100000 42 ∷ create 4 7 5 ∷ send 1 100000 43 ∷ suspend 3 ∷ create 5 7 5 ∷ send 1 100000 44 ∷ receive 0 ∷ send 1 9 45 ∷ [])
    (done 1 ∷ done 2 ∷ done 2 ∷ blocked 1 ∷ done 3 ∷ behind 1 1 ∷ done 4 ∷ behind 2 1 ∷ done 1 ∷ done 5 ∷ behind 3 1 ∷ gives 40 2 ∷ behind 3 1 ∷ [])
    -- "Delay and Receive keep value 0", whoever else is in a delay or receives; and an outcome that is 1 keeps it
    ∷ case
    (create 1 5 5 ∷ delay 9 ∷ create 2 5 5 ∷ delay 9 ∷ create 3 5 5 ∷ receive 9 ∷ create 4 5 5 ∷ receive 9 ∷ outcome 2 ∷ [])
    (done 1 ∷ blocked 0 ∷ done 2 ∷ blocked 0 ∷ done 3 ∷ blocked 0 ∷ done 4 ∷ blocked 0 ∷ blocked 0 ∷ [])
    -- a line is its object's own: waiters on semaphore 1 and on semaphore 2, and senders to thread 1, are three lines
    ∷ case
    (make 1 0 ∷ make 2 0 ∷ create 1 5 5 ∷ pend 1 9 ∷ create 2 5 5 ∷ pend 2 9 ∷ create 3 5 5 ∷ send 1 0 40 ∷ send 1 9 41 ∷ create 4 5 5 ∷ pend 2 9 ∷ outcome 4 ∷ [])
    (done 0 ∷ done 0 ∷ done 1 ∷ blocked 0 ∷ done 2 ∷ blocked 0 ∷ done 3 ∷ done 3 ∷ blocked 0 ∷ done 4 ∷ behind 1 0 ∷ blocked 0 ∷ [])
    -- order 4: "the count plus the units left over after the waiters are served is above 99". Three wait: Post 103 is refused, and Post 102
    -- leaves 99; a Pend takes one of them, and says that 98 are left
    ∷ case (three ++ (post 0 103 ∷ post 0 102 ∷ pend 0 0 ∷ [])) (three_wait ++ (minus 5 0 ∷ done 1 ∷ gives 98 1 ∷ []))
    -- "a post of 100 with three waiting gets −5, though only 97 would be left": here it leaves 97
    ∷ case (three ++ (post 0 100 ∷ pend 0 0 ∷ [])) (three_wait ++ (done 1 ∷ gives 96 1 ∷ []))
    -- the same where the second of the three is suspended: it is served as well
    ∷ case
    (three ++ (suspend 2 ∷ post 0 103 ∷ post 0 102 ∷ outcome 2 ∷ pend 0 0 ∷ []))
    (three_wait ++ (done 0 ∷ minus 5 0 ∷ done 1 ∷ done 1 ∷ gives 98 1 ∷ []))
    -- "from threads and interrupts"; under lock an interrupt's is refused as before
    ∷ case
    (three ++ (suspend 2 ∷ lock_on ∷ post_from_interrupt 0 100 ∷ unlock ∷ post_from_interrupt 0 103 ∷ post_from_interrupt 0 100 ∷ pend 0 0 ∷ []))
    (three_wait ++ (done 0 ∷ done 0 ∷ minus 5 0 ∷ done 0 ∷ minus 5 0 ∷ done 1 ∷ gives 96 1 ∷ []))
    -- no sum wraps: with count 1 and nobody waiting, the largest number is too many
    ∷ case (make 0 1 ∷ post 0 4294967295 ∷ post 0 99 ∷ post 0 98 ∷ pend 0 0 ∷ []) (done 0 ∷ minus 5 0 ∷ minus 5 0 ∷ done 0 ∷ gives 98 0 ∷ [])
    -- order 6: "A fresh table now holds 1 there."
    ∷ case_holding [] [] (held_word 1 ∷ [])
    -- "bit p set exactly when ready line p has a member": two of priority 31, of whom one waits; the other then waits too
    ∷ case_holding (create 1 31 5 ∷ create 2 31 5 ∷ delay 9 ∷ []) (done 1 ∷ done 1 ∷ blocked 2 ∷ []) (held_word (1 + 2 ^ 31) ∷ [])
    ∷ case_holding (create 1 31 5 ∷ create 2 31 5 ∷ delay 9 ∷ delay 9 ∷ []) (done 1 ∷ done 1 ∷ blocked 2 ∷ blocked 0 ∷ []) (held_word 1 ∷ [])
    -- a change of priority takes the bit along; a suspended thread has none, whatever its priority becomes
    ∷ case_holding (create 1 7 5 ∷ set_priority 1 8 ∷ []) (done 1 ∷ done 1 ∷ []) (held_word (1 + 2 ^ 8) ∷ [])
    ∷ case_holding (create 1 7 5 ∷ suspend 1 ∷ set_priority 1 8 ∷ []) (done 1 ∷ done 0 ∷ done 0 ∷ []) (held_word 1 ∷ [])
    -- a wait that ends by time brings the bit back
    ∷ case_holding (create 1 7 5 ∷ delay 1 ∷ tick ∷ []) (done 1 ∷ blocked 0 ∷ done 1 ∷ []) (held_word (1 + 2 ^ 7) ∷ [])
    -- order 7: "takes a number from 1 to 99,999 and does that many ticks"; 22 with a number asks nothing
    ∷ case (ticks 0 ∷ ticks 100000 ∷ ask 22 0 0 1 0 ∷ []) (minus 3 0 ∷ minus 3 0 ∷ minus 8 0 ∷ [])
    -- "the least number of ticks after which, if only ticks come, some timed wait ends": a delay of 3 has 1 left after 2 ticks
    ∷ case
    (create 1 5 2 ∷ delay 3 ∷ ticks 2 ∷ nearest ∷ ticks 1 ∷ outcome 1 ∷ nearest ∷ [])
    (done 1 ∷ blocked 0 ∷ done 0 ∷ gives 1 0 ∷ done 1 ∷ done 1 ∷ done 1 ∷ [])
    -- "and 0 if there is none": nobody waits, or one forever; a suspended one's wait ends too
    ∷ case
    (nearest ∷ make 0 0 ∷ create 1 5 5 ∷ pend 0 100000 ∷ nearest ∷ create 2 5 5 ∷ delay 7 ∷ suspend 2 ∷ nearest ∷ create 3 5 5 ∷ pend 0 4 ∷ nearest ∷ [])
    (done 0 ∷ done 0 ∷ done 1 ∷ blocked 0 ∷ done 0 ∷ done 2 ∷ blocked 0 ∷ done 0 ∷ gives 7 0 ∷ done 3 ∷ behind 1 0 ∷ gives 4 0 ∷ [])
    -- "table and answer equal those of that many single ones": 5 ticks are a round of turns of 2 and 3
    ∷ case_holding
    (create 1 5 2 ∷ create 2 5 3 ∷ ticks 1 ∷ ticks 5 ∷ ticks 1 ∷ [])
    (done 1 ∷ done 1 ∷ done 1 ∷ done 1 ∷ done 2 ∷ [])
    (held 1 12 (word_bytes 2) ∷ held 2 12 (word_bytes 3) ∷ [])
    -- a wait ends inside: Init is charged the ticks before, and the thread that outranks it those behind
    ∷ case_holding (create 1 5 5 ∷ delay 2 ∷ ticks 4 ∷ []) (done 1 ∷ blocked 0 ∷ done 1 ∷ []) (held 0 12 (word_bytes 8) ∷ held 1 12 (word_bytes 3) ∷ [])
    -- under lock the waits count down, and nobody is charged
    ∷ case_holding
    (create 1 5 2 ∷ delay 3 ∷ lock_on ∷ ticks 3 ∷ outcome 1 ∷ unlock ∷ [])
    (done 1 ∷ blocked 0 ∷ done 0 ∷ done 0 ∷ done 0 ∷ done 1 ∷ [])
    (held 0 12 (word_bytes 10) ∷ held 1 12 (word_bytes 2) ∷ [])
    ∷ []

-- WHAT IS GIVEN, WHAT IS EXPECTED

pub record Shown : Type 0 where
  pub lines : List TraceLine
  pub bytes : List (List ℕ)

unfoldable pub joined : List (List ℕ) → List ℕ
joined [] = []
joined (r ∷ rs) = r ++ joined rs

unfoldable pub bytes_at : List ℕ → Held → List ℕ
bytes_at t h = take (length h.bytes) (drop (h.index * record_length + h.offset) t)

unfoldable pub given : Case → Shown
given c =
    let after = table_after printer (fresh_table printer) (map cleanly c.asked) in
    record { lines = trace printer (joined c.asked ++ c.left_over); bytes = map (bytes_at after) c.holds }

unfoldable pub numbered : ℕ → List Seen → ℕ → List TraceLine
numbered n [] zero = []
numbered n [] (suc k) = short (suc k) ∷ []
numbered n (a ∷ rest) k = served n a.code a.value a.running ∷ numbered (suc n) rest k

unfoldable pub held_bytes : Held → List ℕ
held_bytes h = h.bytes

unfoldable pub expected : Case → Shown
expected c = record { lines = numbered 0 c.seen (length c.left_over); bytes = map held_bytes c.holds }

-- every case gives what document 01 expects of it
abbrev pub Cases : Type 0
Cases = map given table ≡ map expected table
