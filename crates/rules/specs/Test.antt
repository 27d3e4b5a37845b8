-- Soundness as a test that computes. `Sound` says the same for a reader.
use Rattle.std.specs.Prelude.{if◌then◌else◌, Bool, true, false, not, ◌&&◌, ◌||◌, List, ℕ, eqb, leb, ltb, length}
use Rattle.rules.specs.Basic.{count, all, all_below, same_bytes}
use Rattle.rules.specs.Board.{Board, table_length, top_priority, most_ticks, most_count, most_lock}
use Rattle.rules.specs.State.{State, at, sem_at, caller, counter_of, waiting, sending, is_ready}
use Rattle.rules.specs.Lines.{Line, nowhere, ready, waiters, senders, line, in_line, line_length}
use Rattle.rules.specs.Table.{encode, decode}
use Rattle.rules.specs.declared.Thread.{Thread}
use Rattle.rules.specs.declared.Sem.{Sem}
use Rattle.rules.specs.declared.Wait.{Wait}
use Rattle.rules.specs.declared.Wait.TheVariants.{Nothing, Delay, Receive, Send, Semaphore}
use Rattle.rules.specs.declared.Outcome.{Outcome}
use Rattle.rules.specs.declared.Outcome.TheVariants.{Done, NoneYet, Failed}

abbrev pub is_done : Outcome → Bool
is_done Done = true
is_done NoneYet = false
is_done Failed = false

abbrev pub is_none_yet : Outcome → Bool
is_none_yet Done = false
is_none_yet NoneYet = true
is_none_yet Failed = false

abbrev pub is_nowhere : Line → Bool
is_nowhere nowhere = true
is_nowhere (ready p) = false
is_nowhere (waiters k) = false
is_nowhere (senders i) = false

-- at place q of line l
abbrev pub stands_at : Line → ℕ → Thread → Bool
stands_at l q t = in_line l t && eqb t.place q

-- in no line the place is 0; in a line of n it is one of 1 to n, and nobody else has it
unfoldable pub place_ok : List Thread → Thread → Bool
place_ok ts t =
    if is_nowhere (line t) then eqb t.place 0 else
    leb 1 t.place && leb t.place (line_length (line t) ts) && eqb (count (stands_at (line t) t.place) ts) 1

-- a record that is not in use
unfoldable pub free_ok : Thread → Bool
free_ok t =
    eqb t.priority 0 && not t.suspended && not (waiting t.wait) && eqb (counter_of t.wait) 0
    && eqb t.place 0 && not t.full && is_done t.outcome && eqb t.turn 0 && eqb t.value 0 && eqb t.parcel 0

-- the counter of a thread in use: its wait, whether it is suspended, its place and its turn
abbrev pub counter_ok : Wait → Bool → ℕ → ℕ → Bool
counter_ok (Nothing n) suspended q turn =
    if suspended then eqb n 0 else
    if eqb q 1 then leb 1 n && leb n turn else eqb n turn
counter_ok (Delay n) suspended q turn = leb 1 n && leb n most_ticks
counter_ok (Receive n) suspended q turn = leb n most_ticks
counter_ok (Send to n) suspended q turn = leb n most_ticks
counter_ok (Semaphore on n) suspended q turn = leb n most_ticks

-- the wait object of thread i, and a receiver's mailbox
abbrev pub object_ok : State → ℕ → Wait → Bool → Bool
object_ok s i (Nothing n) full = true
object_ok s i (Delay n) full = true
object_ok s i (Receive n) full = not full
object_ok s i (Send to n) full = not (eqb i to) && (at s.threads to).used && (at s.threads to).full
object_ok s i (Semaphore on n) full = (sem_at s.sems on).used && eqb (sem_at s.sems on).count 0

-- a record that is in use
unfoldable pub used_ok : State → ℕ → Thread → Bool
used_ok s i t =
    leb t.priority top_priority && (leb 1 t.turn && leb t.turn most_ticks)
    && counter_ok t.wait t.suspended t.place t.turn && object_ok s i t.wait t.full
    && (t.full || eqb t.value 0) && (not (waiting t.wait) || is_none_yet t.outcome)
    && (sending t.wait || is_done t.outcome || eqb t.parcel 0)

unfoldable pub thread_ok : State → ℕ → Bool
thread_ok s i = let t = at s.threads i in place_ok s.threads t && (if t.used then used_ok s i t else free_ok t)

unfoldable pub sem_ok : Sem → Bool
sem_ok e = leb e.count most_count && (e.used || eqb e.count 0)

unfoldable pub init_ok : Thread → Bool
init_ok t = is_ready t && eqb t.priority 0

abbrev pub not_above : ℕ → Thread → Bool
not_above p t = not (is_ready t) || leb t.priority p

unfoldable pub kernel_ok : State → Bool
kernel_ok s =
    leb s.lock most_lock && is_ready (caller s)
    && (ltb 0 s.lock || (eqb (caller s).place 1 && all (not_above (caller s).priority) s.threads))

unfoldable pub sound : State → Bool
sound s =
    all_below (length s.threads) (thread_ok s) && all sem_ok s.sems && init_ok (at s.threads 0) && kernel_ok s

unfoldable pub sound_table : Board → List ℕ → Bool
sound_table b t = eqb (length t) (table_length b) && same_bytes t (encode (decode b t)) && sound (decode b t)
