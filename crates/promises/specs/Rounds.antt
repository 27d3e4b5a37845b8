-- Demand 3 at closed runs, from a table where threads 1 and 2 are ready at rank 5 with turns 2 and 3: a run that meets the premises while
-- a higher rank breaks in, the lock is on and ticks are refused; one of order 7, whose part begins and ends inside an operation 21; and a run
-- each with a yield, a turn that is set and a set that changes, the last also inside an operation 21, in which the claim fails. Order 8:
-- one with a priority that is set and stays the same, in which it does not.
use Rattle.std.specs.Prelude.{Bool, true, false, ◌≡◌, List, [], ◌∷◌, ◌++◌, map, ℕ, negsuc, length, replicate, take, drop}
use Rattle.rules.specs.Board.{printer}
use Rattle.rules.specs.Requests.{tick_record}
use Rattle.rules.specs.Trace.{cleanly}
use Rattle.rules.specs.Door.{door, fresh_table, Handed, table_after}
use Rattle.rules.specs.declared.Request.{Request}
use Rattle.rules.specs.declared.Request.TheVariants.{Yield, Create, Delete, Suspend, Resume, Delay, Lock, Unlock, Tick, Ticks, SetPriority, SetTurn}
use Rattle.request.specs.Written.{written}
use Rattle.fairness.specs.Doors.{run_of}
use Rattle.promises.specs.Figures.{asks, Run, Share, share, Figures, figures, own_turns}

unfoldable pub start : List ℕ
start = table_after printer (fresh_table printer) (asks (Create 1 5 2 ∷ Create 2 5 3 ∷ []))

-- a tick that gets −8 for an object that it has no use for, and one that gets −7 for an area of 7 bytes
abbrev bad_record : Handed
bad_record = cleanly (19 ∷ 1 ∷ replicate 10 0)

abbrev bad_area : Handed
bad_area = record { request = tick_record; area = replicate 7 0 }

-- Thread 3 breaks in at rank 9, is charged two ticks and goes; a tick under lock and the two refused ones are charged to nobody.
-- All is counted but the first tick, so that the part begins in the middle of thread 1's turn.
unfoldable pub broken_into : Run
broken_into = record {
  table = start;
  handed =
      asks (Tick ∷ Create 3 9 1 ∷ Tick ∷ Tick ∷ Delete 3 ∷ Lock ∷ Tick ∷ Unlock ∷ [])
      ++ (bad_record ∷ bad_area ∷ asks (Tick ∷ Tick ∷ Tick ∷ Tick ∷ Tick ∷ []));
  from = 1;
  steps = 14;
}

-- the same two threads, and thread 3, of this rank and a turn of 2, which has delayed itself for 2 ticks before
unfoldable pub asleep : ℕ → List ℕ
asleep rank = table_after printer (fresh_table printer) (asks (Create 3 rank 2 ∷ Delay 2 ∷ Create 1 5 2 ∷ Create 2 5 3 ∷ []))

-- an operation 21 that gets −7 for an area of 7 bytes
abbrev bad_sleep : Handed
bad_sleep = record { request = written (Ticks 3); area = replicate 7 0 }

-- Order 7: "a part may begin or end between them." Inside an operation 21 of 4 ticks thread 3 wakes, breaks in at rank 9 and is charged two; it
-- delays itself again; an operation 21 that is refused counts as no tick; and of one of 5 ticks all but the last are counted, as of the first
-- all but the first.
unfoldable pub slept_through : Run
slept_through = record { table = asleep 9; handed = asks (Ticks 4 ∷ Delay 9 ∷ []) ++ (bad_sleep ∷ asks (Ticks 5 ∷ [])); from = 1; steps = 9 }

-- Order 7: "its premise is read after each". Inside an operation 21 of 8 ticks thread 3 wakes and joins the rank; the last five are counted.
unfoldable pub woken_inside : Run
woken_inside = record { table = asleep 5; handed = asks (Ticks 8 ∷ []); from = 3; steps = 5 }

-- a run that is counted as a whole
abbrev whole : List Request → Run
whole rs = record { table = start; handed = asks rs; from = 0; steps = length rs }

pub record Case : Type 0 where
  pub run : Run
  pub gives : Figures

-- 5 ticks are charged to the rank, as many as the turns sum to
abbrev case : Run → Bool → Bool → List Share → Case
case r same quiet ss = record { run = r; gives = record { sound = true; same = same; quiet = quiet; charged = 5; turns = 5; shares = ss } }

-- a run; whether the set is the same after each step, and undisturbed; each thread, its turn and the ticks charged to it
unfoldable pub table : List Case
table =
    case broken_into true true (share 1 2 2 ∷ share 2 3 3 ∷ [])
    ∷ case slept_through true true (share 1 2 2 ∷ share 2 3 3 ∷ [])
    -- thread 2 yields after a tick
    ∷ case (whole (Tick ∷ Tick ∷ Tick ∷ Yield ∷ Tick ∷ Tick ∷ [])) true false (share 1 2 4 ∷ share 2 3 1 ∷ [])
    -- thread 1 is given the turn that it has
    ∷ case (whole (Tick ∷ SetTurn 1 2 ∷ Tick ∷ Tick ∷ Tick ∷ Tick ∷ [])) true false (share 1 2 3 ∷ share 2 3 2 ∷ [])
    -- thread 1 is given the priority that it has: the premise names operation 23 and leaves this run out, in which the shares are right
    ∷ case (whole (Tick ∷ SetPriority 1 5 ∷ Tick ∷ Tick ∷ Tick ∷ Tick ∷ [])) true false (share 1 2 2 ∷ share 2 3 3 ∷ [])
    -- thread 2 is suspended and resumed: the set is the same in the end, but not after each step
    ∷ case (whole (Tick ∷ Tick ∷ Tick ∷ Suspend 2 ∷ Resume 2 ∷ Tick ∷ Tick ∷ [])) false true (share 1 2 4 ∷ share 2 3 1 ∷ [])
    -- thread 3 joins them
    ∷ case woken_inside false true (share 1 2 2 ∷ share 2 3 2 ∷ [])
    ∷ []

unfoldable pub given : Case → Figures
given c = figures (door printer) 5 c.run

unfoldable pub expected : Case → Figures
expected c = c.gives

-- every run gives these figures
abbrev pub Rounds : Type 0
Rounds = map given table ≡ map expected table

-- the two ticks of the first run are refused as said
abbrev pub RefusedTicks : Type 0
RefusedTicks = map (λ e. e.code) (take 2 (drop 8 (run_of printer (door printer) start broken_into.handed))) ≡ negsuc 7 ∷ negsuc 6 ∷ []

-- demand 3, as a theorem, says of the first two runs what counting says: each thread is charged its own turn
abbrev pub Applied : Type 0
Applied = (own_turns (figures (door printer) 5 broken_into) ≡ true) × (own_turns (figures (door printer) 5 slept_through) ≡ true)
