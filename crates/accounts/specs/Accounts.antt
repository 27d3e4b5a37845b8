-- What serving some records makes of the accounts of all threads.
use Rattle.std.specs.Prelude.{if◌then◌else◌, List, [], ◌∷◌, map, ℕ, suc, ◌+◌, ◌-◌, ◌/◌, ◌≤◌, ◌<◌, min, eqb, set}
use Rattle.rules.specs.Board.{printer}
use Rattle.rules.specs.State.{State}
use Rattle.rules.specs.Requests.{request_length}
use Rattle.rules.specs.Door.{Handed, door}
use Rattle.rules.specs.Trace.{records, clean_area, cleanly}
use Rattle.fairness.specs.Run.{Event, Deed, tick, yield, other, set_priority, set_turn, create, sleep}
use Rattle.fairness.specs.Doors.{counted_as, run_of}
use Rattle.leaps.specs.Ticks.{Leap}
use Rattle.leaps.specs.Charges.{charges_of}
use Rattle.lanes.specs.Lag.{account_from}
use Rattle.lanes.specs.Report.{most_records, most_charges}
use Rattle.lanes.specs.Kept.{of}

-- the accounts after a run; the first of them is thread i's
unfoldable pub accounts_from : ℕ → List ℕ → List Event → List ℕ
accounts_from i [] run = []
accounts_from i (n ∷ ns) run = account_from i n run ∷ accounts_from (suc i) ns run

-- what an accepted deed makes of them, where thread `ran` was running and the lock count was `lock`
abbrev pub entered : List ℕ → Deed → ℕ → ℕ → List ℕ
entered accounts tick ran lock = if eqb lock 0 then set accounts ran (of accounts ran + 1) else accounts
entered accounts (create i) ran lock = set accounts i 0
entered accounts yield ran lock = accounts
entered accounts (set_priority i) ran lock = accounts
entered accounts (set_turn i) ran lock = accounts
entered accounts other ran lock = accounts
-- ticks at once are entered by the leaps that they are
entered accounts (sleep n) ran lock = accounts

-- TICKS AT ONCE

-- the accounts with so much more for each thread; the first of them is thread i's
unfoldable pub more : (ℕ → ℕ) → ℕ → List ℕ → List ℕ
more charged i [] = []
more charged i (n ∷ ns) = (n + charged i) ∷ more charged (suc i) ns

-- what a leap from s makes of them
abbrev pub credited : State → Leap → List ℕ → List ℕ
credited s l accounts = more (charges_of s l) 0 accounts

-- with so much more for each thread they are within the most that the report reckons with
abbrev pub Fits : (ℕ → ℕ) → List ℕ → Type 0
Fits charged accounts = (i : ℕ) → of accounts i + charged i ≤ most_charges

-- SOME RECORDS

-- the events that the record counts as, where it finds table t and is handed with an area of 8 bytes
abbrev pub events_here : List ℕ → List ℕ → List Event
events_here t r = counted_as printer (door printer) t (cleanly r) (door printer t r clean_area)

-- the first k records of some bytes, each handed with an area of 8 bytes
abbrev pub handed : ℕ → List ℕ → List Handed
handed k bytes = map cleanly (records k bytes)

-- their events
abbrev pub events_of : List ℕ → ℕ → List ℕ → List Event
events_of t k bytes = run_of printer (door printer) t (handed k bytes)

-- how many of n bytes' records are served after `number` others: "If whole records are left after 1,000,000", they are not
abbrev pub servable : ℕ → ℕ → ℕ
servable number n = min (n / request_length) (most_records - number)

-- a deed finds the account that it changes among n
abbrev pub Finds : ℕ → Deed → ℕ → Type 0
Finds n tick ran = ran < n
Finds n (create i) ran = i < n
Finds n yield ran = Unit {0}
Finds n (set_priority i) ran = Unit {0}
Finds n (set_turn i) ran = Unit {0}
Finds n other ran = Unit {0}
Finds n (sleep m) ran = Unit {0}
