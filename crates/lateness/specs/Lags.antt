-- The lane report between whole rounds. Order 5's claim is that a lag is 0 "Where demand 3 covers the run from the creation of the last of them,
-- and all earlier charges to them are zero, and the count is a whole number of rounds". Here the count is any: a lag is bounded.
-- The crate `lanes` says what a lag is, and its distance from 0 (specs/Lag.antt).
use Rattle.std.specs.Prelude.{true, false, ◌≡◌, ℕ, ◌≤◌, ℤ, take, drop}
use mathlib.Core.List.{List, [], ◌∷◌, ◌++◌, map, flatten}
use Prim.Native.String.{String}
use Rattle.rules.specs.Basic.{all}
use Rattle.rules.specs.Board.{Board, printer}
use Rattle.rules.specs.State.{at}
use Rattle.rules.specs.Table.{decode}
use Rattle.rules.specs.Sound.{SoundTable}
use Rattle.rules.specs.Door.{door, fresh_table, Handed}
use Rattle.rules.specs.declared.Request.{Request}
use Rattle.rules.specs.declared.Request.TheVariants.{Create, Tick}
use Rattle.request.specs.Written.{written}
use Rattle.text.specs.Text.{ascii}
use Rattle.fairness.specs.Run.{Event, ready_at, end_of, same_set, undisturbed, sum_turns}
use Rattle.fairness.specs.Doors.{run_of}
use Rattle.lanes.specs.Lag.{account, lag, distance}
use Rattle.lanes.specs.Report.{report}
use Rattle.promises.specs.Lanes.{Lane, Reckoned, reckoned}
use Rattle.promises.specs.Incident.{sends_back}
use Rattle.lateness.specs.Stands.{furthest, ahead, behind}
use Rattle.lateness.specs.Reached.{printers_lanes, one_turn}

-- of a run from table t, whose first `made` steps end with the creation of the last of rank p's ready threads; any other point of the run does
-- as well, if they have been charged nothing by then
abbrev pub LagBoundIn : Board → List ℕ → List Event → Type 0
LagBoundIn b t run =
    (p made : ℕ) →
    let part = drop made run in
    let end = end_of (decode b t) run in
    -- "demand 3 covers the run from the creation of the last of them"
    all (same_set p) part ≡ true → all (undisturbed p) part ≡ true
    -- "all earlier charges to them are zero"
    → ((i : ℕ) → ready_at p end i ≡ true → account (take made run) i ≡ 0)
    -- each of their lags, as the report prints it, is no further from 0 than `Near` lets a thread be from its share
    → (i : ℕ) → ready_at p end i ≡ true → distance (lag (account run) end i) ≤ furthest (sum_turns p end.threads) (at end.threads i).turn

-- over bytes and the door, on a board of any number of threads, from any sound table; and from a fresh one
pub record LagBounds : Type 0 where
  pub from : (b : Board) (t : List ℕ) (hs : List Handed) → SoundTable b t → LagBoundIn b t (run_of b (door b) t hs)
  pub fresh : (hs : List Handed) → LagBoundIn printer (fresh_table printer) (run_of printer (door printer) (fresh_table printer) hs)

-- REACHED: two lanes after the first one's turn. The premises hold, the count is no whole number of rounds, and both lags are as far from 0 as
-- can be: of the printer's own lanes by 8 * (16 − 8), of document 01's example by 2 * (5 − 2).
abbrev lane : ℕ → ℕ → ℤ → Lane
lane i n z = record { thread = i; charged = n; lags = z }

abbrev covered : List Lane → Reckoned
covered ls = record { same = true; quiet = true; none = true; whole = false; lanes = ls }

-- the report of requests from a fresh table on: of Init, which is charged nothing, and of the lanes
abbrev reads : List Request → String → String → Type 0
reads rs l r = report printer (flatten (map written rs)) ≡ ascii "0 0 0\n" ++ ascii l ++ ascii r

pub record LagReached : Type 0 where
  pub printers : reckoned (record { before = printers_lanes; after = one_turn }) ≡ covered (lane 1 8 (ahead 64) ∷ lane 2 0 (behind 64) ∷ [])
  pub printers_report : reads (printers_lanes ++ one_turn) "1 8 64\n" "2 0 -64\n"
  -- the example's first four records
  pub example : reckoned (record { before = Create 1 5 2 ∷ Create 2 5 3 ∷ []; after = Tick ∷ Tick ∷ [] }) ≡ covered (lane 1 2 (ahead 6) ∷ lane 2 0 (behind 6) ∷ [])
  pub example_report : reads (Create 1 5 2 ∷ Create 2 5 3 ∷ Tick ∷ Tick ∷ []) "1 2 6\n" "2 0 -6\n"

-- BROKEN BY THE INCIDENT: of the runs in which its report reads "1 0 -16" and "2 8 16" (`OddSeatsReported` of the crate `promises`), with lanes of
-- turns 2 and 2, whose lags should be no further from 0 than 2 * (4 − 2)
abbrev pub LagsBroken : Type 0
LagsBroken = ((hs : List Handed) → LagBoundIn printer (fresh_table printer) (run_of printer sends_back (fresh_table printer) hs)) → ⊥
