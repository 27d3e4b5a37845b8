-- No lag after whole rounds: a run through the door is a run by the rules, and there each lane has its share. Assumes nothing.
use mathlib.Core.Path.{◌≡◌, refl}
use mathlib.Core.List.{List, ◌++◌, flatten}
use Prim.Native.Nat.{ℕ}
use lib.ListN.{take, drop, take-append-drop}
use Rattle.rules.proofs.Computing.{behind_the_door}
use Rattle.rules.specs.Board.{Board, printer}
use Rattle.rules.specs.Table.{decode}
use Rattle.rules.specs.Sound.{SoundTable}
use Rattle.rules.specs.Door.{door, fresh_table, Handed}
use Rattle.rules.specs.Trace.{records}
use Rattle.laws.proofs.Tested.{tested_table, fresh_sound}
use Rattle.request.specs.Written.{written}
use Rattle.text.specs.Text.{digits, decimal}
use Rattle.fairness.specs.Doors.{single_ticks, run_of}
use Rattle.fairness.proofs.Doors.{run_by_rules}
use Rattle.lanes.specs.Lag.{account_from, sum_over, lag_of, lag}
use Rattle.lanes.specs.Report.{lane_lines, report_on}
use Rattle.lanes.proofs.Lag.{no_lag}
use Rattle.promises.specs.Lanes.{NoLagIn, NoLags, lanes_from, reckoned, LagsReckoned}
use Rattle.promises.specs.Incident.{sends_back, again, cut_after_tick, cut_at_once, reported, OddSeatsReported}
use Rattle.promises.proofs.Third.{all_steady}

none : (b : Board) (t : List ℕ) (hs : List Handed) → SoundTable b t → NoLagIn b t (run_of b (door b) t hs)
none b t hs σ p made k same quiet earlier whole i m =
    let run = run_of b (door b) t hs in
    let parts : take made run ++ drop made run ≡ run = take-append-drop made run in
    rw parts at (no_lag p k (decode b t) (take made run) (drop made run) σ.state (rw parts (run_by_rules b t hs)) (all_steady p (drop made run) same quiet)
    (rw parts earlier) (rw parts whole) i (rw parts m))

pub no_lags : NoLags
no_lags = record { from = none; fresh = λ hs. none printer (fresh_table printer) hs ((tested_table printer (fresh_table printer)).0 fresh_sound) }

-- BY COMPUTATION

pub lags_reckoned : LagsReckoned
unfolding behind_the_door written single_ticks run_of account_from sum_over lag_of lag lanes_from reckoned
lags_reckoned = record {
  one_round = refl;
  three_rounds = refl;
  equal_rounds = refl;
  half_round = refl;
  charged_before = refl;
  yielded = refl;
  turn_set = refl;
  suspended = refl;
}

pub odd_seats_reported : OddSeatsReported
unfolding behind_the_door written records single_ticks run_of account_from sum_over lag_of lag lane_lines report_on digits decimal sends_back again cut_after_tick cut_at_once reported flatten
odd_seats_reported = record { behind = refl; nothing = refl; ruled = refl; ruled_at_once = refl }
