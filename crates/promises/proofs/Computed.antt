-- The closed runs of demand 3 and of the incident give their figures by computation. Assumes nothing.
use mathlib.Core.Path.{refl}
use Rattle.rules.proofs.Computing.{behind_the_door}
use Rattle.request.specs.Written.{written}
use Rattle.fairness.specs.Doors.{single_ticks, run_of}
use Rattle.promises.specs.Figures.{shares_from, figures}
use Rattle.promises.specs.Rounds.{start, broken_into, asleep, slept_through, woken_inside, table, given, expected, Rounds, RefusedTicks}
use Rattle.promises.specs.Incident.{sends_back, lanes, again, cut_after_tick, cut_at_once, counted, OnlyTheOddSeats}

pub record Computed : Type 0 where
  pub rounds : Rounds
  pub refused : RefusedTicks
  pub seats : OnlyTheOddSeats

pub computed : Computed
unfolding behind_the_door written single_ticks run_of shares_from figures start broken_into asleep slept_through woken_inside table given expected sends_back lanes again cut_after_tick cut_at_once counted
computed = record {
  rounds = refl;
  refused = refl;
  seats = record { behind = refl; nothing = refl; round = refl; ruled = refl; ruled_at_once = refl; ruled_round = refl };
}
