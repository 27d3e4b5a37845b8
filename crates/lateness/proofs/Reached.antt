-- The closed runs give their figures by computation. A door that kept a sharper bound would keep it in the run that reaches the bound; the rules'
-- door keeps the bounds themselves, and so in each run whose figures meet the premises. Assumes nothing.
use mathlib.Core.Path.{refl}
use native.Mathlib.Omega.{arith}
use Rattle.rules.proofs.Computing.{behind_the_door}
use Rattle.rules.specs.Board.{printer}
use Rattle.rules.specs.Door.{door}
use Rattle.request.specs.Written.{written}
use Rattle.fairness.specs.Doors.{single_ticks, run_of}
use Rattle.fairness.specs.Lateness.{Near, InTime, Even}
use Rattle.promises.specs.Figures.{shares_from, figures}
use Rattle.promises.specs.Rounds.{start}
use Rattle.promises.specs.Incident.{lanes}
use Rattle.lateness.specs.Reached.{eight_and_eight, two_and_two, two_and_three, ruled, Reached, NearerAhead, NearerBehind, Sooner, EvenerAhead, EvenerBehind, Sharp, Applied}
use Rattle.lateness.proofs.Moments.{never_far, never_late, equal_lanes}
use Rattle.lateness.proofs.Stands.{holds_in, holds_of}

pub reached : Reached
unfolding behind_the_door written single_ticks run_of shares_from figures start lanes eight_and_eight two_and_two two_and_three ruled
reached = record { printers = refl; first = refl; unequal = refl; second = refl; again = refl }

pub sharp : Sharp
unfolding ruled
sharp = record {
  ahead = λ kept. omega (arith, (holds_of NearerAhead (door printer) eight_and_eight reached.printers kept).0 (omega arith));
  behind = λ kept. omega (arith, (holds_of NearerBehind (door printer) eight_and_eight reached.printers kept).1.0 (omega arith));
  late = λ kept. omega (arith, (holds_of Sooner (door printer) eight_and_eight reached.printers kept).1.0 (omega arith) refl);
  even_ahead = λ kept. omega (arith, (holds_of EvenerAhead (door printer) eight_and_eight reached.printers kept).0 2 (omega arith) refl);
  even_behind = λ kept. omega (arith, (holds_of EvenerBehind (door printer) eight_and_eight reached.printers kept).1.0 2 (omega arith) refl);
}

pub applied : Applied
unfolding ruled
applied = record {
  near = holds_in Near (door printer) eight_and_eight reached.printers (never_far printer);
  in_time = holds_in InTime (door printer) (two_and_three 1 13) reached.again (never_late printer);
  even = holds_in Even (door printer) (two_and_two 6 2) reached.second (equal_lanes printer);
}
