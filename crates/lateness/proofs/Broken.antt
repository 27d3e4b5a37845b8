-- The door of the incident breaks the bounds: it would have to keep them in two closed runs, whose figures are computed, and in which it does not.
-- Assumes nothing.
use mathlib.Core.Path.{refl, ap}
use native.Mathlib.Omega.{arith}
use Rattle.fairness.specs.Lateness.{Near, InTime, Even}
use Rattle.promises.specs.Figures.{asks, Run}
use Rattle.promises.specs.Incident.{sends_back, lanes, cut_at_once, counted}
use Rattle.promises.proofs.Computed.{computed}
use Rattle.lateness.specs.Stands.{seen}
use Rattle.lateness.specs.Broken.{BrokenByIncident}
use Rattle.lateness.proofs.Stands.{holds_of}

pub broken_by_incident : BrokenByIncident
unfolding counted
broken_by_incident =
    let x = computed.seats in
    let run : Run = record { table = lanes; handed = asks (cut_at_once 4); from = 0; steps = 16 } in
    record {
      nothing = ap seen x.nothing;
      falls_behind = ap seen x.behind;
      ruled_at_once = ap seen x.ruled_at_once;
      ruled_after_tick = ap seen x.ruled;
      far = λ kept. omega (arith, (holds_of Near sends_back run (ap seen x.nothing) kept).0);
      late = λ kept. omega (arith, (holds_of InTime sends_back run (ap seen x.nothing) kept).0.0 refl);
      uneven = λ kept. omega (arith, (holds_of Even sends_back run (ap seen x.nothing) kept).0 2 refl);
    }
