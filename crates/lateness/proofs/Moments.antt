-- The bounds at every moment, of runs through bytes and the door: such a run is a run by the rules on the states that the tables say, and there
-- they hold. Assumes nothing.
use Rattle.rules.specs.Board.{Board}
use Rattle.rules.specs.Door.{door}
use Rattle.fairness.specs.Lateness.{Bound, Near, InTime, Even, AtEveryMoment}
use Rattle.fairness.proofs.Lateness as states
use Rattle.promises.proofs.Third.{in_every_part}
use Rattle.lateness.specs.Moments.{KeptBy, NeverFar, NeverLate, EqualLanes}

through_door : (B : Bound) → AtEveryMoment B → (b : Board) → KeptBy B b (door b)
through_door B f b t hs = in_every_part b t hs _ f

pub never_far : NeverFar
never_far = through_door Near states.never_far

pub never_late : NeverLate
never_late = through_door InTime states.never_late

pub equal_lanes : EqualLanes
equal_lanes = through_door Even states.equal_lanes
