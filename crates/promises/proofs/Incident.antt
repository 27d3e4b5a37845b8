-- Demand 3 applied to two closed runs, whose premises hold by computation; and the rule of the incident, which would have to charge each lane
-- its turn in a round in which it does not. Assumes nothing.
use mathlib.Core.Bool.{true}
use mathlib.Core.Path.{◌≡◌, ap}
use Rattle.rules.specs.Board.{printer}
use Rattle.rules.specs.Door.{door}
use Rattle.laws.proofs.Split.{clash}
use Rattle.promises.specs.Figures.{asks, Run, figures, premises, own_turns}
use Rattle.promises.specs.Rounds.{broken_into, slept_through, table, given, expected, Applied}
use Rattle.promises.specs.Incident.{sends_back, lanes, cut_after_tick, counted, Incident}
use Rattle.promises.proofs.Third.{demand3}
use Rattle.promises.proofs.Figures.{own_turns_lem}
use Rattle.promises.proofs.Computed.{computed}

pub applied : Applied
unfolding table given expected
applied =
    let met : premises (figures (door printer) 5 broken_into) ≡ true = cc computed.rounds in
    let asleep : premises (figures (door printer) 5 slept_through) ≡ true = cc computed.rounds in
    (own_turns_lem (door printer) 5 broken_into (demand3 printer) met, own_turns_lem (door printer) 5 slept_through (demand3 printer) asleep)

pub incident : Incident
unfolding counted
incident fair =
    let round : Run = record { table = lanes; handed = asks (cut_after_tick 2); from = 1; steps = 8 } in
    clash (own_turns_lem sends_back 5 round fair (ap premises computed.seats.round)) (ap own_turns computed.seats.round)
