-- The runs that leave out a premise give their figures by computation. Assumes nothing.
use mathlib.Core.Path.{refl}
use Rattle.rules.proofs.Computing.{behind_the_door}
use Rattle.request.specs.Written.{written}
use Rattle.fairness.specs.Doors.{single_ticks, run_of}
use Rattle.promises.specs.Figures.{shares_from, figures}
use Rattle.promises.specs.Rounds.{start}
use Rattle.lateness.specs.Reached.{ruled}
use Rattle.lateness.specs.Needed.{whole, Needed}

pub needed : Needed
unfolding behind_the_door written single_ticks run_of shares_from figures start ruled whole
needed = record { yields = refl; set_turn = refl; suspended = refl }
