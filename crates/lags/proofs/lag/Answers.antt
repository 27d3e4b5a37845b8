-- `lags::lag` meets its contract: both products and their difference fit, so that nothing wraps on either side of zero. Assumes nothing.
use Prim.Native.Nat.{◌*◌, ◌≤◌}
use lib.IntN.{sub_ℕ}
use mir.Syntax.{w64}
use mir.ValLaws.{to_z-of_z}
use Rattle.lags.proofs.Difference.{most, exact, fits, room, ahead_most, due_most}
use Rattle.lags.proofs.lag.Goals as goal

pub returns-clause-room : goal.returns-clause-room
returns-clause-room c =
    let ahead : c.args.charged * c.args.turns ≤ most = ahead_most _ _ c.requires.charged_le_most_charges.0 c.requires.charged_le_most_charges.1 in
    let due : c.args.turn * c.args.all ≤ most = due_most _ _ c.requires.turn_le_most_ticks.0 c.requires.turn_le_most_ticks.1 in
    rw (exact _ _ ahead due, to_z-of_z w64 (sub_ℕ (c.args.charged * c.args.turns) (c.args.turn * c.args.all)) (fits _ _ ahead due)) (room _ _ ahead due)
