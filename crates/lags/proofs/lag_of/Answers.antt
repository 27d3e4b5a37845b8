-- `lags::lag_of` meets its contract: of a ready thread it is the difference of the two products over its own rank. Assumes nothing.
use mathlib.Core.Bool.{true}
use mathlib.Core.Path.{◌≡◌, sym, ap, ◌∙◌}
use Prim.Native.Nat.{◌*◌}
use native.Mathlib.Omega.{arith}
use lib.IntN.{sub_ℕ}
use mir.Syntax.{w64}
use mir.ValLaws.{to_z-of_z}
use Rattle.rules.specs.Board.{printer}
use Rattle.rules.specs.State.{at, is_ready}
use Rattle.rules.specs.Table.{decode}
use Rattle.layout.proofs.Boards.{said_printer}
use Rattle.text.proofs.Decimal.{decimal_room}
use Rattle.fairness.specs.Run.{sum_turns}
use Rattle.lanes.specs.Lag.{sum_over}
use Rattle.lanes.specs.Kept.{of}
use Rattle.lags.proofs.Turned.{lag_ready}
use Rattle.lags.proofs.lag_of.Goals as goal

pub returns-then-not-is_ready-clause-room : goal.returns-then-not-is_ready-clause-room
returns-then-not-is_ready-clause-room c = omega (arith, decimal_room 0 {n = 0} (omega arith))

pub returns-clause-value : goal.returns-clause-value
returns-clause-value c =
    let i = c.args.i in
    let s = decode printer c.args.table.now in
    let f = of c.args.accounts.now in
    let own = c.load_thread-th.ensures _ (said_printer _ c.told-table) in
    let ready : is_ready (at s.threads i) ≡ true = ap is_ready (sym own) ∙ sym c.is_ready.ensures ∙ c.if-not-is_ready.false in
    let rank = c.rank_of-rank.ensures in
    let turns = rank.turns.1 ∙ ap (λ t. sum_turns t.priority s.threads) own in
    let charged = rank.charged.1 ∙ ap (λ t. sum_over t.priority f 0 s.threads) own in
    let turn = c.from.ensures ∙ ap (λ t. t.turn) own in
    let same = to_z-of_z w64 c.lag.result (record { sfits = c.lag.type_inv }) in
    same ∙ c.lag.ensures.value ∙ (λ j. sub_ℕ (f i * turns j) (turn j * charged j)) ∙ lag_ready f s i ready
