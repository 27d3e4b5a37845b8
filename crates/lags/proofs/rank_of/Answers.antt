-- `lags::rank_of` meets its contract: before turn j both sums are those over the first j threads, and none is above its bound. Assumes nothing.
use Rattle.std.specs.Prelude.{if◌then◌else◌}
use mathlib.Core.Path.{◌≡◌, ap, ◌∙◌}
use Prim.Native.Nat.{◌<◌}
use native.Mathlib.Omega.{arith}
use lib.ListN.{length, take}
use lib.Seq.{take_all}
use Rattle.rules.specs.Board.{printer}
use Rattle.rules.specs.State.{at}
use Rattle.rules.specs.Lines.{ready, in_line}
use Rattle.rules.specs.Table.{decode}
use Rattle.layout.proofs.Boards.{said_printer}
use Rattle.layout.proofs.RoundTrip.{on_decode}
use Rattle.fairness.specs.Run.{sum_turns}
use Rattle.lanes.specs.Lag.{sum_over}
use Rattle.lanes.specs.Kept.{of}
use Rattle.leaps.proofs.Turns.{turns_turn, turn_most}
use Rattle.lags.proofs.Turned.{over_turn, counted_most}
use Rattle.lags.proofs.rank_of.Goals as goal

pub loop-j-preserved : goal.loop-j-preserved
loop-j-preserved c =
    let s = decode printer c.args.table.now in
    let p = c.args.priority in
    let j = c.loop-j.j in
    let inv = c.loop-j.invariant in
    let own = c.load_thread-th.ensures _ (said_printer _ c.told-table) in
    let turned : c.counted-turns.result ≡ (if in_line (ready p) (at s.threads j) then (at s.threads j).turn else 0) = rw (c.from.ensures, own) at c.counted-turns.ensures in
    let charged : c.counted-charged.result ≡ (if in_line (ready p) (at s.threads j) then of c.args.accounts.now j else 0) = rw own at c.counted-charged.ensures in
    let more : j < length s.threads = omega (arith, c.loop-j-test.true, (on_decode printer c.args.table.now).threads) in (
      omega (arith, c.loop-j-test.true),
      omega (arith, turned, inv.1, turn_most s c.requires.sound p j),
      omega (arith, charged, inv.2, c.requires.within j, counted_most (in_line (ready p) (at s.threads j)) (of c.args.accounts.now j)),
      omega (arith, turned, inv.3, turns_turn s.threads j more p),
      omega (arith, charged, inv.4, over_turn s.threads j more p (of c.args.accounts.now)),
    )

pub returns-clause-turns : goal.returns-clause-turns
returns-clause-turns c =
    let inv = c.loop-j.invariant in
    let ts = (decode printer c.args.table.now).threads in
    let all : take c.loop-j.j ts ≡ ts = take_all c.loop-j.j ts (omega (arith, c.loop-j-test.false, (on_decode printer c.args.table.now).threads)) in
    (omega (arith, inv.0, inv.1), inv.3 ∙ ap (sum_turns c.args.priority) all)

pub returns-clause-charged : goal.returns-clause-charged
returns-clause-charged c =
    let inv = c.loop-j.invariant in
    let ts = (decode printer c.args.table.now).threads in
    let all : take c.loop-j.j ts ≡ ts = take_all c.loop-j.j ts (omega (arith, c.loop-j-test.false, (on_decode printer c.args.table.now).threads)) in
    (omega (arith, inv.0, inv.2), inv.4 ∙ ap (sum_over c.args.priority (of c.args.accounts.now) 0) all)
