-- `lags::put_lanes` meets its contract: before turn i the lines of the first i threads stand behind the first one. Assumes nothing.
use mathlib.Core.Path.{◌≡◌, ap, ◌∙◌}
use mathlib.Core.List.{◌++◌, append_assoc}
use Prim.Native.Nat.{◌<◌}
use native.Mathlib.Omega.{arith}
use lib.ListN.{length, take}
use lib.Seq.{take_all}
use Rattle.rules.specs.Board.{printer}
use Rattle.rules.specs.Table.{decode}
use Rattle.layout.proofs.RoundTrip.{on_decode}
use Rattle.lanes.specs.Report.{lane_lines}
use Rattle.lanes.specs.Kept.{of}
use Rattle.lags.proofs.Turned.{lines_turn}
use Rattle.lags.proofs.put_lanes.Goals as goal

pub loop-i-preserved : goal.loop-i-preserved
loop-i-preserved g c =
    let s = decode printer c.args.table.now in
    let f = of c.args.accounts.now in
    let i = c.loop-i.i in
    let inv = c.loop-i.invariant in
    let more : i < length s.threads = omega (arith, c.loop-i-test.true, (on_decode printer c.args.table.now).threads) in (
      omega (arith, c.loop-i-test.true),
      omega (arith, inv.1, c.put_lane.ensures.room),
      rw (lines_turn s.threads i more f s, ← append_assoc c.put_stopped.new.out (lane_lines f s 0 (take i s.threads)) _, ← inv.2) c.put_lane.ensures.line,
    )

pub returns-clause-text : goal.returns-clause-text
returns-clause-text g c =
    let s = decode printer c.args.table.now in
    let f = of c.args.accounts.now in
    let inv = c.loop-i.invariant in
    let all : take c.loop-i.i s.threads ≡ s.threads = take_all c.loop-i.i s.threads (omega (arith, c.loop-i-test.false, (on_decode printer c.args.table.now).threads)) in
    (rw all at inv.2) ∙ ap (λ l. l ++ lane_lines f s 0 s.threads) c.put_stopped.ensures.puts ∙ append_assoc c.args.out.now _ (lane_lines f s 0 s.threads)
