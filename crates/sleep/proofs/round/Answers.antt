-- `sleep::round` meets its contract: before turn j the sum is that over the first j threads, and no turn is above 99,999. Where a part of the sum is
-- above `most`, so is the whole. Assumes nothing.
use Rattle.std.specs.Prelude.{if◌then◌else◌}
use mathlib.Core.Path.{◌≡◌, refl, ap, ◌∙◌}
use Prim.Native.Nat.{◌<◌}
use native.Mathlib.Omega.{arith}
use lib.ListN.{length}
use lib.Seq.{take_all}
use Rattle.rules.specs.State.{at}
use Rattle.rules.specs.Lines.{ready, in_line}
use Rattle.layout.specs.Held.{said}
use Rattle.layout.proofs.Boards.{sized}
use Rattle.fairness.specs.Run.{sum_turns}
use Rattle.leaps.proofs.Turns.{turns_turn, turns_front, turn_most}
use Rattle.sleep.proofs.round.Goals as goal

pub returns-then-turns-most : goal.returns-then-turns-most
returns-then-turns-most c = record {
  exact = λ h. absurd (omega (arith, h, c.if-turns-most.true));
  above = λ h. omega (arith, h, c.loop-j.invariant.2, turns_front c.args.priority c.loop-j.j (said c.args.t.now).threads);
}

pub overflow_add-turns : goal.overflow_add-turns
overflow_add-turns c =
    let s = said c.args.t.now in
    let p = c.args.priority in
    let j = c.loop-j.j in
    let turned : c.turn_at-turns.result ≡ (if in_line (ready p) (at s.threads j) then (at s.threads j).turn else 0) = rw (c.load_thread.ensures _ refl) at c.turn_at-turns.ensures in
    record { fits = omega (arith, turned, c.threads-threads.ensures, c.loop-j.invariant.0, c.loop-j.invariant.1, turn_most s c.requires.1 p j) }

pub loop-j-preserved : goal.loop-j-preserved
loop-j-preserved c =
    let s = said c.args.t.now in
    let p = c.args.priority in
    let j = c.loop-j.j in
    let inv = c.loop-j.invariant in
    let turned : c.turn_at-turns.result ≡ (if in_line (ready p) (at s.threads j) then (at s.threads j).turn else 0) = rw (c.load_thread.ensures _ refl) at c.turn_at-turns.ensures in
    let more : j < length s.threads = omega (arith, c.loop-j-test.true, c.threads-threads.ensures, (sized c.requires.0 refl).threads) in (
      omega (arith, c.loop-j-test.true),
      omega (arith, turned, inv.1, turn_most s c.requires.1 p j),
      omega (arith, turned, inv.2, turns_turn s.threads j more p),
    )

pub returns : goal.returns
returns c =
    let ts = (said c.args.t.now).threads in
    let all = take_all c.loop-j.j ts (omega (arith, c.loop-j-test.false, c.threads-threads.ensures, (sized c.requires.0 refl).threads)) in
    let sum = c.loop-j.invariant.2 ∙ ap (sum_turns c.args.priority) all in record { exact = λ h. sum; above = λ h. omega (arith, h, sum) }
