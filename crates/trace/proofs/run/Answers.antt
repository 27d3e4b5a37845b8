-- `trace::run` meets its contract: all that has come has left the trace where it stands, from turn to turn. What is held goes
-- by `cc`, so that a body that calls the block once more is proved where it is right, and an edit with such a call is refused for what it leaves.
-- Assumes nothing.
use native.Mathlib.Omega.{arith}
use mathlib.Core.Path.{◌≡◌, sym, ap, subst, ◌∙◌}
use Prim.Native.Nat.{◌%◌}
use lib.ListN.{length}
use Rattle.rules.specs.Requests.{request_length}
use Rattle.rules.specs.Trace.{short_line}
use Rattle.text.specs.Text.{trace_text}
use Rattle.parts.proofs.Whole.{left_length}
use Rattle.trace.specs.Going.{standing, Traced}
use Rattle.trace.proofs.Turns.{none_seen, traced_part, nothing_came, ended_by}
use Rattle.trace.proofs.run.Goals.{else-loop-test, then-loop-test+in_default, then-loop-test+in-Ok+then-n-eq0, then-loop-test+in-Ok+else-n-eq0+then-is_err}
use Rattle.trace.proofs.run.Goals as goal

pub loop-init : goal.loop-init
loop-init c =
    let empty = c.new-block.ensures in
    (omega (arith, ap length empty), omega arith, omega arith, subst (λ l. Traced c.args.table.now 0 (standing 0 c.args.table.now l)) (sym empty) (none_seen c.args.table.now))

pub loop-preserved : goal.loop-preserved
loop-preserved c =
    let come = c.in-Ok.ensures in
    let served = c.serve_part-number.ensures in
    let left : length c.serve_part-number.new.block ≡ length c.read_behind.new.block % request_length = ap length served.block ∙ left_length c.read_behind.new.block in (
      grind (arith, left),
      omega (arith, served.number, come.room, c.loop.invariant.1),
      omega (arith, come.come, come.room, c.loop.invariant.2),
      traced_part c.loop.block c.read_behind.new.block c.in-Ok.n come.held come.come c.loop.number c.loop.table _ c.loop.invariant.3 served.replayed served.number (cc),
    )

pub returns : goal.returns
returns c =
    let so_far = c.loop.invariant.3 in
    let printed = c.close.ensures ∙ ap (λ n. trace_text (short_line n)) c.len.ensures.value in
    elim c.loop-test.branch [
      | else-loop-test w ↦ ended_by so_far w.table-is w.block-is w.bytes-is w.number-is printed
      | then-loop-test+in_default w ↦ ended_by so_far w.table-is (w.block-is ∙ w.in_default.ensures.failed) w.bytes-is w.number-is printed
      | then-loop-test+in-Ok+then-n-eq0 w ↦
          let come = w.in-Ok.ensures in
          ended_by so_far w.table-is (w.block-is ∙ nothing_came c.loop.block w.read_behind.new.block w.in-Ok.n come.held come.come w.if-n-eq0.true) w.bytes-is w.number-is printed
      | then-loop-test+in-Ok+else-n-eq0+then-is_err w ↦
          let come = w.in-Ok.ensures in
          let served = w.serve_part-number.ensures in
          ended_by (traced_part c.loop.block w.read_behind.new.block w.in-Ok.n come.held come.come c.loop.number c.loop.table _ so_far served.replayed served.number (cc))
          w.table-is w.block-is w.bytes-is w.number-is printed
    ]
