-- `lines::line_length` meets its contract: before turn j the power is that of how many of the first j threads stand in the line. Assumes
-- nothing.
use mathlib.Core.Path.{ap, ◌∙◌}
use native.Mathlib.Omega.{arith}
use lib.Seq.{take_all}
use lib.ListN.{take}
use Rattle.rules.specs.Lines.{in_line}
use Rattle.rules.specs.Basic.{count}
use Rattle.layout.proofs.Boards.{sized}
use Rattle.layout.proofs.Held.{whole_says}
use Rattle.lines.proofs.Powers.{counted_turn, power_most, power_some, power_fits}
use Rattle.lines.proofs.line_length.Goals as goal

pub counted-power-requires : goal.counted-power-requires
counted-power-requires c = power_fits c.loop-j.power c.loop-j.j c.loop-j.invariant.2 (omega (arith, c.threads-threads.ensures))

pub loop-j-preserved : goal.loop-j-preserved
loop-j-preserved c =
    let j = c.loop-j.j in
    let power = c.loop-j.power in
    let more = c.has_mark.result in (
      omega arith,
      rw c.counted-power.ensures (power_some power more c.loop-j.invariant.1),
      rw c.counted-power.ensures (power_most power j more c.loop-j.invariant.2),
      λ s l e q. c.counted-power.ensures
          ∙ counted_turn (in_line l) s.threads j (omega (arith, c.threads-threads.ensures, (sized c.requires.long e).threads)) (c.loop-j.invariant.3 s l e q) (c.has_mark.ensures.line s l (whole_says c.requires e) (c.mark_of-m.ensures l q)),
    )

pub returns : goal.returns
returns c = λ s l e q.
    c.exponent.ensures (count (in_line l) (take c.loop-j.j s.threads)) (c.loop-j.invariant.3 s l e q)
    ∙ ap (count (in_line l)) (take_all c.loop-j.j s.threads (omega (arith, c.threads-threads.ensures, (sized c.requires.long e).threads)))
