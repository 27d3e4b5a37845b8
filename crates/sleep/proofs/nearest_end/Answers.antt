-- `sleep::nearest_end` meets its contract: from the last thread down, the nearest of those from i on is known. Assumes nothing.
use mathlib.Core.Path.{◌≡◌}
use native.Mathlib.Omega.{arith}
use Rattle.layout.proofs.Boards.{sized}
use Rattle.sleep.proofs.Ends.{nearest_none, nearest_turn}
use Rattle.sleep.proofs.nearest_end.Goals as goal

pub loop-i-init : goal.loop-i-init
loop-i-init c = λ s e. nearest_none c.threads-i.result s.threads (omega (arith, c.threads-i.ensures, (sized c.requires e).threads))

pub loop-i-preserved : goal.loop-i-preserved
loop-i-preserved c = λ s e.
    rw (nearest_turn c.loop-i.i s.threads c.loop-i-test.true (omega (arith, c.loop-i.auto.i, c.threads-i.ensures, (sized c.requires e).threads)), ← c.left_of.ensures s e, ← c.loop-i.invariant s e) c.sooner-n.ensures

pub returns : goal.returns
returns c = λ s e. let z : c.loop-i.i ≡ 0 = omega arith in rw z at c.loop-i.invariant s e
