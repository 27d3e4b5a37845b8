-- `sleep::leap` meets its contract: with lock 0 it is a leap of the rank that runs. Assumes nothing.
use mathlib.Core.Path.{sym}
use native.Mathlib.Omega.{arith}
use Rattle.leaps.specs.Ticks.{leap_unlocked, leap}
use Rattle.sleep.proofs.Arms.{by_rank}
use Rattle.sleep.proofs.Leaping.{tells_as}
use Rattle.sleep.proofs.leap.Goals as goal

pub returns : goal.returns
returns c = tells_as _ _ _ _ (leap_unlocked c.quiet_of-q.result) (leap c.args.n) c.leap_unlocked.ensures (λ s h.
    by_rank c.args.n c.quiet_of-q.result s (sym (c.quiet_of-q.ensures s h.says)) c.if-q-eq0.false (omega (arith, c.lock.ensures s h.says, c.if-lock-gt0.false)))
