-- `sleep::pass` meets its contract: before turn i the waits below i are as many ticks later. Assumes nothing.
use mathlib.Core.Path.{ap, refl}
use native.Mathlib.Omega.{arith}
use Rattle.rules.specs.State.{free, with_threads}
use Rattle.leaps.specs.Ticks.{later, passed}
use Rattle.layout.proofs.Held.{◌⨾◌, becomes_as, becomes_same, holds_sized}
use Rattle.laws.proofs.Turns.{map_to_none, map_to_turn, map_to_all}
use Rattle.sleep.proofs.pass.Goals as goal

pub loop-i-init : goal.loop-i-init
loop-i-init c = (omega arith, refl, becomes_same c.requires (λ s h. ap (λ ts. with_threads ts s) (map_to_none (later c.args.m) s.threads)))

pub loop-i-preserved : goal.loop-i-preserved
loop-i-preserved c = (
  omega arith,
  omega (arith, c.pass_one.auto, c.loop-i.invariant.1),
  becomes_as (c.loop-i.invariant.2 ⨾ c.pass_one.ensures) (λ s h.
      ap (λ ts. with_threads ts s) (map_to_turn (later c.args.m) c.loop-i.i s.threads free (omega (arith, c.threads-threads.ensures, (holds_sized h).threads)))),
)

pub returns : goal.returns
unfolding passed
returns c = becomes_as c.loop-i.invariant.2 (λ s h. ap (λ ts. with_threads ts s) (map_to_all (later c.args.m) c.loop-i.i s.threads (omega (arith, c.threads-threads.ensures, (holds_sized h).threads))))
