-- `waiting::serve` meets its contract: before turn k the first k of the line are served, and n − k turns are left. Assumes nothing.
use mathlib.Core.Path.{refl, ap}
use native.Mathlib.Omega.{arith}
use Rattle.rules.specs.Waiting.{serve}
use Rattle.rules.specs.State.{with_threads}
use Rattle.layout.proofs.Held.{◌⨾◌, becomes_as, becomes_same}
use Rattle.marks.specs.Named.{named}
use Rattle.waiting.proofs.Waits.{serve_more}
use Rattle.waiting.proofs.serve.Goals as goal

pub loop-k-init : goal.loop-k-init
unfolding serve
loop-k-init c = (omega arith, c.requires, refl, becomes_same c.requires (λ s h. refl))

pub serve_first-requires : goal.serve_first-requires
serve_first-requires c = c.loop-k.invariant.1

pub overflow_step-k : goal.overflow_step-k
overflow_step-k c = omega arith

pub loop-k-smaller : goal.loop-k-smaller
loop-k-smaller c = omega arith

pub loop-k-preserved : goal.loop-k-preserved
loop-k-preserved c = (omega arith, c.serve_first.ensures.whole, omega (arith, c.serve_first.auto, c.loop-k.invariant.2), becomes_as (c.loop-k.invariant.3 ⨾ c.serve_first.ensures) (λ s h. ap (λ ts. with_threads ts s) (serve_more c.loop-k.k (named c.args.line) c.args.outcome s.threads)))

pub shape_of-t : goal.shape_of-t
shape_of-t c = c.loop-k.invariant.2

pub returns : goal.returns
returns c = becomes_as c.loop-k.invariant.3 (λ s h. ap (λ k. with_threads (serve k (named c.args.line) c.args.outcome s.threads) s) (omega arith))
