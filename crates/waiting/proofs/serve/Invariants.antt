-- `waiting::serve` meets its contract: before turn k the first k of the line are served, and n − k turns are left. Assumes nothing.
use mathlib.Core.Path.{◌≡◌}
use Prim.Native.Nat.{◌≤◌}
use lib.ListN.{length}
use Rattle.rules.specs.Waiting.{serve}
use Rattle.layout.specs.Held.{Whole, Becomes, on_threads}
use Rattle.marks.specs.Named.{named}
use Rattle.waiting.proofs.serve.Given as goal

abbrev pub invariant-loop-k : goal.invariant-loop-k
invariant-loop-k v = (v.k ≤ v.n) × Whole v.t × (length v.t ≡ length v.initial.t) × Becomes v.initial.t v.t (on_threads (serve v.k (named v.line) v.outcome))
