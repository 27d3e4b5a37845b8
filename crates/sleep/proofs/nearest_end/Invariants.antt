-- `sleep::nearest_end` meets its contract: from the last thread down, the nearest of those from i on is known. Assumes nothing.
use mathlib.Core.Path.{◌≡◌}
use lib.ListN.{drop}
use Rattle.rules.specs.State.{State}
use Rattle.rules.specs.Sleep.{nearest}
use Rattle.layout.specs.Held.{said}
use Rattle.sleep.proofs.nearest_end.Given as goal

abbrev pub invariant-loop-i : goal.invariant-loop-i
invariant-loop-i l = (s : State) → said l.t ≡ s → l.n ≡ nearest (drop l.i s.threads)
