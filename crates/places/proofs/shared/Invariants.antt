-- `places::shared` meets its contract: what is gathered is 0 exactly when nobody so far has the place. Assumes nothing.
use mathlib.Core.Bool.{false}
use mathlib.Core.Path.{◌≡◌}
use mathlib.Core.Logic.{◌↔◌}
use Prim.Native.Nat.{ℕ, ◌<◌}
use lib.ListN.{length}
use Rattle.places.specs.Rings.{entry_at}
use Rattle.places.proofs.shared.Given as goal

abbrev pub invariant-loop-l : goal.invariant-loop-l
invariant-loop-l l = (l.found ≡ false) ↔ ((k : ℕ) → k < length l.yielded → entry_at l.lines l.places l.line l.place k ≡ false)
