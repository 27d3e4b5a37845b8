-- `places::all_placed` meets its contract: nobody is found exactly when all threads so far are well placed. Assumes nothing.
use mathlib.Core.Bool.{false}
use mathlib.Core.Path.{◌≡◌}
use mathlib.Core.Logic.{◌↔◌}
use Prim.Native.Nat.{ℕ, ◌<◌}
use Rattle.places.specs.Rings.{Near}
use Rattle.places.proofs.all_placed.Given as goal

abbrev pub invariant-loop-j : goal.invariant-loop-j
invariant-loop-j l = (l.bad ≡ false) ↔ ((m : ℕ) → m < l.j → Near l.n l.lines l.places m)
