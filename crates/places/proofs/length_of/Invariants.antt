-- `places::length_of` meets its contract: those of the line are counted among the entries so far. Assumes nothing.
use mathlib.Core.Path.{◌≡◌}
use Rattle.places.specs.Rings.{entry_in, count_below}
use Rattle.places.proofs.length_of.Given as goal

abbrev pub invariant-loop-l : goal.invariant-loop-l
invariant-loop-l l = l.length ≡ count_below l.l-index (entry_in l.lines l.line)
