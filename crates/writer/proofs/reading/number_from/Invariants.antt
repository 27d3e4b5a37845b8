-- `writer::reading::number_from` meets its contract: the digits that are left say the same number, told as 2^32 where it is larger. Assumes nothing.
use mathlib.Core.Path.{◌≡◌}
use mathlib.Core.Bool.{true}
use Prim.Native.Nat.{◌≤◌, ◌<◌, ◌-◌}
use lib.ListN.{length, drop}
use Rattle.listing.specs.Line.{digit_first, digits_from}
use Rattle.writer.specs.Lines.{too_large}
use Rattle.writer.proofs.Lines.{capped}
use Rattle.writer.proofs.reading.number_from.Given as goal

abbrev pub invariant-loop-n : goal.invariant-loop-n
invariant-loop-n l = (l.number ≤ too_large) × (l.n ≤ length l.text) × (capped (digits_from 0 l.text) ≡ capped (digits_from l.number (drop l.n l.text))) × (0 < l.n → digit_first l.text ≡ true)

abbrev pub decreases-loop-n : goal.decreases-loop-n
decreases-loop-n l = length l.text - l.n
