-- `places::length_of` meets its contract: those of the line are counted among the entries so far. Assumes nothing.
use native.Mathlib.Omega.{arith}
use Rattle.places.specs.Rings.{entry_in}
use Rattle.places.proofs.Below.{count_most, byte_most}
use Rattle.places.proofs.length_of.Goals as goal

pub overflow_add-length : goal.overflow_add-length
overflow_add-length c =
    let in_line = entry_in c.args.lines.now c.args.line in
    omega (arith, c.loop-l.invariant, count_most c.loop-l.l-index in_line, c.from-length.ensures, byte_most (in_line c.loop-l.l-index))
