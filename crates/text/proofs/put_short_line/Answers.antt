-- `text::put_short_line` meets its contract: its word, then a field with the number. Assumes nothing.
use borrow.Author.Rules.{rules}
use native.Mathlib.Omega.{arith}
use lib.ListN.{length-append}
use Rattle.text.proofs.Room.{room_64}
use Rattle.text.proofs.put_short_line.Goals as goal

pub put_field-requires : goal.put_field-requires
put_field-requires g c = (search rules, grind (arith, length-append, room_64 c.ranges.n, c.extend.ensures, c.requires))

pub returns-clause-upper_bound : goal.returns-clause-upper_bound
returns-clause-upper_bound g c = grind (arith, length-append, c.extend.ensures, c.put_field.ensures, room_64 c.ranges.n)
