-- `writer::put_refusal` meets its contract: what is bad, then its number with the line feed. Assumes nothing.
use borrow.Author.Rules.{rules}
use native.Mathlib.Omega.{arith}
use lib.ListN.{length-append}
use Rattle.text.proofs.Room.{room_64}
use Rattle.writer.proofs.put_refusal.Goals as goal

pub put_field-requires : goal.put_field-requires
put_field-requires g c = (search rules, omega (arith, c.put_what.ensures.upper_bound, c.requires, room_64 {n = c.in-Some.number} (search rules)))

pub returns-in-Some-clause-room : goal.returns-in-Some-clause-room
returns-in-Some-clause-room g c = grind (arith, length-append, c.put_what.ensures.upper_bound, c.put_field.ensures, room_64 {n = c.in-Some.number} (search rules))
