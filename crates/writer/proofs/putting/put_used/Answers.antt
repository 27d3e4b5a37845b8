-- `writer::putting::put_used` meets its contract: a word has at most 10 digits. Assumes nothing.
use borrow.Author.Rules.{rules}
use native.Mathlib.Omega.{arith}
use lib.ListN.{length-append}
use Rattle.text.proofs.Room.{room_32}
use Rattle.writer.proofs.putting.put_used.Goals as goal

pub put_number-requires : goal.put_number-requires
put_number-requires g c = (search rules, grind (arith, length-append, c.push.ensures, c.requires, room_32 c.ranges.n))

pub returns-then-used-clause-upper_bound : goal.returns-then-used-clause-upper_bound
returns-then-used-clause-upper_bound g c = grind (arith, length-append, c.push.ensures, c.put_number.ensures, room_32 c.ranges.n)
