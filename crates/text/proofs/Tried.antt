-- What is printed of the example run, of numbers at their bounds and of the longest lines: by computation. Assumes nothing.
use mathlib.Core.Path.{◌≡◌, refl}
use lib.IntN.{negsuc}
use lib.ListN.{length}
use Rattle.rules.proofs.Computing.{behind_the_door}
use Rattle.rules.specs.Trace.{served, short, records, trace_from, trace}
use Rattle.text.specs.Text.{ascii, digits, decimal, signed, line_text}
use Rattle.text.specs.Rooms.{line_room, short_room}
use Rattle.text.specs.Example.{ExampleRun}

pub example_run : ExampleRun
unfolding behind_the_door records trace_from trace digits decimal
example_run = refl

pub numbers :
    (decimal 0 ≡ ascii "0") × (decimal 9 ≡ ascii "9") × (decimal 10 ≡ ascii "10") × (decimal 4294967295 ≡ ascii "4294967295")
    × (decimal 18446744073709551615 ≡ ascii "18446744073709551615") × (signed (negsuc 7) ≡ ascii "-8")
unfolding digits decimal
numbers = (refl, refl, refl, refl, refl, refl)

-- the room asked for is the least that does: these lines fill it
pub filled :
    (length (line_text (served 18446744073709551615 (negsuc 2147483647) 4294967295 255)) ≡ line_room)
    × (length (line_text (short 18446744073709551615)) ≡ short_room)
unfolding digits decimal
filled = (refl, refl)
