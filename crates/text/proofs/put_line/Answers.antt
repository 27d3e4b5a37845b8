-- `text::put_line` meets its contract: its parts are put one behind the other, and none is longer than its share of the room. Assumes nothing.
use borrow.Author.Rules.{rules}
use native.Mathlib.Omega.{arith}
use Prim.Native.Nat.{◌+◌, ◌≤◌}
use lib.ListN.{length, length-append}
use Rattle.text.proofs.Room.{room_64, room_32, room_8, room_code}
use Rattle.text.proofs.put_line.Goals as goal

pub put_field-requires : goal.put_field-requires
put_field-requires g c = (search rules, omega (arith, room_64 c.ranges.number, c.requires))

pub put_signed-requires : goal.put_signed-requires
put_signed-requires g c = (search rules, grind (arith, length-append, c.put_field.ensures, c.requires, room_64 c.ranges.number, room_code c.ranges.code))

pub push-requires : goal.push-requires
push-requires g c = (search rules, grind (arith, length-append, c.put_field.ensures, c.put_signed.ensures, c.requires, room_64 c.ranges.number, room_code c.ranges.code))

pub put_field-requires-2 : goal.put_field-requires-2
put_field-requires-2 g c = (search rules, grind (arith, length-append, c.put_field.ensures, c.put_signed.ensures, c.push.ensures, c.requires, room_64 c.ranges.number, room_code c.ranges.code, room_32 c.ranges.value))

pub put_field-requires-3 : goal.put_field-requires-3
put_field-requires-3 g c = (search rules, grind (arith, length-append, c.put_field.ensures, c.put_signed.ensures, c.push.ensures, c.put_field-2.ensures, c.requires, room_64 c.ranges.number, room_code c.ranges.code, room_32 c.ranges.value, room_8 c.ranges.running))

pub returns-clause-upper_bound : goal.returns-clause-upper_bound
returns-clause-upper_bound g c =
    let before : length c.put_field-2.new.out ≤ length c.args.out.now + 44 =
    grind (arith, length-append, c.put_field.ensures, c.put_signed.ensures, c.push.ensures, c.put_field-2.ensures, room_64 c.ranges.number, room_code c.ranges.code, room_32 c.ranges.value) in
    grind (arith, length-append, before, c.put_field-3.ensures, room_8 c.ranges.running)
