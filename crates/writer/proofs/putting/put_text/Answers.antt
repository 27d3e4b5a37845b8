-- `writer::putting::put_text` meets its contract: its parts are put one behind the other, and none is longer than its share of the room. Assumes nothing.
use borrow.Author.Rules.{rules}
use native.Mathlib.Omega.{arith}
use Prim.Native.Nat.{◌+◌, ◌≤◌}
use lib.ListN.{length, length-append}
use Rattle.text.proofs.Room.{room_8}
use Rattle.writer.proofs.putting.put_text.Goals as goal

pub put_number-requires : goal.put_number-requires
put_number-requires g c = (search rules, grind (arith, c.requires, c.from.ensures, room_8 {n = c.args.fields.operation} (search rules)))

pub put_used-requires : goal.put_used-requires
put_used-requires g c =
    let first : length c.put_number.new.out ≤ length c.args.out.now + 3 = grind (arith, length-append, c.put_number.ensures, room_8 {n = c.args.fields.operation} (search rules)) in
    (search rules, omega (arith, c.requires, first))

pub put_used-requires-2 : goal.put_used-requires-2
put_used-requires-2 g c =
    let first : length c.put_number.new.out ≤ length c.args.out.now + 3 = grind (arith, length-append, c.put_number.ensures, room_8 {n = c.args.fields.operation} (search rules)) in
    (search rules, omega (arith, c.requires, first, c.put_used.ensures.upper_bound))

pub put_used-requires-3 : goal.put_used-requires-3
put_used-requires-3 g c =
    let first : length c.put_number.new.out ≤ length c.args.out.now + 3 = grind (arith, length-append, c.put_number.ensures, room_8 {n = c.args.fields.operation} (search rules)) in
    (search rules, omega (arith, c.requires, first, c.put_used.ensures.upper_bound, c.put_used-2.ensures.upper_bound))

pub put_used-requires-4 : goal.put_used-requires-4
put_used-requires-4 g c =
    let first : length c.put_number.new.out ≤ length c.args.out.now + 3 = grind (arith, length-append, c.put_number.ensures, room_8 {n = c.args.fields.operation} (search rules)) in
    (search rules, omega (arith, c.requires, first, c.put_used.ensures.upper_bound, c.put_used-2.ensures.upper_bound, c.put_used-3.ensures.upper_bound))

pub push-requires : goal.push-requires
push-requires g c =
    let first : length c.put_number.new.out ≤ length c.args.out.now + 3 = grind (arith, length-append, c.put_number.ensures, room_8 {n = c.args.fields.operation} (search rules)) in
    (search rules, omega (arith, c.requires, first, c.put_used.ensures.upper_bound, c.put_used-2.ensures.upper_bound, c.put_used-3.ensures.upper_bound, c.put_used-4.ensures.upper_bound))

pub returns-clause-upper_bound : goal.returns-clause-upper_bound
returns-clause-upper_bound g c =
    let first : length c.put_number.new.out ≤ length c.args.out.now + 3 = grind (arith, length-append, c.put_number.ensures, room_8 {n = c.args.fields.operation} (search rules)) in
    let before : length c.put_used-4.new.out ≤ length c.args.out.now + 47 = omega (arith, first, c.put_used.ensures.upper_bound, c.put_used-2.ensures.upper_bound, c.put_used-3.ensures.upper_bound, c.put_used-4.ensures.upper_bound) in
    grind (arith, length-append, before, c.push.ensures)
