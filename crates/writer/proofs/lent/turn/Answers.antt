-- `writer::lent::turn` meets its contract: what stands behind the pieces that are done is what is left over. Assumes nothing.
use native.Mathlib.Omega.{arith}
use mathlib.Core.Path.{sym, ap, ◌∙◌}
use Prim.Native.Nat.{◌+◌}
use lib.Seq.{length-take-le}
use Rattle.writer.proofs.Stored.{turned_inside, turned_out, turned_room, turned_stops, stopped_held, stopped_block, on_held, on_block}
use Rattle.writer.proofs.lent.turn.Goals as goal

pub turn_block-part-requires : goal.turn_block-part-requires
turn_block-part-requires c = omega (arith, c.requires.n_in_bounds_2, length-take-le c.args.n c.args.block.now c.requires.n_in_bounds)

pub overflow_sub-held : goal.overflow_sub-held
overflow_sub-held c = (turned_inside c.args.way c.args.block.now c.args.n c.requires.n_in_bounds c.turn_block-part.ensures).0

pub overflow_add-number : goal.overflow_add-number
overflow_add-number c = omega (arith, c.requires.n_bound, (turned_inside c.args.way c.args.block.now c.args.n c.requires.n_in_bounds c.turn_block-part.ensures).1)

pub returns-then-part-is_too_long : goal.returns-then-part-is_too_long
returns-then-part-is_too_long c =
    let b = c.turn_block-part.ensures in
    let h = c.requires.n_in_bounds in
    let end = c.if-part-is_too_long.true in
    record {
      number = ap (λ k. c.args.number + k) b.block.count;
      few = omega (arith, (turned_inside c.args.way c.args.block.now c.args.n h b).1);
      stopped = sym end ∙ turned_stops c.args.way c.args.block.now c.args.n h b c.is_too_long.ensures;
      held = stopped_held c.args.way c.args.block.now c.args.n h b c.is_too_long.ensures end;
      block = stopped_block c.args.way c.args.block.now c.args.n h b c.is_too_long.ensures end;
      out = turned_out c.args.way c.args.block.now c.args.n h b;
      room = omega (arith, turned_room c.args.way c.args.block.now c.args.n h b, c.requires.n_in_bounds_2);
    }

pub returns : goal.returns
returns c =
    let b = c.turn_block-part.ensures in
    let h = c.requires.n_in_bounds in
    let on = c.if-part-is_too_long.false in
    record {
      number = ap (λ k. c.args.number + k) b.block.count;
      few = omega (arith, (turned_inside c.args.way c.args.block.now c.args.n h b).1);
      stopped = sym on ∙ turned_stops c.args.way c.args.block.now c.args.n h b c.is_too_long.ensures;
      held = on_held c.args.way c.args.block.now c.args.n h b c.is_too_long.ensures on;
      block = on_block c.args.way c.args.block.now c.args.n h b c.is_too_long.ensures on c.copy_within.ensures.after;
      out = turned_out c.args.way c.args.block.now c.args.n h b;
      room = omega (arith, turned_room c.args.way c.args.block.now c.args.n h b, c.requires.n_in_bounds_2);
    }
