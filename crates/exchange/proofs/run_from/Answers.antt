-- `exchange::run_from` meets its contract: all that has come is what is done and what is held, from read to read. What is held goes
-- by `cc`, so that a body that calls the block once more is proved where it is right, and an edit with such a call is refused for what it leaves.
-- Assumes nothing.
use borrow.Author.Rules.{rules}
use native.Mathlib.Omega.{arith}
use mathlib.Core.Path.{◌≡◌, sym, ap, ◌∙◌}
use Rattle.laws.proofs.Split.{or_false}
use Rattle.listing.specs.Listing.{refusal_text}
use Rattle.listing.proofs.InParts.{holds_room}
use Rattle.writer.specs.Places.{reached}
use Rattle.exchange.proofs.Turns.{Come, none_seen, has_come, none_came, turned_on, turned_end, ended_going}
use Rattle.exchange.proofs.run_from.Goals as goal

pub loop-init : goal.loop-init
loop-init c = rw c.clear.ensures (omega arith, omega arith, omega arith, none_seen c.args.way c.args.first)

pub returns-then-ended : goal.returns-then-ended
returns-then-ended c =
    let read = c.read_behind-come in
    let came : Come c.loop.block read.new.block c.unwrap_or-n.result = rw c.unwrap_or-n.ensures (has_come read.result read.ensures.held read.ensures.come read.ensures.failed) in
    none_came came c.if-n-eq0.true c.loop.invariant.3 (c.close.ensures ∙ ap (refusal_text c.args.way) c.left_bad.ensures)

pub returns-else-ended : goal.returns-else-ended
returns-else-ended c =
    let read = c.read_behind-come in
    let came : Come c.loop.block read.new.block c.unwrap_or-n.result = rw c.unwrap_or-n.ensures (has_come read.result read.ensures.held read.ensures.come read.ensures.failed) in
    none_came came c.if-n-eq0.true c.loop.invariant.3 (c.close.ensures ∙ ap (refusal_text c.args.way) c.left_bad.ensures)

pub returns-then-written : goal.returns-then-written
returns-then-written c =
    let read = c.read_behind-come in
    let came : Come c.loop.block read.new.block c.unwrap_or-n.result = rw c.unwrap_or-n.ensures (has_come read.result read.ensures.held read.ensures.come read.ensures.failed) in
    let turned = c.turn_part-turned in
    let next : c.match-turned.next ≡ reached turned.result = search rules in
    rw next
    (turned_end came c.loop.invariant.3 turned.ensures.number (cc) turned.ensures.stopped (c.close-then-stopped-written.ensures ∙ ap (refusal_text c.args.way) c.left_bad-bad.ensures))

pub returns-else-written : goal.returns-else-written
returns-else-written c =
    let read = c.read_behind-come in
    let came : Come c.loop.block read.new.block c.unwrap_or-n.result = rw c.unwrap_or-n.ensures (has_come read.result read.ensures.held read.ensures.come read.ensures.failed) in
    let turned = c.turn_part-turned in
    let next : c.match-turned.next ≡ reached turned.result = search rules in
    rw next
    (turned_end came c.loop.invariant.3 turned.ensures.number (cc) turned.ensures.stopped (c.close-then-stopped-written.ensures ∙ ap (refusal_text c.args.way) c.left_bad-bad.ensures))

pub loop-preserved : goal.loop-preserved
loop-preserved c =
    let read = c.read_behind-come in
    let came : Come c.loop.block read.new.block c.unwrap_or-n.result = rw c.unwrap_or-n.ensures (has_come read.result read.ensures.held read.ensures.come read.ensures.failed) in
    let turned = c.turn_part-turned in
    let next : c.match-turned.next ≡ reached turned.result = search rules in (
      grind (arith, turned.ensures.block, holds_room c.args.way read.new.block, read.ensures.room),
      rw next (omega (arith, turned.ensures.few, read.ensures.room, c.loop.invariant.1)),
      omega (arith, came.more, read.ensures.room, c.loop.invariant.2),
      rw next
          (turned_on came c.loop.invariant.3 turned.ensures.number (cc) (sym turned.ensures.stopped ∙ sym c.is_err-stopped.ensures.value ∙ (or_false c.is_err-stopped.result _ c.if-stopped-written.false).0)),
    )

pub returns : goal.returns
returns c = ended_going c.loop.invariant.3 (c.close-2.ensures ∙ ap (refusal_text c.args.way) c.left_bad-2.ensures)
