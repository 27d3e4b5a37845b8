-- `replay::replay` meets its contract: at each turn the lines so far, and what is left of the input, give those of the whole; what is left
-- of the input falls. Assumes nothing.
use borrow.Author.Rules.{rules}
use native.Mathlib.Omega.{arith}
use mathlib.Core.Path.{◌≡◌}
use Prim.Native.Nat.{◌+◌, ◌-◌}
use Rattle.rules.specs.Requests.{request_length}
use Rattle.replay.proofs.Found.{whole, none_whole, record_long}
use Rattle.replay.proofs.Progress.{started, turned, ended}
use Rattle.replay.proofs.replay.Goals as goal

pub loop-record-init : goal.loop-record-init
loop-record-init g c = started _ _ _ _

pub overflow_add-at : goal.overflow_add-at
overflow_add-at g c = omega (arith, whole _ _ _ _ c.read_from.ensures c.in-Record.is)

pub slice_bounds-serve_record-end : goal.slice_bounds-serve_record-end
slice_bounds-serve_record-end g c = omega (arith, whole _ _ _ _ c.read_from.ensures c.in-Record.is)

pub serve_record-requires : goal.serve_record-requires
serve_record-requires g c =
    let w = whole _ _ _ _ c.read_from.ensures c.in-Record.is in
    let p = c.loop-record.invariant in
    let part : c.in-Record.record + request_length - c.in-Record.record ≡ request_length = omega arith in
    (search rules, (record_long c.args.input.now c.in-Record.record _ part (omega (arith, w)), omega (arith, w, p.room, p.place, c.requires.line_room_in_bounds)))

pub loop-record-smaller : goal.loop-record-smaller
loop-record-smaller g c = omega (arith, whole _ _ _ _ c.read_from.ensures c.in-Record.is)

pub loop-record-preserved : goal.loop-record-preserved
loop-record-preserved g c =
    let served = c.serve_record in
    let w = whole _ _ _ _ c.read_from.ensures c.in-Record.is in
    let part : c.in-Record.record + request_length - c.in-Record.record ≡ request_length = omega arith in
    turned _ _ _ _ c.loop-record.invariant _ w.0 w.1 _ _ (rw part at served.ensures.table) (rw part at served.ensures.line) served.ensures.room

pub returns : goal.returns
returns g c = ended _ _ _ _ c.loop-record.invariant (none_whole _ _ _ c.in_default.not-Record c.read_from.ensures)
