-- `replay_at` meets its contract: at each turn the lines so far, and what is left of the input, give those of the whole; what is left of the input
-- falls. Assumes nothing.
use native.Mathlib.Omega.{arith}
use mathlib.Core.Path.{◌≡◌, ap, ◌∙◌}
use Prim.Native.Nat.{◌+◌, ◌-◌}
use lib.ListN.{length}
use lib.Seq.{length-sets}
use Rattle.rules.specs.Requests.{request_length}
use Rattle.replay.proofs.Found.{whole, none_whole, record_long}
use Rattle.replay.proofs.InPlace.{begun, gone_on, ended_at}
use Rattle.replay.proofs.lent.replay_at.Goals as goal

pub loop-record-init : goal.loop-record-init
loop-record-init c = begun _ _ _ _

pub overflow_add-at : goal.overflow_add-at
overflow_add-at c = omega (arith, whole _ _ _ _ c.read_from.ensures c.in-Record.is)

pub slice_bounds-serve_at-end : goal.slice_bounds-serve_at-end
slice_bounds-serve_at-end c = omega (arith, whole _ _ _ _ c.read_from.ensures c.in-Record.is)

pub serve_at-next-requires-clause-request_len : goal.serve_at-next-requires-clause-request_len
serve_at-next-requires-clause-request_len c =
    let part : c.in-Record.record + request_length - c.in-Record.record ≡ request_length = omega arith in
    record_long c.args.input.now c.in-Record.record _ part (omega (arith, whole _ _ _ _ c.read_from.ensures c.in-Record.is))

pub serve_at-next-requires-clause-line_room_in_bounds : goal.serve_at-next-requires-clause-line_room_in_bounds
serve_at-next-requires-clause-line_room_in_bounds c =
    let w = whole _ _ _ _ c.read_from.ensures c.in-Record.is in
    let p = c.loop-record.invariant in
    let size : length c.loop-record.out ≡ length c.args.out.now = ap length p.puts.bytes ∙ length-sets c.args.out.now 0 p.text in
    omega (arith, w, size, p.puts.place, p.progress.room, p.progress.place, c.requires.line_room_in_bounds)

pub loop-record-smaller : goal.loop-record-smaller
loop-record-smaller c = omega (arith, whole _ _ _ _ c.read_from.ensures c.in-Record.is)

pub loop-record-preserved : goal.loop-record-preserved
loop-record-preserved c =
    let served = c.serve_at-next in
    let w = whole _ _ _ _ c.read_from.ensures c.in-Record.is in
    let part : c.in-Record.record + request_length - c.in-Record.record ≡ request_length = omega arith in
    gone_on _ _ _ _ c.loop-record.invariant _ w.0 w.1 _ _ _ (rw part at served.ensures.table) (rw part at served.ensures.line) served.ensures.room

pub returns : goal.returns
returns c = ended_at _ _ _ _ c.loop-record.invariant (none_whole _ _ _ c.in_default.not-Record c.read_from.ensures)
