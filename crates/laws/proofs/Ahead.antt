-- How many are ahead of a caller that begins to wait, and the place that it takes: with n threads already in the line it is n + 1,
-- since the caller, which is ready, was not among them. Assumes nothing.
use mathlib.Core.Bool.{true, false}
use mathlib.Core.Path.{◌≡◌, refl, ap}
use Prim.Native.Nat.{ℕ, pred}
use native.Mathlib.Omega.{arith}
use Rattle.rules.specs.Basic.{bit}
use Rattle.rules.specs.State.{State, at, caller, is_ready, waiting, with_wait}
use Rattle.rules.specs.Lines.{ready, line, in_line, line_length, move}
use Rattle.rules.specs.Test.{is_nowhere}
use Rattle.rules.specs.Sound.{Sound}
use Rattle.rules.specs.Waiting.{begun, ahead}
use Rattle.rules.specs.declared.Thread.{Thread}
use Rattle.rules.specs.declared.Wait.{Wait}
use Rattle.laws.proofs.Split.{is, isnt, test}
use Rattle.laws.proofs.Lines.{same_self, is_nowhere_lem, lines_apart, waiting_out, in_ready, ready_used}
use Rattle.laws.proofs.Members.{used_range}
use Rattle.laws.proofs.Placed.{count_nowhere, move_count, move_place}

-- a ready thread stands in its ready line, and so not in the line of the wait that it begins
not_yet : (t : Thread) (w : Wait) → is_ready t ≡ true → waiting w ≡ true → in_line (line (with_wait w t)) t ≡ false
not_yet t w r e = lines_apart (line t) (line (with_wait w t)) (ready t.priority) ((in_ready t.priority t).1 (r, refl)) (waiting_out t.priority (with_wait w t) e)

pub ahead_place : (s : State) (w : Wait) (x : ℕ) → Sound s → waiting w ≡ true → ahead s w ≡ pred (at (move s.running (begun w x) s.threads) s.running).place
ahead_place s w x σ e =
    let i = s.running in
    let ts = s.threads in
    let l = line (with_wait w (caller s)) in
    let i< = used_range ts i (ready_used (caller s) σ.runs) in
    let place : (at (move i (begun w x) ts) i).place ≡ line_length l (move i (begun w x) ts) = move_place ts σ.lines i i< (begun w x) in
    elim (test (is_nowhere l)) [
      | is n ↦ rw (place, is_nowhere_lem l n, count_nowhere ts, count_nowhere (move i (begun w x) ts))
      | isnt n ↦ omega (arith, move_count ts σ.lines i i< (begun w x) l, ap bit (not_yet (caller s) w σ.runs e), ap bit (same_self l n))
    ]
