-- `waiting::block` meets its contract: the caller's number is the one that the table says, and one less than the place that it takes is how
-- many were in the line before it. Assumes nothing.
use mathlib.Core.Path.{◌≡◌, sym, ap, subst, ◌∙◌}
use Prim.Native.Nat.{pred}
use native.Mathlib.Omega.{arith}
use Rattle.rules.specs.State.{State, at, with_threads}
use Rattle.rules.specs.Lines.{move, settle}
use Rattle.rules.specs.Waiting.{begun, ahead, block}
use Rattle.rules.specs.Sound.{Sound}
use Rattle.rules.specs.declared.Reply.TheVariants.{Blocked}
use Rattle.std.specs.Prelude.{Ok}
use Rattle.laws.proofs.Ahead.{ahead_place}
use Rattle.layout.specs.Held.{Holds}
use Rattle.layout.proofs.Held.{◌⨾◌}
use Rattle.waiting.proofs.Doing.{gives, does}
use Rattle.waiting.proofs.block.Goals as goal

pub returns : goal.returns
unfolding block
returns c =
    let w = c.args.w in
    let x = c.args.parcel in
    let told : (s : State) → Holds _ s → ahead s w ≡ c.from.result = λ s h.
    ahead_place s w x (subst Sound h.says c.requires.1.sound) c.requires.0
    ∙ ap (λ i. pred (at (move i (begun w x) s.threads) i).place) (sym (c.running-i.ensures s h.says))
    ∙ ap pred (sym (c.change_wait-place.ensures.place (with_threads (move c.running-i.result (begun w x) s.threads) s) (c.change_wait-place.ensures.table.holds s h).says))
    ∙ omega (arith, c.saturating_sub-ahead.ensures, c.from.ensures) in
    does (c.change_wait-place.ensures.table ⨾ c.settle.ensures) (λ s h j. gives (settle (with_threads (move (sym (c.running-i.ensures s h.says) j) (begun w x) s.threads) s)) (Ok (Blocked (told s h j))))
