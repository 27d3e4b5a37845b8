-- `places::all_placed` meets its contract: both rings are closed, and then each thread asks. Assumes nothing.
use mathlib.Core.Bool.{not, true}
use mathlib.Core.Path.{◌≡◌, ◌∙◌}
use mathlib.Core.Logic.{◌↔◌}
use mathlib.Core.Logic.Iff
use Prim.Native.Nat.{ℕ, ◌<◌}
use Rattle.places.specs.Rings.{Near, closed}
use native.Mathlib.Omega.{arith}
use borrow.Author.Count.{below_more}
use Rattle.laws.proofs.Split.{pass_together}
use Rattle.laws.proofs.Reflect.{or_fails, not_says}
use Rattle.places.proofs.Ring.{copied, closed_twice, ring_says}
use Rattle.places.proofs.all_placed.Goals as goal

pub loop-j-preserved : goal.loop-j-preserved
loop-j-preserved c = (
  λ e. let z = (or_fails _ _).0 e in below_more _ _ (c.loop-j.invariant.0 z.0) (c.misplaced_at-bad.ensures.0 z.1),
  λ h. (or_fails _ _).1 (c.loop-j.invariant.1 (λ m q. h m (omega arith)), c.misplaced_at-bad.ensures.1 (h _ (omega arith))),
)

pub returns-clause-answer : goal.returns-clause-answer
returns-clause-answer c =
    let n = c.args.n in
    let lines = c.args.lines.now in
    let places = c.args.places.now in
    let so_far = rw (c.copy_within.ensures.after ∙ copied n lines, c.copy_within-2.ensures.after ∙ copied n places) at c.loop-j.invariant in
    let asked : (not c.loop-j.bad ≡ true) ↔ ((j : ℕ) → j < n → Near n (closed n lines) (closed n places) j) =
    simp not_says (λ e j h. so_far.0 e j (omega arith), λ h. so_far.1 (λ j q. h j (omega arith))) in
    pass_together _ _ (Iff.trans asked (ring_says n c.requires.0.1 (closed_twice n lines (omega (arith, c.requires.0))) (closed_twice n places (omega (arith, c.requires.1)))))
