-- Order 4 refuses less and no more: what is left over is never above the number, and is all of it where nobody waits. Assumes nothing.
use mathlib.Core.Bool.{Bool, true, false, ◌||◌}
use mathlib.Core.Path.{◌≡◌, refl, sym, ◌∙◌}
use Prim.Native.Nat.{ℕ, ◌+◌, ◌≤◌}
use native.Mathlib.Omega.{arith}
use native.Mathlib.Decide.{dec_le}
use lib.Dec.{eqb, ltb}
use borrow.Author.Tests.{lt-ltb, le-ltb}
use Rattle.rules.specs.State.{sem_at}
use Rattle.laws.proofs.Split.{is, isnt, test, clash}
use Rattle.laws.proofs.Reflect.{reflect}
use Rattle.promises.specs.Refusals.{locked, waiters_on, units_over}
use Rattle.promises.specs.Narrowed.{before, Narrowed}

-- two tests whose numbers are above together give the same
above_as : (a b c d : ℕ) → (a ≤ b → c ≤ d) → (c ≤ d → a ≤ b) → ltb b a ≡ ltb d c
above_as a b c d f g = elim (dec_le a b) [
  | yes h ↦ le-ltb b a h ∙ sym (le-ltb d c (f h))
  | no h ↦ let low : c ≤ d → ⊥ = λ q. h (g q) in lt-ltb b a (omega arith) ∙ sym (lt-ltb d c (omega arith))
]

or_three : (a b c : Bool) → (a || b || c) ≡ ((a || b) || c)
or_three true b c = refl
or_three false b c = refl

pub narrowed : Narrowed
narrowed = record {
  narrower = λ s k n e. elim (test (before s k n)) [
    | is p ↦ p
    | isnt p ↦ let x = simp reflect at p in absurd (clash e (simp reflect (x.0, omega (arith, x.1))))
  ];
  alone = λ s k n e. rw (above_as ((sem_at s.sems k).count + units_over s k n) 99 ((sem_at s.sems k).count + n) 99 (λ q. omega (arith, e)) (λ q. omega (arith, e)));
  room = λ s k n h. rw (above_as ((sem_at s.sems k).count + units_over s k n) 99 ((sem_at s.sems k).count + n) (99 + waiters_on s k) (λ q. omega arith) (λ q. omega arith));
  interrupts = λ s k n. or_three (eqb n 0) (ltb 99 ((sem_at s.sems k).count + units_over s k n)) (locked s);
}
