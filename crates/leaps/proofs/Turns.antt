-- The sum of a rank's turns, one thread more at a time, and how large a turn can be. Assumes nothing.
use Rattle.std.specs.Prelude.{if◌then◌else◌}
use mathlib.Core.Path.{◌≡◌, ap, ◌∙◌}
use mathlib.Core.List.{List, [], ◌∷◌, ◌++◌}
use Prim.Native.Nat.{ℕ, ◌+◌, ◌≤◌, ◌<◌}
use native.Mathlib.Omega.{arith}
use native.Mathlib.Numerals.{add-one}
use lib.ListN.{length, take, drop, take-append-drop}
use lib.Seq.{take-suc}
use Rattle.rules.specs.Board.{most_ticks}
use Rattle.rules.specs.State.{State, free, at}
use Rattle.rules.specs.Lines.{ready, in_line}
use Rattle.rules.specs.Sound.{Sound}
use Rattle.rules.specs.declared.Thread.{Thread}
use Rattle.laws.proofs.Split.{is, isnt, test}
use Rattle.laws.proofs.Lines.{in_ready, ready_used}
use Rattle.fairness.specs.Run.{sum_turns}

turns_append : (p : ℕ) (xs ys : List Thread) → sum_turns p (xs ++ ys) ≡ sum_turns p xs + sum_turns p ys
turns_append p [] ys = omega arith
turns_append p (x ∷ xs) ys = omega (arith, turns_append p xs ys)

pub turns_turn : (ts : List Thread) (j : ℕ) → j < length ts → (p : ℕ) → sum_turns p (take (j + 1) ts) ≡ sum_turns p (take j ts) + (if in_line (ready p) (at ts j) then (at ts j).turn else 0)
turns_turn ts j h p = ap (sum_turns p) (ap (λ k. take k ts) (add-one j) ∙ take-suc ts j free h) ∙ turns_append p (take j ts) (at ts j ∷ []) ∙ omega arith

pub turns_front : (p j : ℕ) (ts : List Thread) → sum_turns p (take j ts) ≤ sum_turns p ts
turns_front p j ts = omega (arith, turns_append p (take j ts) (drop j ts), ap (sum_turns p) (take-append-drop j ts))

-- a sound thread's turn
pub turn_most : (s : State) → Sound s → (p j : ℕ) → (if in_line (ready p) (at s.threads j) then (at s.threads j).turn else 0) ≤ most_ticks
turn_most s σ p j = elim (test (in_line (ready p) (at s.threads j))) [
  | is m ↦ rw m (σ.threads j (ready_used (at s.threads j) ((in_ready p (at s.threads j)).0 m).0)).turn.1
  | isnt m ↦ rw m (omega arith)
]
