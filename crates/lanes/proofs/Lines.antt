-- The report's lines go by the charges of the board's threads alone. Assumes nothing.
use Rattle.std.specs.Prelude.{if◌then◌else◌}
use mathlib.Core.Bool.{true}
use mathlib.Core.Path.{◌≡◌, refl}
use mathlib.Core.List.{List, [], ◌∷◌, ◌++◌}
use Prim.Native.Nat.{ℕ, suc, ◌+◌, ◌<◌}
use native.Mathlib.Omega.{arith}
use lib.ListN.{length}
use Rattle.rules.specs.State.{State, at}
use Rattle.rules.specs.Lines.{ready, in_line}
use Rattle.rules.specs.declared.Thread.{Thread}
use Rattle.laws.proofs.Split.{is, isnt, test}
use Rattle.laws.proofs.Members.{in_range}
use Rattle.lanes.specs.Lag.{sum_over, lag_of, lag}
use Rattle.lanes.specs.Report.{lane_line, lane_lines}

module _ (f g : ℕ → ℕ) where
  -- what the rank's threads have in all goes by what each of them has
  pub sum_as : (p i : ℕ) (ts : List Thread) → ((j n : ℕ) → n ≡ i + j → in_line (ready p) (at ts j) ≡ true → f n ≡ g n) → sum_over p f i ts ≡ sum_over p g i ts
  unfolding sum_over
  sum_as p i [] h = refl
  sum_as p i (t ∷ ts) h =
      let rest = sum_as p (suc i) ts (λ j n e m. h (suc j) n (omega arith) m) in
      elim (test (in_line (ready p) t)) [
        | is m ↦ rw (m, h 0 i (omega arith) m, rest)
        | isnt m ↦ rw (m, rest)
      ]

  module _ (s : State) (same : (j : ℕ) → j < length s.threads → f j ≡ g j) where
    lag_as : (i : ℕ) → i < length s.threads → lag f s i ≡ lag g s i
    unfolding lag lag_of
    lag_as i h = let p = (at s.threads i).priority in rw (same i h, sum_as p 0 s.threads (λ j n e m. let k : n ≡ j = omega arith in rw k (same j (in_range s.threads j (ready p) m))))

    pub lines_as : (i : ℕ) (ts : List Thread) → i + length ts ≡ length s.threads → lane_lines f s i ts ≡ lane_lines g s i ts
    unfolding lane_lines
    lines_as i [] e = refl
    lines_as i (t ∷ ts) e = λ k.
        (if t.used then lane_line i (same i (omega arith) k) (lag_as i (omega arith) k) else [])
        ++ lines_as (suc i) ts (omega arith) k
