-- One thread more: the sums over the first j + 1 threads, and the lines of them. Assumes nothing.
use Rattle.std.specs.Prelude.{if◌then◌else◌}
use mathlib.Core.Bool.{Bool, true, false}
use mathlib.Core.Path.{◌≡◌, sym, ap, ◌∙◌}
use mathlib.Core.List.{List, [], ◌∷◌, ◌++◌, append_assoc, append-nil}
use Prim.Native.Nat.{ℕ, suc, ◌+◌, ◌*◌, ◌≤◌, ◌<◌}
use native.Mathlib.Omega.{arith}
use native.Mathlib.Numerals.{add-one}
use lib.IntN.{pos, sub_ℕ}
use lib.ListN.{length, take}
use lib.Seq.{take-suc, length-take-le}
use Rattle.rules.specs.State.{State, free, at, is_ready}
use Rattle.rules.specs.Lines.{ready, in_line}
use Rattle.rules.specs.declared.Thread.{Thread}
use Rattle.fairness.specs.Run.{sum_turns}
use Rattle.lanes.specs.Lag.{sum_over, lag_of, lag}
use Rattle.lanes.specs.Report.{lane_of, lane_lines}

over_append : (p : ℕ) (f : ℕ → ℕ) (i : ℕ) (xs ys : List Thread) → sum_over p f i (xs ++ ys) ≡ sum_over p f i xs + sum_over p f (i + length xs) ys
unfolding sum_over
over_append p f i [] ys = let place : i ≡ i + 0 = omega arith in ap (λ k. sum_over p f k ys) place ∙ omega arith
over_append p f i (x ∷ xs) ys =
    let rest : sum_over p f (suc i + length xs) ys ≡ sum_over p f (i + suc (length xs)) ys = ap (λ k. sum_over p f k ys) (omega arith) in
    omega (arith, over_append p f (suc i) xs ys, rest)

lines_append : (f : ℕ → ℕ) (s : State) (i : ℕ) (xs ys : List Thread) → lane_lines f s i (xs ++ ys) ≡ lane_lines f s i xs ++ lane_lines f s (i + length xs) ys
unfolding lane_lines
lines_append f s i [] ys = ap (λ k. lane_lines f s k ys) (omega arith)
lines_append f s i (x ∷ xs) ys =
    let line = lane_of f s i x in
    ap (λ l. line ++ l) (lines_append f s (suc i) xs ys)
    ∙ ap (λ k. line ++ (lane_lines f s (suc i) xs ++ lane_lines f s k ys)) (omega arith)
    ∙ sym (append_assoc line (lane_lines f s (suc i) xs) (lane_lines f s (i + suc (length xs)) ys))

module _ (ts : List Thread) (j : ℕ) (h : j < length ts) where
  one_more : take (j + 1) ts ≡ take j ts ++ (at ts j ∷ [])
  one_more = ap (λ k. take k ts) (add-one j) ∙ take-suc ts j free h

  place : 0 + length (take j ts) ≡ j
  place = omega (arith, length-take-le j ts (omega arith))

  pub over_turn : (p : ℕ) (f : ℕ → ℕ) → sum_over p f 0 (take (j + 1) ts) ≡ sum_over p f 0 (take j ts) + (if in_line (ready p) (at ts j) then f j else 0)
  unfolding sum_over
  over_turn p f =
      ap (sum_over p f 0) one_more
      ∙ over_append p f 0 (take j ts) (at ts j ∷ [])
      ∙ ap (λ k. sum_over p f 0 (take j ts) + ((if in_line (ready p) (at ts j) then f k else 0) + 0)) place
      ∙ omega arith

  pub lines_turn : (f : ℕ → ℕ) (s : State) → lane_lines f s 0 (take (j + 1) ts) ≡ lane_lines f s 0 (take j ts) ++ lane_of f s j (at ts j)
  unfolding lane_lines
  lines_turn f s =
      ap (lane_lines f s 0) one_more
      ∙ lines_append f s 0 (take j ts) (at ts j ∷ [])
      ∙ ap (λ k. lane_lines f s 0 (take j ts) ++ (lane_of f s k (at ts j) ++ [])) place
      ∙ ap (λ l. lane_lines f s 0 (take j ts) ++ l) (append-nil (lane_of f s j (at ts j)))

-- THE LAG of a thread, by whether it is ready

module _ (f : ℕ → ℕ) (s : State) (i : ℕ) where
  pub lag_unready : is_ready (at s.threads i) ≡ false → pos 0 ≡ lag f s i
  unfolding lag
  lag_unready e = rw e

  pub lag_ready : is_ready (at s.threads i) ≡ true
      → sub_ℕ (f i * sum_turns (at s.threads i).priority s.threads) ((at s.threads i).turn * sum_over (at s.threads i).priority f 0 s.threads) ≡ lag f s i
  unfolding lag lag_of
  lag_ready e = rw e

-- what is counted of a number is not more
pub counted_most : (b : Bool) (n : ℕ) → (if b then n else 0) ≤ n
counted_most true n = omega arith
counted_most false n = omega arith
