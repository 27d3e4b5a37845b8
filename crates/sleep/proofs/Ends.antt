-- The nearest end of a wait, from the last thread down. Assumes nothing.
use mathlib.Core.Path.{◌≡◌, ap, sym, ◌∙◌}
use mathlib.Core.List.{List}
use Prim.Native.Nat.{ℕ, suc, ◌-◌, ◌≤◌}
use native.Mathlib.Omega.{arith}
use lib.ListN.{length, drop, drop_of_length-le}
use lib.Seq.{drop-cons}
use Rattle.rules.specs.State.{free, at}
use Rattle.rules.specs.Sleep.{time_left, sooner, nearest}
use Rattle.rules.specs.declared.Thread.{Thread}

pub nearest_none : (n : ℕ) (ts : List Thread) → length ts ≡ n → 0 ≡ nearest (drop n ts)
unfolding nearest
nearest_none n ts e = sym (ap nearest (drop_of_length-le ts {i = n} (omega arith)))

pub nearest_turn : (i : ℕ) (ts : List Thread) → 1 ≤ i → i ≤ length ts → nearest (drop (i - 1) ts) ≡ sooner (time_left (at ts (i - 1)).wait) (nearest (drop i ts))
unfolding nearest
nearest_turn i ts h l =
    let e : suc (i - 1) ≡ i = omega arith in
    ap nearest (drop-cons ts (i - 1) free (omega arith)) ∙ ap (λ k. sooner (time_left (at ts (i - 1)).wait) (nearest (drop k ts))) e
