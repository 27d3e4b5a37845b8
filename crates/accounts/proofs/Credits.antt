-- The turns of whole rounds, as they are entered one thread after the other: a thread of the rank gets its own, and any other nothing. Assumes
-- nothing.
use mathlib.Core.Bool.{true, false}
use mathlib.Core.Path.{◌≡◌, refl, sym, ap, ◌∙◌}
use mathlib.Core.Logic.{◌≢◌}
use mathlib.Core.List.{List}
use Prim.Native.Nat.{ℕ, ◌+◌, ◌*◌, ◌≤◌, ◌<◌}
use native.Mathlib.Nat.{not-suc-le-zero}
use native.Mathlib.Omega.{arith}
use native.Mathlib.Decide.{ℕ_discrete}
use borrow.Author.Tests.{eq-eqb, ne_eqb}
use lib.ListN.{length, set, length-set}
use lib.Seq.{set-get_or, get_or-set_same, get_or-set_other}
use Rattle.rules.specs.State.{at}
use Rattle.rules.specs.Lines.{ready, in_line}
use Rattle.rules.specs.declared.Thread.{Thread}
use Rattle.leaps.specs.Charges.{turns_at, share}
use Rattle.lanes.specs.Kept.{of}
use Rattle.accounts.specs.Accounts.{more, Fits}
use Rattle.accounts.proofs.Leapt.{more_as, by_more}

module _ (p k : ℕ) (t u : Thread) (e : t ≡ u) where
  pub turns_in : in_line (ready p) t ≡ true → k * t.turn ≡ turns_at p k u
  turns_in m = rw (← e, m)

  turns_out : in_line (ready p) t ≡ false → turns_at p k u ≡ 0
  turns_out m = rw (← e, m)

  pub none_added : in_line (ready p) t ≡ false → (ns : List ℕ) (i : ℕ) → ns ≡ set ns i (of ns i + turns_at p k u)
  none_added m ns i = sym (ap (set ns i) (omega (arith, turns_out m)) ∙ set-get_or ns i 0)

-- ONE THREAD AFTER THE OTHER

-- the first i accounts have so much more, and the rest are as they were
pub record UpTo (f : ℕ → ℕ) (i : ℕ) (ns ms : List ℕ) : Type 0 where
  pub long : length ms ≡ length ns
  pub below : (j : ℕ) → j < i → of ms j ≡ of ns j + f j
  pub rest : (j : ℕ) → i ≤ j → of ms j ≡ of ns j

module _ (f : ℕ → ℕ) (ns : List ℕ) where
  pub up_to_none : UpTo f 0 ns ns
  up_to_none = record { long = refl; below = λ j h. absurd (not-suc-le-zero h); rest = λ j h. refl }

  pub up_to_next : (i : ℕ) (ms : List ℕ) → UpTo f i ns ms → i < length ns → UpTo f (i + 1) ns (set ms i (of ms i + f i))
  up_to_next i ms u b =
      let v = of ms i + f i in
      let others : (j : ℕ) → j ≢ i → of (set ms i v) j ≡ of ms j = λ j k. get_or-set_other ms i j v 0 k in
      record {
        long = length-set ms i v ∙ u.long;
        below = λ j h. elim (ℕ_discrete j i) [
          | yes e ↦ rw e (get_or-set_same ms i v 0 (omega (arith, u.long)) ∙ ap (λ n. n + f i) (u.rest i (omega arith)))
          | no k ↦ others j k ∙ u.below j (omega arith)
        ];
        rest = λ j h. others j (λ e. omega arith) ∙ u.rest j (omega arith);
      }

  pub up_to_all : (i : ℕ) (ms : List ℕ) → UpTo f i ns ms → length ns ≤ i → ms ≡ more f 0 ns
  up_to_all i ms u h = by_more f ns ms u.long (λ j b. u.below j (omega arith))

-- A LEAP, by how it is charged

module _ (ts : List Thread) (ran lock far rounds : ℕ) where
  pub none_credited : lock ≢ 0 → (ns : List ℕ) → ns ≡ more (share ts ran lock far rounds) 0 ns
  unfolding share
  none_credited z ns = by_more (share ts ran lock far rounds) ns ns refl (λ i h. rw (ne_eqb lock 0 z) (omega arith))

  module _ (z : lock ≡ 0) where
    pub own_share : rounds ≡ 0 → share ts ran lock far rounds ran ≡ far
    unfolding share
    own_share q = rw (eq-eqb lock 0 z, eq-eqb rounds 0 q, eq-eqb ran ran refl)

    other_share : rounds ≡ 0 → (i : ℕ) → i ≢ ran → share ts ran lock far rounds i ≡ 0
    unfolding share
    other_share q i k = rw (eq-eqb lock 0 z, eq-eqb rounds 0 q, ne_eqb ran i (λ e. k (sym e)))

    pub one_credited : rounds ≡ 0 → (ns : List ℕ) → ran < length ns → set ns ran (of ns ran + far) ≡ more (share ts ran lock far rounds) 0 ns
    one_credited q ns b =
        let v = of ns ran + far in
        by_more (share ts ran lock far rounds) ns (set ns ran v) (length-set ns ran v) (λ i h. elim (ℕ_discrete i ran) [
          | yes e ↦ rw e (get_or-set_same ns ran v 0 b ∙ ap (λ n. of ns ran + n) (sym (own_share q)))
          | no k ↦ get_or-set_other ns ran i v 0 k ∙ omega (arith, other_share q i k)
        ])

    module _ (q : rounds ≢ 0) (t : Thread) (e : t ≡ at ts ran) (ns : List ℕ) where
      rank_share : (i : ℕ) → share ts ran lock far rounds i ≡ turns_at t.priority rounds (at ts i)
      unfolding share
      rank_share i = rw (eq-eqb lock 0 z, ne_eqb rounds 0 q, e)

      pub rank_fits : Fits (share ts ran lock far rounds) ns → Fits (λ i. turns_at t.priority rounds (at ts i)) ns
      rank_fits h i = omega (arith, rank_share i, h i)

      pub rank_credited : more (λ i. turns_at t.priority rounds (at ts i)) 0 ns ≡ more (share ts ran lock far rounds) 0 ns
      rank_credited = more_as _ _ 0 ns (λ i. sym (rank_share i))
