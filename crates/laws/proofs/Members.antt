-- Lists of threads, read by number: what an edit and a count make of each member. Assumes nothing.
use mathlib.Core.Bool.{Bool, true}
use mathlib.Core.Path.{◌≡◌, refl, ap}
use mathlib.Core.Logic.{◌≢◌}
use mathlib.Core.List.{List, [], ◌∷◌, map}
use Prim.Native.Nat.{ℕ, zero, suc, ◌+◌, ◌≤◌, ◌<◌}
use native.Mathlib.Omega.{arith}
use native.Mathlib.Decide.{ℕ_discrete, dec_lt}
use lib.ListN.{length, get_or, set, length-set, get_or-map, get_or-eq_default}
use lib.Seq.{get_or-set_same, get_or-set_other, set_out}
use Rattle.rules.specs.Basic.{bit, count}
use Rattle.rules.specs.State.{free, at, edit}
use Rattle.rules.specs.Lines.{Line, in_line}
use Rattle.rules.specs.declared.Thread.{Thread}
use Rattle.laws.proofs.Split.{clash}
use Rattle.laws.proofs.Sums.{Σ<, Σ_ext, Σ_one, Σ_swap}

pub edit_same : (ts : List Thread) (i : ℕ) (g : Thread → Thread) → i < length ts → at (edit i g ts) i ≡ g (at ts i)
edit_same ts i g h = get_or-set_same ts i (g (at ts i)) free h

pub edit_other : (ts : List Thread) (i j : ℕ) (g : Thread → Thread) → j ≢ i → at (edit i g ts) j ≡ at ts j
edit_other ts i j g h = get_or-set_other ts i j (g (at ts i)) free h

pub length_edit : (ts : List Thread) (i : ℕ) (g : Thread → Thread) → length (edit i g ts) ≡ length ts
length_edit ts i g = length-set ts i (g (at ts i))

-- what holds of the new element and of the old ones holds of each after a change of one
pub set_each : {A : Type 0} (P : ℕ → A → Type 0) (d : A) (xs : List A) (i : ℕ) (x : A) → P i x → ((j : ℕ) → P j (get_or xs j d)) → (j : ℕ) → P j (get_or (set xs i x) j d)
set_each P d xs i x h k j = elim (ℕ_discrete j i) [
  | no n ↦ rw (get_or-set_other xs i j x d n) (k j)
  | yes q ↦ elim (dec_lt i (length xs)) [
    | yes l ↦ rw (q, get_or-set_same xs i x d l) h
    | no l ↦ rw (set_out xs i x (omega arith)) (k j)
  ]
]

pub map_at : (ts : List Thread) (i : ℕ) (f : Thread → Thread) → f free ≡ free → at (map f ts) i ≡ f (at ts i)
map_at ts i f e = rw e at (get_or-map f ts i free)

-- a thread that is in a line has a number in range
pub in_range : (ts : List Thread) (i : ℕ) (l : Line) → in_line l (at ts i) ≡ true → i < length ts
in_range ts i l e = elim (dec_lt i (length ts)) [
  | yes h ↦ h
  | no h ↦ absurd (clash e (ap (in_line l) (get_or-eq_default ts free (omega arith))))
]

-- so has one that is in use
pub used_range : (ts : List Thread) (i : ℕ) → (at ts i).used ≡ true → i < length ts
used_range ts i e = elim (dec_lt i (length ts)) [
  | yes h ↦ h
  | no h ↦ absurd (clash e (ap (λ t. t.used) (get_or-eq_default ts free (omega arith))))
]

-- COUNTS, as sums over the numbers

pub Σ_shift : (n : ℕ) (f : ℕ → ℕ) → Σ< (suc n) f ≡ f 0 + Σ< n (λ j. f (suc j))
Σ_shift zero f = omega arith
Σ_shift (suc n) f = omega (arith, Σ_shift n f)

pub count_Σ : (f : Thread → Bool) (ts : List Thread) → count f ts ≡ Σ< (length ts) (λ j. bit (f (at ts j)))
count_Σ f [] = refl
count_Σ f (t ∷ ts) = omega (arith, count_Σ f ts, Σ_shift (length ts) (λ j. bit (f (at (t ∷ ts) j))))

-- a count goes by the members alone
pub count_ext : (f : Thread → Bool) (ts us : List Thread) → length us ≡ length ts → ((j : ℕ) → f (at us j) ≡ f (at ts j)) → count f us ≡ count f ts
count_ext f ts us e h = rw (count_Σ f us, count_Σ f ts, e) (Σ_ext (length ts) _ _ (λ j l. ap bit (h j)))

-- a count when one thread alone changes
pub count_change : (f : Thread → Bool) (ts us : List Thread) (i : ℕ) → i < length ts → length us ≡ length ts → ((j : ℕ) → j ≢ i → f (at us j) ≡ f (at ts j))
    → count f us + bit (f (at ts i)) ≡ count f ts + bit (f (at us i))
count_change f ts us i h e k = rw (count_Σ f us, count_Σ f ts, e) (Σ_swap (length ts) (λ j. bit (f (at us j))) (λ j. bit (f (at ts j))) i h (λ j l n. ap bit (k j n)))

pub count_pos : (f : Thread → Bool) (ts : List Thread) (i : ℕ) → i < length ts → f (at ts i) ≡ true → 1 ≤ count f ts
count_pos f ts i h e = omega (arith, count_Σ f ts, Σ_one (length ts) (λ j. bit (f (at ts j))) i h, ap bit e)
