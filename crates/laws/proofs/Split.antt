-- A case split on a test that remembers the test's value. Assumes nothing.
use Rattle.std.specs.Prelude.{if◌then◌else◌}
use mathlib.Core.Bool.{Bool, true, false, ◌&&◌, ◌||◌}
use mathlib.Core.Path.{◌≡◌, refl, sym}
use mathlib.Core.Logic.{◌↔◌}
use Prim.Native.Nat.{ℕ}
use native.Mathlib.Omega.{arith}

pub data Is (b : Bool) : Type 0 where
  is : b ≡ true → Is b
  isnt : b ≡ false → Is b

pub test : (b : Bool) → Is b
test true = is refl
test false = isnt refl

-- both at once is absurd
pub clash : {b : Bool} → b ≡ true → b ≡ false → ⊥
clash {b} p q = let z : ◌≡◌ {A = ℕ} 0 1 = cc in omega arith

-- two tests that pass together are one
pub pass_together : (a b : Bool) → (a ≡ true) ↔ (b ≡ true) → a ≡ b
pass_together true b h = sym (h.0 refl)
pass_together false true h = h.1 refl
pass_together false false h = refl

pub and_true : (a b : Bool) → a && b ≡ true → (a ≡ true) × (b ≡ true)
and_true true b e = (refl, e)
and_true false b e = absurd (clash e refl)

pub and_both : (a b : Bool) → a ≡ true → b ≡ true → a && b ≡ true
and_both a b p q = cc

pub and_off : (a : Bool) → a && false ≡ false
and_off true = refl
and_off false = refl

pub or_false : (a b : Bool) → a || b ≡ false → (a ≡ false) × (b ≡ false)
or_false true b e = absurd (clash refl e)
or_false false b e = (refl, e)

-- what holds of both branches, each with its test's value, holds of the whole
pub if_case {ℓ} : {A : Type 0} (P : A → Type ℓ) (b : Bool) {x y : A} → (b ≡ true → P x) → (b ≡ false → P y) → P (if b then x else y)
if_case P true f g = f refl
if_case P false f g = g refl
