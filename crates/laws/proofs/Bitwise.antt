-- When the bits of two numbers together are none, or no more than those of one: by the sum of what both have and what either has.
-- Assumes nothing.
use mathlib.Core.Path.{◌≡◌, ap₂}
use mathlib.Core.Logic.{◌↔◌}
use Prim.Native.Nat.{ℕ, ◌≤◌}
use native.Mathlib.Omega.{arith}
use lib.Bits.{bit_or, or_add_and, and_le_l, and_le_r}

pub or_above : (a b : ℕ) → b ≤ bit_or a b
or_above a b = omega (arith, or_add_and a b, and_le_l a b)

pub or_none : (a b : ℕ) → (bit_or a b ≡ 0) ↔ ((a ≡ 0) × (b ≡ 0))
or_none a b = (λ e. (omega (arith, or_add_and a b, and_le_r a b), omega (arith, or_above a b)), λ h. ap₂ bit_or h.0 h.1)
