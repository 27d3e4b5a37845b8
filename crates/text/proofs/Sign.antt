-- A signed number as the machine reads it: it is the number. Assumes nothing.
use mathlib.Core.Path.{◌≡◌, ◌∙◌}
use native.Mathlib.Omega.{arith}
use lib.IntN.{ℤ}
use mir.Syntax.{w32, w64}
use mir.Val.{SFits, to_z, of_z}
use mir.ValLaws.{to_z-of_z}

-- the number as the machine reads it
abbrev pub read : ℤ → ℤ
read z = to_z w64 (of_z w64 z)

-- a number of 32 bits as the machine reads it, and as it reads that in 64
abbrev pub narrow : ℤ → ℤ
narrow z = to_z w32 (of_z w32 z)

abbrev pub wide : ℤ → ℤ
wide z = read (narrow z)

widens : {z : ℤ} → SFits w32 z → SFits w64 (narrow z)
widens {z} f = rw (to_z-of_z w32 z f) (record { sfits = omega (arith, f.sfits) })

pub wide_same : {z : ℤ} → SFits w32 z → wide z ≡ z
wide_same {z} f = to_z-of_z w64 (narrow z) (widens f) ∙ to_z-of_z w32 z f
