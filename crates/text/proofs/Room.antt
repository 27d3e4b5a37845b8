-- The longest numbers of each width: 20 digits for 64 bits, 10 for 32, 3 for 8, and a sign for a code. Assumes nothing.
use Prim.Native.Nat.{ℕ, suc, ◌≤◌}
use native.Mathlib.Omega.{arith}
use lib.IntN.{ℤ, pos, negsuc}
use lib.ListN.{length}
use mir.Syntax.{w8, w32, w64}
use mir.Val.{Fits, SFits}
use Rattle.text.specs.Text.{decimal, signed}
use Rattle.text.proofs.Decimal.{decimal_room}
use Rattle.text.proofs.Sign.{wide, wide_same}

pub room_64 : {n : ℕ} → Fits w64 n → length (decimal n) ≤ 20
room_64 f = decimal_room 19 (omega (arith, f.fits))

pub room_32 : {n : ℕ} → Fits w32 n → length (decimal n) ≤ 10
room_32 f = decimal_room 9 (omega (arith, f.fits))

pub room_8 : {n : ℕ} → Fits w8 n → length (decimal n) ≤ 3
room_8 f = decimal_room 2 (omega (arith, f.fits))

code_room : (z : ℤ) → SFits w32 z → length (signed z) ≤ 11
code_room (pos n) f = omega (arith, decimal_room 9 {n = n} (omega (arith, f.sfits)))
code_room (negsuc n) f = omega (arith, decimal_room 9 {n = suc n} (omega (arith, f.sfits)))

-- of a code as a callee that takes 64 bits reads it
pub room_code : {z : ℤ} → SFits w32 z → length (signed (wide z)) ≤ 11
room_code {z} f = rw (wide_same f) (code_room z f)
