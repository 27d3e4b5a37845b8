-- A lag is a difference of two products of bounded numbers: it is exact in 64 bits on both sides of zero, and has 18 digits at the most.
-- Assumes nothing.
use mathlib.Core.Path.{◌≡◌, refl, sym, ap}
use Prim.Native.Nat.{ℕ, zero, suc, ◌-◌, ◌*◌, ◌≤◌}
use native.Mathlib.Omega.{arith}
use native.Mathlib.Nat.{mul-le-mul}
use lib.Dec.{ltb}
use borrow.Author.Tests.{le-ltb}
use lib.IntN.{pos, sub_ℕ, ◌-ℤ◌}
use lib.ListN.{length}
use mir.Syntax.{w64}
use mir.Val.{SFits, to_z}
use mir.ValLaws.{to_z_pos}
use Rattle.laws.proofs.Split.{is, isnt, test}
use Rattle.rules.specs.Board.{printer, most_ticks}
use Rattle.text.specs.Text.{signed}
use Rattle.text.proofs.Decimal.{decimal_room}
use Rattle.lanes.specs.Report.{most_charges}

difference : (a b : ℕ) → pos a -ℤ pos b ≡ sub_ℕ a b
difference a zero = sym (rw (le-ltb a 0 (omega arith)) (ap pos (omega arith)))
difference a (suc b) = refl

-- what both products are at the most
abbrev pub most : ℕ
most = printer.threads * most_ticks * most_charges

module _ (a b : ℕ) (h : a ≤ most) (k : b ≤ most) where
  -- as the machine reads both
  pub exact : to_z w64 a -ℤ to_z w64 b ≡ sub_ℕ a b
  exact = rw (to_z_pos w64 a (omega arith), to_z_pos w64 b (omega arith)) (difference a b)

  pub fits : SFits w64 (sub_ℕ a b)
  fits = elim (test (ltb a b)) [ is e ↦ rw e (record { sfits = omega arith }) | isnt e ↦ rw e (record { sfits = omega arith }) ]

  pub room : length (signed (sub_ℕ a b)) ≤ 19
  room = elim (test (ltb a b)) [
    | is e ↦ rw e (omega (arith, decimal_room 17 {n = suc (b - suc a)} (omega arith)))
    | isnt e ↦ rw e (omega (arith, decimal_room 17 {n = a - b} (omega arith)))
  ]

-- the product of what was charged and the turns, and that of a turn and all that was charged
pub ahead_most : (charged turns : ℕ) → charged ≤ most_charges → turns ≤ printer.threads * most_ticks → charged * turns ≤ most
ahead_most charged turns h k = omega (arith, mul-le-mul h k)

pub due_most : (turn all : ℕ) → turn ≤ most_ticks → all ≤ printer.threads * most_charges → turn * all ≤ most
due_most turn all h k = omega (arith, mul-le-mul h k)
