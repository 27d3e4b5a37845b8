-- A count as a power of 2. Assumes nothing.
use Rattle.std.specs.Prelude.{if◌then◌else◌}
use mathlib.Core.Bool.{Bool, true, false}
use mathlib.Core.Path.{◌≡◌, ap, sym, ◌∙◌}
use mathlib.Core.List.{List}
use Prim.Native.Nat.{ℕ, suc, ◌+◌, ◌-◌, ◌*◌, ◌^◌, ◌≤◌, ◌<◌}
use native.Mathlib.Nat.{pow-suc, pow-le-pow_right, one-le-pow}
use native.Mathlib.Numerals.{add-one}
use native.Mathlib.Omega.{arith}
use lib.Count.{count_leading_zeros, leading_top}
use lib.ListN.{length, take}
use Rattle.rules.specs.Basic.{bit, count}
use Rattle.rules.specs.State.{free, at}
use Rattle.rules.specs.declared.Thread.{Thread}
use Rattle.laws.proofs.Turns.{count_turn}
use Rattle.laws.proofs.Word.{power_low}

-- one more, or not
pub power_turn : (n : ℕ) (b : Bool) → (if b then 2 * 2 ^ n else 2 ^ n) ≡ 2 ^ (n + bit b)
power_turn n true = rw add-one (omega (arith, pow-suc 2 n))
power_turn n false = let e : n + 0 ≡ n = omega arith in rw e

pub counted_turn : (test : Thread → Bool) (ts : List Thread) (j : ℕ) → j < length ts → {power : ℕ} {b : Bool} → power ≡ 2 ^ count test (take j ts) → b ≡ test (at ts j)
    → (if b then 2 * power else power) ≡ 2 ^ count test (take (j + 1) ts)
counted_turn test ts j h {power} {b} e d =
    ap (λ p. if b then 2 * p else p) e ∙ power_turn (count test (take j ts)) b
    ∙ ap (λ n. 2 ^ n) (ap (λ x. count test (take j ts) + bit x) d ∙ sym (count_turn test free ts j h))

pub power_most : (power j : ℕ) (b : Bool) → power ≤ 2 ^ j → (if b then 2 * power else power) ≤ 2 ^ (j + 1)
power_most power j true h = rw add-one (omega (arith, pow-suc 2 j))
power_most power j false h = rw add-one (omega (arith, pow-suc 2 j))

pub power_some : (power : ℕ) (b : Bool) → 1 ≤ power → 1 ≤ (if b then 2 * power else power)
power_some power true h = omega arith
power_some power false h = h

some : (j : ℕ) → 1 ≤ 2 ^ j
some j = one-le-pow j 2 (omega arith)

pub power_fits : (power j : ℕ) → power ≤ 2 ^ j → j < 63 → power < 2 ^ 63
power_fits power j h l =
    let more : 2 ^ suc j ≤ 2 ^ 63 = pow-le-pow_right {n = 2} (omega arith) {i = suc j} {j = 63} (omega arith) in
    omega (arith, pow-suc 2 j, more, some j)

-- the exponent is read off the leading zeros
pub exponent_is : (power : ℕ) → 1 ≤ power → power < 2 ^ 64 → (count_leading_zeros 64 power ≤ 63) × ((n : ℕ) → power ≡ 2 ^ n → 63 - count_leading_zeros 64 power ≡ n)
exponent_is power h l =
    let x = leading_top 64 power h l in
    let top : 63 - count_leading_zeros 64 power ≡ x.0 = omega (arith, x.1) in
    let above : power < 2 ^ (x.0 + 1) = rw add-one x.3 in (
      omega (arith, x.1),
      λ n e.
          let next : power < 2 ^ (n + 1) = rw add-one (omega (arith, pow-suc 2 n)) in
          omega (arith, top, power_low power n x.0 (omega arith) above, power_low power x.0 n x.2 next),
    )
