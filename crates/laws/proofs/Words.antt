-- Four bytes make a word and a word has four bytes, and each way back is the other: both are digits to the base 256. Assumes nothing.
use mathlib.Core.Path.{◌≡◌}
use Prim.Native.Nat.{ℕ, ◌+◌, ◌*◌, ◌/◌, ◌%◌, ◌<◌}
use native.Mathlib.Omega.{arith}

-- the word that a word's bytes make
pub word_back : (x : ℕ) → x % 256 + 256 * (x / 256 % 256) + 65536 * (x / 65536 % 256) + 16777216 * (x / 16777216) ≡ x
word_back x = omega arith

-- the bytes of the word that four bytes make
pub word_of : (a b c d : ℕ) → a < 256 → b < 256 → c < 256 → d < 256
    → (let x = a + 256 * b + 65536 * c + 16777216 * d in (x % 256 ≡ a) × (x / 256 % 256 ≡ b) × (x / 65536 % 256 ≡ c) × (x / 16777216 ≡ d))
word_of a b c d ha hb hc hd = (omega arith, omega arith, omega arith, omega arith)
