-- A number of eight bytes is 0 exactly when each of them is, so bytes are tested for 0 eight at a time. Assumes nothing.
use mathlib.Core.Bool.{true}
use mathlib.Core.Path.{◌≡◌}
use mathlib.Core.Logic.{◌↔◌}
use mathlib.Core.List.{List}
use Prim.Native.Nat.{ℕ, zero, suc, ◌+◌, ◌-◌, ◌/◌, ◌≤◌, ◌<◌}
use native.Mathlib.Nat.{add-zero}
use native.Mathlib.Omega.{arith}
use native.Mathlib.Decide.{dec_lt}
use borrow.Author.Tests.{eqb-true, eq-eqb}
use lib.Dec.{eqb}
use lib.ListN.{get_or}
use Rattle.rules.specs.Board.{record_length}
use Rattle.rules.specs.Table.{word_at}
use Rattle.laws.proofs.Counts.{below_at, below_of}
use Rattle.layout.specs.Canon.{rest_zero}
use Rattle.layout.proofs.Canonical.{rest_at, rest_of}
use Rattle.words.specs.Long.{long_at}
use Rattle.canon.specs.Zero.{record_zero}

-- byte by byte
module _ (t : List ℕ) (base : ℕ) where
  pub record_zeros : record_zero t base ≡ true → (k : ℕ) → k < record_length → get_or t (base + k) 0 ≡ 0
  unfolding record_zero
  record_zeros e k h = eqb-true _ 0 (below_at record_length (λ k. eqb (get_or t (base + k) 0) 0) e k h)

  pub zeros_record : ((k : ℕ) → k < record_length → get_or t (base + k) 0 ≡ 0) → record_zero t base ≡ true
  unfolding record_zero
  zeros_record z = below_of record_length (λ k. eqb (get_or t (base + k) 0) 0) (λ k h. eq-eqb _ 0 (z k h))

-- eight bytes at a time
module _ (t : List ℕ) where
  word_zero : (m : ℕ) → word_at t m ≡ 0 → (r : ℕ) → r < 4 → get_or t (m + r) 0 ≡ 0
  word_zero m e zero h = rw add-zero (omega arith)
  word_zero m e (suc zero) h = omega arith
  word_zero m e (suc (suc zero)) h = omega arith
  word_zero m e (suc (suc (suc zero))) h = omega arith
  word_zero m e (suc (suc (suc (suc r)))) h = absurd (omega arith)

  zero_word : (m : ℕ) → ((r : ℕ) → r < 4 → get_or t (m + r) 0 ≡ 0) → word_at t m ≡ 0
  zero_word m h = omega (arith, rw add-zero at (h 0 (omega arith)), h 1 (omega arith), h 2 (omega arith), h 3 (omega arith))

  long_zero : (m : ℕ) → long_at t m ≡ 0 → (r : ℕ) → r < 8 → get_or t (m + r) 0 ≡ 0
  long_zero m e r h = elim (dec_lt r 4) [
    | yes l ↦ word_zero m (omega arith) r l
    | no l ↦ let a : m + r ≡ m + 4 + (r - 4) = omega arith in rw a (word_zero (m + 4) (omega arith) (r - 4) (omega arith))
  ]

  zero_long : (m : ℕ) → ((r : ℕ) → r < 8 → get_or t (m + r) 0 ≡ 0) → long_at t m ≡ 0
  zero_long m h =
      let low = zero_word m (λ r q. h r (omega arith)) in
      let high = zero_word (m + 4) (λ r q. let a : m + 4 + r ≡ m + (4 + r) = omega arith in rw a (h (4 + r) (omega arith))) in
      omega (arith, low, high)

  module _ (base : ℕ) where
    pub longs_behind : (long_at t (base + 8) ≡ 0) → (long_at t (base + 16) ≡ 0) → (k : ℕ) → 8 ≤ k → k < record_length → get_or t (base + k) 0 ≡ 0
    longs_behind one two k l h = elim (dec_lt k 16) [
      | yes m ↦ let e : base + k ≡ base + 8 + (k - 8) = omega arith in rw e (long_zero (base + 8) one (k - 8) (omega arith))
      | no m ↦ let e : base + k ≡ base + 16 + (k - 16) = omega arith in rw e (long_zero (base + 16) two (k - 16) (omega arith))
    ]

    pub behind_longs : ((k : ℕ) → 8 ≤ k → k < record_length → get_or t (base + k) 0 ≡ 0) → (long_at t (base + 8) ≡ 0) × (long_at t (base + 16) ≡ 0)
    behind_longs z = (
      zero_long (base + 8) (λ r n. let e : base + 8 + r ≡ base + (8 + r) = omega arith in rw e (z (8 + r) (omega arith) (omega arith))),
      zero_long (base + 16) (λ r n. let e : base + 16 + r ≡ base + (16 + r) = omega arith in rw e (z (16 + r) (omega arith) (omega arith))),
    )

    -- the first eight as well
    pub record_is_zero : ((long_at t base ≡ 0) × ((k : ℕ) → 8 ≤ k → k < record_length → get_or t (base + k) 0 ≡ 0)) ↔ (record_zero t base ≡ true)
    record_is_zero = (
      λ z. zeros_record t base (λ k h. elim (dec_lt k 8) [ yes l ↦ long_zero base z.0 k l | no l ↦ z.1 k (omega arith) h ]),
      λ z. (zero_long base (λ r h. record_zeros t base z r (omega arith)), λ k l h. record_zeros t base z k h),
    )

    -- of the first eight all but n as well, where a number says that those are zero
    but_some : (n number : ℕ) → n ≤ 8 → (number ≡ 0) ↔ ((k : ℕ) → n ≤ k → k < 8 → get_or t (base + k) 0 ≡ 0)
        → ((number ≡ 0) × ((k : ℕ) → 8 ≤ k → k < record_length → get_or t (base + k) 0 ≡ 0)) ↔ (rest_zero n t base ≡ true)
    but_some n number m says = (
      λ z. rest_of n t base (λ k l h. elim (dec_lt k 8) [ yes q ↦ says.0 z.0 k l q | no q ↦ z.1 k (omega arith) h ]),
      λ z. (says.1 (λ k l h. rest_at n t base k l (omega arith) z), λ k l h. rest_at n t base k (omega arith) h z),
    )

    module _ (byte : (k : ℕ) → get_or t k 0 < 256) where
      -- what is left of eight bytes above the lowest two, and above the lowest six
      past_two : (long_at t base / 65536 ≡ 0) ↔ ((k : ℕ) → 2 ≤ k → k < 8 → get_or t (base + k) 0 ≡ 0)
      past_two = (
        λ e k l h. elim (dec_lt k 4) [
          | yes q ↦ elim (dec_lt k 3) [
            | yes m ↦ let a : k ≡ 2 = omega arith in rw a (omega (arith, byte base, byte (base + 1)))
            | no m ↦ let a : k ≡ 3 = omega arith in rw a (omega (arith, byte base, byte (base + 1)))
          ]
          | no q ↦ let a : base + k ≡ base + 4 + (k - 4) = omega arith in rw a (word_zero (base + 4) (omega (arith, byte base, byte (base + 1))) (k - 4) (omega arith))
        ],
        λ at.
            let high = zero_word (base + 4) (λ r h. let a : base + 4 + r ≡ base + (4 + r) = omega arith in rw a (at (4 + r) (omega arith) (omega arith))) in
            omega (arith, byte base, byte (base + 1), at 2 (omega arith) (omega arith), at 3 (omega arith) (omega arith), high),
      )

      past_six : (long_at t base / 281474976710656 ≡ 0) ↔ ((k : ℕ) → 6 ≤ k → k < 8 → get_or t (base + k) 0 ≡ 0)
      past_six =
          let six : base + 6 ≡ base + 4 + 2 = omega arith in
          let seven : base + 7 ≡ base + 4 + 3 = omega arith in
          let low : word_at t base < 4294967296 = omega (arith, byte base, byte (base + 1), byte (base + 2), byte (base + 3)) in (
            λ e k l h. elim (dec_lt k 7) [
              | yes m ↦ let a : k ≡ 6 = omega arith in rw (a, six) (omega (arith, low, byte (base + 4), byte (base + 4 + 1)))
              | no m ↦ let a : k ≡ 7 = omega arith in rw (a, seven) (omega (arith, low, byte (base + 4), byte (base + 4 + 1)))
            ],
            λ at. omega (arith, low, byte (base + 4), byte (base + 4 + 1), rw six at (at 6 (omega arith) (omega arith)), rw seven at (at 7 (omega arith) (omega arith))),
          )

      pub rest_is_zero : ((long_at t base / 65536 ≡ 0) × ((k : ℕ) → 8 ≤ k → k < record_length → get_or t (base + k) 0 ≡ 0)) ↔ (rest_zero 2 t base ≡ true)
      rest_is_zero = but_some 2 (long_at t base / 65536) (omega arith) past_two

      pub kernel_is_zero : ((long_at t base / 281474976710656 ≡ 0) × ((k : ℕ) → 8 ≤ k → k < record_length → get_or t (base + k) 0 ≡ 0)) ↔ (rest_zero 6 t base ≡ true)
      kernel_is_zero = but_some 6 (long_at t base / 281474976710656) (omega arith) past_six
