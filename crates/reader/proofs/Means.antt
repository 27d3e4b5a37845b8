-- What a reading says of the bytes: by cases on the two tests of `read_at`. Assumes nothing.
use Rattle.std.specs.Prelude.{if◌then◌else◌}
use mathlib.Core.Path.{◌≡◌, refl}
use mathlib.Core.Bool.{Bool, true, false}
use mathlib.Core.List.{List}
use Prim.Native.Nat.{ℕ, ◌+◌, ◌-◌, ◌≤◌, ◌<◌}
use native.Mathlib.Omega.{arith}
use lib.Dec.{ltb, leb}
use lib.ListN.{length}
use borrow.Author.Tests.{ltb-true, ltb-false, leb-true, leb-false}
use Rattle.rules.specs.Requests.{request_length}
use Rattle.reader.specs.Reading.{read_at}
use Rattle.reader.specs.declared.Read.{Read}
use Rattle.reader.specs.declared.Read.TheVariants.{Record, Short, End}

-- a record stands whole where it was asked for; left-over bytes are the last, and fewer than a record
abbrev pub Means : List ℕ → ℕ → Read → Type 0
Means bytes at (Record i) = (i ≡ at) × (at + request_length ≤ length bytes)
Means bytes at (Short n) = (at + n ≡ length bytes) × (0 < n) × (n < request_length)
Means bytes at End = length bytes ≤ at

means : (bytes : List ℕ) (at : ℕ) (inside whole : Bool) → ltb at (length bytes) ≡ inside → leb request_length (length bytes - at) ≡ whole
    → Means bytes at (if inside then (if whole then Record at else Short (length bytes - at)) else End)
means bytes at true true p q = (refl, omega (arith, ltb-true, leb-true))
means bytes at true false p q = (omega (arith, ltb-true, leb-false), omega (arith, ltb-true, leb-false), omega (arith, ltb-true, leb-false))
means bytes at false whole p q = omega (arith, ltb-false)

pub read_means : (bytes : List ℕ) (at : ℕ) → Means bytes at (read_at bytes at)
unfolding read_at
read_means bytes at = means bytes at (ltb at (length bytes)) (leb request_length (length bytes - at)) refl refl
