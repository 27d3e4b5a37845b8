-- What the trace reader found at a place: a record that is whole and stands there, or none. Assumes nothing.
use native.Mathlib.Omega.{arith}
use mathlib.Core.Path.{◌≡◌, refl, sym, subst, ◌∙◌}
use mathlib.Core.List.{List}
use Prim.Native.Nat.{ℕ, ◌+◌, ◌≤◌, ◌<◌}
use lib.ListN.{length, take, drop, length-drop}
use lib.Seq.{length-take-le}
use Rattle.rules.specs.Requests.{request_length}
use Rattle.reader.specs.declared.Read.{Read}
use Rattle.reader.specs.declared.Read.TheVariants.{Record, Short, End}
use Rattle.reader.specs.Reading.{read_at}
use Rattle.reader.proofs.Means.{Means, read_means}

-- what was read is a record: it is whole, and stands where it was asked for
pub whole : (bytes : List ℕ) (at i : ℕ) (r : Read) → r ≡ read_at bytes at → r ≡ Record i → (i ≡ at) × (at + request_length ≤ length bytes)
whole bytes at i r e k = subst (λ x. Means bytes at x) (sym e ∙ k) (read_means bytes at)

-- what was read is none
no_record : (bytes : List ℕ) (at : ℕ) (r : Read) → ((i : ℕ) → r ≡ Record i → ⊥) → Means bytes at r → length bytes < at + request_length
no_record bytes at (Record i) k m = absurd (k i refl)
no_record bytes at (Short n) k m = omega (arith, m)
no_record bytes at End k m = omega (arith, m)

pub none_whole : (bytes : List ℕ) (at : ℕ) (r : Read) → ((i : ℕ) → r ≡ Record i → ⊥) → r ≡ read_at bytes at → length bytes < at + request_length
none_whole bytes at r k e = no_record bytes at r k (subst (λ x. Means bytes at x) (sym e) (read_means bytes at))

-- its bytes are as many as a record has
pub record_long : (bytes : List ℕ) (i k : ℕ) → k ≡ request_length → i + request_length ≤ length bytes → length (take k (drop i bytes)) ≡ request_length
record_long bytes i k e h = length-take-le k (drop i bytes) (omega (arith, e, length-drop i bytes)) ∙ e
