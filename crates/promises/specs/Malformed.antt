-- Document 01's condition for −8, written down apart from the decoder, byte by byte, so that it can disagree with it.
-- "−8: record not 12 bytes, operation above 20, byte 3 or an unused field not zero"; order 8: "−8 for 3 and above 24"
use Rattle.std.specs.Prelude.{Bool, false, ◌||◌, ◌≡◌, List, [], ◌∷◌, ◌++◌, ◌↔◌, ℕ, ◌≤◌, ◌<◌, eqb, length, get_or, None}
use Rattle.rules.specs.Requests.{decode_request}
use Rattle.rules.specs.declared.Request.{Request}
use Rattle.request.specs.Written.{written}
use Rattle.request.specs.Trips.{Bytes}

-- "Byte 0 operation; 1 object; 2 priority; 3 zero; 4-7 number; 8-11 data": the bytes of each field. The data is a parcel in the rules.
abbrev object : List ℕ
object = 1 ∷ []

abbrev priority : List ℕ
priority = 2 ∷ []

abbrev number : List ℕ
number = 4 ∷ 5 ∷ 6 ∷ 7 ∷ []

abbrev parcel : List ℕ
parcel = 8 ∷ 9 ∷ 10 ∷ 11 ∷ []

-- the column "Uses", by the operation's number: the bytes of the fields that it uses
unfoldable pub uses : List (List ℕ)
uses =
    -- 0 Yield
    []
    -- 1 Create: "object, priority, number (turn)"
    ∷ (object ++ priority ++ number)
    -- 2 Delete: "object"
    ∷ object
    -- order 8: "Operation 3 is gone."
    ∷ []
    -- 4 Suspend: "object"
    ∷ object
    -- 5 Resume: "object"
    ∷ object
    -- 6 Delay: "number"
    ∷ number
    -- 7 Cancel: "object"
    ∷ object
    -- 8 Send: "object, number (wait), data"
    ∷ (object ++ number ++ parcel)
    -- 9 Send from interrupt: "object, data"
    ∷ (object ++ parcel)
    -- 10 Receive: "number (wait)"
    ∷ number
    -- 11 Make semaphore: "object, number"
    ∷ (object ++ number)
    -- 12 Drop semaphore: "object"
    ∷ object
    -- 13 Pend: "object, number (wait)"
    ∷ (object ++ number)
    -- 14 Abort: "object (thread)"
    ∷ object
    -- 15 Post, 16 Post from interrupt: "object, number"
    ∷ (object ++ number)
    ∷ (object ++ number)
    -- 17 Lock, 18 Unlock
    ∷ []
    ∷ []
    -- 19 Tick
    ∷ []
    -- 20 Outcome: "object"
    ∷ object
    -- order 7: "Operation 21 takes a number", and 22 nothing
    ∷ number
    ∷ []
    -- order 8: "23 uses object and priority, 24 object and number."
    ∷ (object ++ priority)
    ∷ (object ++ number)
    ∷ []

abbrev pub has : List ℕ → ℕ → Bool
has [] k = false
has (x ∷ xs) k = eqb k x || has xs k

-- does an operation use byte k
abbrev pub used : ℕ → ℕ → Bool
used operation k = has (get_or uses operation []) k

pub data Malformed (r : List ℕ) : Type 0 where
  -- "record not 12 bytes"
  not_twelve : (length r ≡ 12 → ⊥) → Malformed r
  -- "operation above 20"; order 8: "−8 for 3 and above 24"
  gone : get_or r 0 0 ≡ 3 → Malformed r
  unknown : 24 < get_or r 0 0 → Malformed r
  -- "byte 3 [..] not zero"
  third : (get_or r 3 0 ≡ 0 → ⊥) → Malformed r
  -- "an unused field not zero": a byte behind the operation, in no field that the operation uses
  unused : (k : ℕ) → 1 ≤ k → used (get_or r 0 0) k ≡ false → (get_or r k 0 ≡ 0 → ⊥) → Malformed r

-- the decoder finds a record bad exactly then, and any other record of bytes is what some request is written as
pub record Decodes : Type 0 where
  pub bad : (r : List ℕ) → (decode_request r ≡ None) ↔ Malformed r
  pub other : (r : List ℕ) → Bytes r → (Malformed r → ⊥) → (q : Request) × (written q ≡ r)
