-- "Requests: records of 12 bytes, no header. Byte 0 operation; 1 object; 2 priority; 3 zero; 4-7 number; 8-11 data."
use Rattle.std.specs.Prelude.{if◌then◌else◌, Bool, true, false, ◌&&◌, ◌||◌, List, [], ◌∷◌, ℕ, pred, eqb, length, get_or, replicate, Option, Some, None}
use Rattle.rules.specs.Table.{word_at}
use Rattle.rules.specs.declared.Request.{Request}
use Rattle.rules.specs.declared.Request.TheVariants as Ask

abbrev pub request_length : ℕ
request_length = 12

-- which of the four fields an operation uses, and the request that they make
pub record Operation : Type 0 where
  pub object : Bool
  pub priority : Bool
  pub number : Bool
  pub parcel : Bool
  pub asks : ℕ → ℕ → ℕ → ℕ → Request

abbrev ✓ : Bool
✓ = true

abbrev ✗ : Bool
✗ = false

abbrev uses : Bool → Bool → Bool → Bool → (ℕ → ℕ → ℕ → ℕ → Request) → Option Operation
uses o p n d r = Some (record { object = o; priority = p; number = n; parcel = d; asks = r })

-- a number that has no operation any more
abbrev gone : Option Operation
gone = None

-- document 01's column "Uses", in the order of the operations' numbers: object, priority, number, data. 21 and 22 are order 7's: 21 "takes a
-- number". Order 8: "Operation 3 is gone. 23 uses object and priority, 24 object and number."
abbrev pub operations : List (Option Operation)
operations =
    uses ✗ ✗ ✗ ✗ (λ o p n d. Ask.Yield)
    ∷ uses ✓ ✓ ✓ ✗ (λ o p n d. Ask.Create o p n)
    ∷ uses ✓ ✗ ✗ ✗ (λ o p n d. Ask.Delete o)
    ∷ gone
    ∷ uses ✓ ✗ ✗ ✗ (λ o p n d. Ask.Suspend o)
    ∷ uses ✓ ✗ ✗ ✗ (λ o p n d. Ask.Resume o)
    ∷ uses ✗ ✗ ✓ ✗ (λ o p n d. Ask.Delay n)
    ∷ uses ✓ ✗ ✗ ✗ (λ o p n d. Ask.Cancel o)
    ∷ uses ✓ ✗ ✓ ✓ (λ o p n d. Ask.Send o n d)
    ∷ uses ✓ ✗ ✗ ✓ (λ o p n d. Ask.SendFromInterrupt o d)
    ∷ uses ✗ ✗ ✓ ✗ (λ o p n d. Ask.Receive n)
    ∷ uses ✓ ✗ ✓ ✗ (λ o p n d. Ask.Make o n)
    ∷ uses ✓ ✗ ✗ ✗ (λ o p n d. Ask.Drop o)
    ∷ uses ✓ ✗ ✓ ✗ (λ o p n d. Ask.Pend o n)
    ∷ uses ✓ ✗ ✗ ✗ (λ o p n d. Ask.Abort o)
    ∷ uses ✓ ✗ ✓ ✗ (λ o p n d. Ask.Post o n)
    ∷ uses ✓ ✗ ✓ ✗ (λ o p n d. Ask.PostFromInterrupt o n)
    ∷ uses ✗ ✗ ✗ ✗ (λ o p n d. Ask.Lock)
    ∷ uses ✗ ✗ ✗ ✗ (λ o p n d. Ask.Unlock)
    ∷ uses ✗ ✗ ✗ ✗ (λ o p n d. Ask.Tick)
    ∷ uses ✓ ✗ ✗ ✗ (λ o p n d. Ask.Outcome o)
    ∷ uses ✗ ✗ ✓ ✗ (λ o p n d. Ask.Ticks n)
    ∷ uses ✗ ✗ ✗ ✗ (λ o p n d. Ask.Nearest)
    ∷ uses ✓ ✓ ✗ ✗ (λ o p n d. Ask.SetPriority o p)
    ∷ uses ✓ ✗ ✓ ✗ (λ o p n d. Ask.SetTurn o n)
    ∷ []

-- the operation that has this number, if one has
abbrev pub operation_of : ℕ → Option Operation
operation_of operation = get_or operations operation gone

-- a field that is used, or zero
abbrev pub kept : Bool → ℕ → Bool
kept used field = used || eqb field 0

abbrev pub asked_by : Option Operation → ℕ → ℕ → ℕ → ℕ → Option Request
asked_by None o p n d = None
asked_by (Some u) o p n d =
    if kept u.object o && kept u.priority p && kept u.number n && kept u.parcel d then Some (u.asks o p n d) else None

-- the request of an operation's number and its four fields
unfoldable pub request_of : ℕ → ℕ → ℕ → ℕ → ℕ → Option Request
request_of operation o p n d = asked_by (operation_of operation) o p n d

-- "−8: record not 12 bytes, operation above 20, byte 3 or an unused field not zero"; order 8: "−8 for 3
-- and above 24"
unfoldable pub decode_request : List ℕ → Option Request
decode_request r =
    if eqb (length r) request_length && eqb (get_or r 3 0) 0
    then request_of (get_or r 0 0) (get_or r 1 0) (get_or r 2 0) (word_at r 4) (word_at r 8)
    else None

-- the record of "19 Tick", which uses no field
abbrev pub tick_record : List ℕ
tick_record = 19 ∷ replicate (pred request_length) 0
