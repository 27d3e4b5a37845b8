-- Requests and records of bytes determine each other: what a request is written as is read as that request, and a record that is read as
-- a request is what that request is written as.
use Rattle.std.specs.Prelude.{List, ◌≡◌, ℕ, ◌<◌, get_or, Some}
use Rattle.rules.specs.Requests.{decode_request}
use Rattle.rules.specs.declared.Request.{Request}
use Rattle.request.specs.Written.{written}

abbrev pub Bytes : List ℕ → Type 0
Bytes bs = (k : ℕ) → get_or bs k 0 < 256

pub record Trips : Type 0 where
  pub there : (q : Request) → decode_request (written q) ≡ Some q
  pub back : (r : List ℕ) → Bytes r → (q : Request) → decode_request r ≡ Some q → written q ≡ r
