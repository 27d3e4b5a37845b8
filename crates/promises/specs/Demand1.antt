-- DEMAND 1. "It takes every table and request handed to it, finishes, and never asks the caller to check first. A bad one gets the
-- refusal number that the rules name, and the table stays byte for byte as it was."
-- `door` is a function of every three lists of bytes; the code that computes it is proved to end for each.
use Rattle.std.specs.Prelude.{◌≡◌, ◌↔◌, List, ◌++◌, ℕ, negsuc, length, None, Some}
use Rattle.rules.specs.Board.{Board}
use Rattle.rules.specs.Table.{word_bytes, decode}
use Rattle.rules.specs.Answers.{refusal_code, bits_of, area_length, code_of, area_of}
use Rattle.rules.specs.Sound.{SoundTable}
use Rattle.rules.specs.Door.{Doored, door}
use Rattle.rules.specs.declared.Refusal.{Refusal}
use Rattle.rules.specs.declared.Refusal.TheVariants.{BadRecord}
use Rattle.rules.specs.Answers.{Answer}
use Rattle.rules.specs.declared.Request.{Request}
use Rattle.request.specs.Written.{written}
use Rattle.promises.specs.Refusals.{refusal, refusal_in}
use Rattle.promises.specs.Malformed.{Malformed}

-- "On every other refusal the table is untouched and the area holds the code and value 0", and the code is the returned number too.
abbrev pub refused_with : List ℕ → Refusal → Doored
refused_with t why = record { code = refusal_code why; table = t; area = word_bytes (bits_of (refusal_code why)) ++ word_bytes 0 }

-- an answer that is no refusal, in the area and as the returned number
pub record Accepted (d : Doored) : Type 0 where
  pub answer : Answer
  pub none : refusal_in answer ≡ None
  pub code : d.code ≡ code_of answer
  pub area : d.area ≡ area_of answer

-- what table t, record r and area a are given
pub record Answered (b : Board) (t r a : List ℕ) (d : Doored) : Type 0 where
  -- "−7: table unsound, or answer area not 8 bytes", "given exactly when" it is so;
  pub minus7 : (d.code ≡ negsuc 6) ↔ (SoundTable b t × (length a ≡ area_length) → ⊥)
  -- then "nothing is written and only the returned number says so."
  pub unsound : (SoundTable b t × (length a ≡ area_length) → ⊥) → d ≡ record { code = negsuc 6; table = t; area = a }
  -- "−8: record not 12 bytes, operation above 20, byte 3 or an unused field not zero", order 7: "−8 now starts above 22", "given exactly when"
  -- it is so, for "−7 is tested first"
  pub minus8 : SoundTable b t → length a ≡ area_length → (d.code ≡ negsuc 7) ↔ Malformed r
  pub malformed : SoundTable b t → length a ≡ area_length → Malformed r → d ≡ refused_with t BadRecord
  -- Any other record is what a request is written as (`Malformed.Decodes`). Any other refusal is the first in document 01's list whose
  -- condition holds,
  pub refused : SoundTable b t → length a ≡ area_length → (q : Request) → written q ≡ r
      → (why : Refusal) → refusal (decode b t) q ≡ Some why → d ≡ refused_with t why
  -- and none is given where none holds
  pub accepted : SoundTable b t → length a ≡ area_length → (q : Request) → written q ≡ r
      → refusal (decode b t) q ≡ None → Accepted d

abbrev pub Demand1 : Type 0
Demand1 = (b : Board) (t r a : List ℕ) → Answered b t r a (door b t r a)
