-- The door: for every table, record and answer area, whatever their lengths and bytes, the code, the table and the area after it.
use Rattle.std.specs.Prelude.{if◌then◌else◌, ◌&&◌, List, [], ◌∷◌, ℕ, pred, eqb, ℤ, length, replicate, Option, Some, None, Err}
use Rattle.rules.specs.Board.{Board}
use Rattle.rules.specs.State.{State, free, free_sem, with_place, with_counter}
use Rattle.rules.specs.Table.{encode, decode}
use Rattle.rules.specs.Answers.{Answer, code_of, area_length, area_of}
use Rattle.rules.specs.Requests.{decode_request}
use Rattle.rules.specs.Threads.{created}
use Rattle.rules.specs.Steps.{step}
use Rattle.rules.specs.Test.{sound_table}
use Rattle.rules.specs.declared.Refusal.TheVariants.{BadTable, BadRecord}
use Rattle.rules.specs.declared.Request.{Request}

pub record Doored : Type 0 where
  pub code : ℤ
  pub table : List ℕ
  pub area : List ℕ

-- the answer is written into the area and given back as the returned number too
abbrev pub answered : List ℕ → Answer → Doored
answered t a = record { code = code_of a; table = t; area = area_of a }

-- "On every other refusal the table is untouched and the area holds the code and value 0."
unfoldable pub serve_decoded : Board → List ℕ → Option Request → Doored
serve_decoded b t (Some request) = let r = step (decode b t) request in answered (encode r.state) r.answer
serve_decoded b t None = answered t (Err BadRecord)

-- "−7: table unsound, or answer area not 8 bytes": "nothing is written and only the returned number says so".
-- "−7 is tested first, then −8, then the order above."
unfoldable pub door : Board → List ℕ → List ℕ → List ℕ → Doored
door b t r a =
    let served = serve_decoded b t (decode_request r) in
    if eqb (length a) area_length && sound_table b t
    then served
    else record { code = code_of (Err BadTable); table = t; area = a }

-- "Fresh: Init in use, turn 10, counter 10, place 1, outcome 1; everything else 0."
unfoldable pub fresh : Board → State
fresh b = record {
  threads = with_place 1 (with_counter 10 (created 0 10)) ∷ replicate (pred b.threads) free;
  sems = replicate b.sems free_sem;
  running = 0;
  lock = 0;
}

-- order 6: "A fresh table now holds 1 there", where the ready word is
unfoldable pub fresh_table : Board → List ℕ
fresh_table b = encode (fresh b)

-- A RUN OF THE DOOR

-- what is handed to the door with a table
pub record Handed : Type 0 where
  pub request : List ℕ
  pub area : List ℕ

-- the table after a run, in which each call finds the table that the one before it leaves
unfoldable pub table_after : Board → List ℕ → List Handed → List ℕ
table_after b t [] = t
table_after b t (h ∷ hs) = table_after b (door b t h.request h.area).table hs
