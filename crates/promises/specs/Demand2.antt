-- DEMAND 2. "For every request, interrupt and tick, the answer, the next table and the running thread are those of the RMP manual's
-- rules as document 01 completes them." Order 8: "Demand 2 reads [operations 23 and 24] in the place of 001's Set".
-- The rules are the definitions of crate `rules`; the kernel's code is proved to give what they say. Here is what they then keep true.
use Rattle.std.specs.Prelude.{true, ◌≡◌, List, ◌++◌, ℕ, ◌≤◌, pos, length, get_or, Some}
use Rattle.rules.specs.Board.{Board, printer}
use Rattle.rules.specs.State.{State, at, caller, is_ready}
use Rattle.rules.specs.Table.{word_bytes, encode, decode}
use Rattle.rules.specs.Answers.{area_length}
use Rattle.rules.specs.Requests.{decode_request}
use Rattle.rules.specs.Sound.{SoundTable}
use Rattle.rules.specs.Steps.{step}
use Rattle.rules.specs.Door.{Doored, answered, door, fresh_table, Handed, table_after}
use Rattle.rules.specs.declared.Request.{Request}
use Rattle.promises.specs.Ahead.{told}

-- "the running thread is the first of the highest non-empty line"
pub record RunsFirst (s : State) : Type 0 where
  pub ready : is_ready (caller s) ≡ true
  pub first : (caller s).place ≡ 1
  pub highest : (i : ℕ) → is_ready (at s.threads i) ≡ true → (at s.threads i).priority ≤ (caller s).priority

-- what the door makes of a sound table t, whatever the record and the area are
pub record Ruled (b : Board) (t r a : List ℕ) (d : Doored) : Type 0 where
  -- the answer and the next table are those of the request's rule,
  pub by_rule : length a ≡ area_length → (q : Request) → decode_request r ≡ Some q
      → d ≡ answered (encode (step (decode b t) q).state) (step (decode b t) q).answer
  -- order 1: "A Send or Pend that answers 1 now gives as its value the number of threads already in that line", by the bytes of table and
  -- record; "Delay and Receive keep value 0", and so does an outcome that is 1,
  pub ahead : d.code ≡ pos 1 → d.area ≡ word_bytes 1 ++ word_bytes (told b t (get_or r 0 0) (get_or r 1 0))
  -- the next table is sound again,
  pub sound : SoundTable b d.table
  -- "with lock 0, the running thread is the first of the highest non-empty line;"
  pub unlocked : (decode b d.table).lock ≡ 0 → RunsFirst (decode b d.table)
  -- "with lock above 0 it doesn't change."
  pub locked : ((decode b d.table).lock ≡ 0 → ⊥) → (decode b d.table).running ≡ (decode b t).running

pub record Demand2 : Type 0 where
  pub ruled : (b : Board) (t r a : List ℕ) → SoundTable b t → Ruled b t r a (door b t r a)
  -- a run of any length from a sound table stays sound, and so does one from a fresh table
  pub stays : (b : Board) (t : List ℕ) (hs : List Handed) → SoundTable b t → SoundTable b (table_after b t hs)
  pub fresh : (hs : List Handed) → SoundTable printer (table_after printer (fresh_table printer) hs)
