-- ORDER 7, its own sentences, said of the door. "Operation 21 takes a number from 1 to 99,999 and does that many ticks: table and answer equal
-- those of that many single ones. Operation 22 gives as value the least number of ticks after which, if only ticks come, some timed wait ends,
-- and 0 if there is none."
-- A single tick is a call of the door with a tick's record, and who waits is read off the tables that such calls leave.
use Rattle.std.specs.Prelude.{true, false, ◌≡◌, List, ℕ, zero, suc, ◌≤◌, ◌<◌, ℤ, pos, length, Ok}
use Rattle.rules.specs.Board.{Board}
use Rattle.rules.specs.State.{at, counter_of, waiting}
use Rattle.rules.specs.Table.{decode}
use Rattle.rules.specs.Answers.{area_length}
use Rattle.rules.specs.Requests.{tick_record}
use Rattle.rules.specs.Sound.{SoundTable}
use Rattle.rules.specs.Door.{Doored, answered, door}
use Rattle.rules.specs.declared.Reply.TheVariants.{Done}
use Rattle.rules.specs.declared.Request.TheVariants as Ask
use Rattle.request.specs.Written.{written}

-- what n single ticks give: each finds the table and the area that the call before it leaves
unfoldable pub tick_times : Board → ℕ → Doored → Doored
tick_times b zero d = d
tick_times b (suc n) d = tick_times b n (door b d.table tick_record d.area)

-- table t and area a, as they are found behind a call that gave code c
abbrev pub found : ℤ → List ℕ → List ℕ → Doored
found c t a = record { code = c; table = t; area = a }

-- "if only ticks come": the table after n of them, from table t and area a
abbrev pub after_ticks : Board → List ℕ → List ℕ → ℕ → List ℕ
after_ticks b t a n = (tick_times b n (found (pos 0) t a)).table

-- thread i waits in table t
abbrev pub waits : Board → List ℕ → ℕ → Type 0
waits b t i = waiting (at (decode b t).threads i).wait ≡ true

-- who waits in table t waits in table u too
abbrev pub AllWait : Board → List ℕ → List ℕ → Type 0
AllWait b t u = (i : ℕ) → waits b t i → waits b u i

-- "some timed wait ends": a thread that waits in table t, and not forever, waits no more in table u
pub record OneEnds (b : Board) (t u : List ℕ) : Type 0 where
  pub thread : ℕ
  pub waited : waits b t thread
  -- "0 to 99,999, where 0 is forever"
  pub timed : 1 ≤ counter_of (at (decode b t).threads thread).wait
  pub ended : waiting (at (decode b u).threads thread).wait ≡ false

-- what operation 22 is given of table t
pub record Soonest (b : Board) (t a : List ℕ) (d : Doored) : Type 0 where
  -- "gives as value" this number, which the four bytes of a value hold; the table stays
  pub value : ℕ
  pub fits : value ≤ 99999
  pub answer : d ≡ answered t (Ok (Done value))
  -- "the least number of ticks": before, every wait goes on;
  pub before : (n : ℕ) → n < value → AllWait b t (after_ticks b t a n)
  -- "after which, if only ticks come, some timed wait ends,"
  pub after : 1 ≤ value → OneEnds b t (after_ticks b t a value)
  -- "and 0 if there is none": every wait goes on for ever
  pub none : value ≡ 0 → (n : ℕ) → AllWait b t (after_ticks b t a n)

pub record Slept : Type 0 where
  -- "Operation 21 takes a number from 1 to 99,999 and does that many ticks: table and answer equal those of that many single ones." So it is with any
  -- table and any area: where they get −7, each tick gets it too. No code that was given before is read.
  pub same : (b : Board) (t a : List ℕ) (c : ℤ) (n : ℕ) → 1 ≤ n → n ≤ 99999 → door b t (written (Ask.Ticks n)) a ≡ tick_times b n (found c t a)
  -- "Operation 22 gives as value", where it is not refused with −7
  pub nearest : (b : Board) (t a : List ℕ) → SoundTable b t → length a ≡ area_length → Soonest b t a (door b t (written Ask.Nearest) a)
