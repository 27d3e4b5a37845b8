-- Document 01, "How tight the promises are": "Tried and rejected: a kernel that refuses everything and one that hands the table back
-- (demand 2 shuts them out, and demand 3 as soon as two threads share a rank); one that answers 0 always (2); one that rotates only in
-- the first round (2 and 3); one whose semaphore value is invented (2)." Each is a door here, and does not meet the demand named.
use Rattle.std.specs.Prelude.{if◌then◌else◌, Bool, true, ◌&&◌, ◌≡◌, List, [], ◌∷◌, ℕ, eqb, ltb, pos, get_or, Ok}
use Rattle.rules.specs.Board.{Board, printer}
use Rattle.rules.specs.State.{State, caller, with_threads, edit}
use Rattle.rules.specs.Lines.{filled}
use Rattle.rules.specs.Table.{encode, decode}
use Rattle.rules.specs.Answers.{area_of}
use Rattle.rules.specs.Sound.{SoundTable}
use Rattle.rules.specs.Door.{door}
use Rattle.rules.specs.declared.Refusal.{Refusal}
use Rattle.rules.specs.declared.Reply.TheVariants.{Done}
use Rattle.rules.specs.declared.Request.{Request}
use Rattle.rules.specs.declared.Request.TheVariants as Ask
use Rattle.fairness.specs.Run.{is_zero}
use Rattle.promises.specs.Demand1.{refused_with}
use Rattle.promises.specs.Demand2.{Ruled}
use Rattle.fairness.specs.Doors.{Door}
use Rattle.promises.specs.Demand3.{FairDoor}
use Rattle.promises.specs.Figures.{asks, Run, share, Figures, figures}
use Rattle.promises.specs.Rounds.{start}

-- THE DEMANDS, of any door: demand 3 is `FairDoor`, and this is demand 2
abbrev pub RuledDoor : Board → Door → Type 0
RuledDoor b d = (t r a : List ℕ) → SoundTable b t → Ruled b t r a (d t r a)

-- THE DOORS

-- "a kernel that refuses everything": each call with the same number
abbrev pub refuses : Refusal → Door
refuses why t r a = refused_with t why

-- "one that hands the table back": all else is as the rules say
unfoldable pub hands_back : Door
hands_back t r a = let d = door printer t r a in record { code = d.code; table = t; area = d.area }

-- "one that answers 0 always"
unfoldable pub answers_zero : Door
answers_zero t r a = record { code = pos 0; table = (door printer t r a).table; area = area_of (Ok (Done 0)) }

-- the turn would go to a thread of the same rank with a lower number: a second round begins
abbrev goes_round : State → State → Bool
goes_round before after = ltb after.running before.running && eqb (caller after).priority (caller before).priority

-- "one that rotates only in the first round": then the thread that runs goes on with a full counter
unfoldable pub rotates_once : Door
rotates_once t r a =
    let d = door printer t r a in
    let before = decode printer t in
    let stuck = encode (with_threads (edit before.running filled before.threads) before) in
    record { code = d.code; table = if goes_round before (decode printer d.table) then stuck else d.table; area = d.area }

-- "one whose semaphore value is invented": 7 units are left after every Pend that takes one
unfoldable pub invents_value : Door
invents_value t r a =
    let d = door printer t r a in
    record { code = d.code; table = d.table; area = if eqb (get_or r 0 0) 13 && is_zero d.code then area_of (Ok (Done 7)) else d.area }

-- THE RUNS OF DEMAND 3

abbrev ticks : List Request
ticks = Ask.Tick ∷ Ask.Tick ∷ Ask.Tick ∷ Ask.Tick ∷ Ask.Tick ∷ Ask.Tick ∷ Ask.Tick ∷ Ask.Tick ∷ Ask.Tick ∷ Ask.Tick ∷ []

-- five ticks from the given one on
abbrev pub five : ℕ → Run
five from = record { table = start; handed = asks ticks; from = from; steps = 5 }

-- the premises hold; of 5 ticks charged to the rank thread 1 has l and thread 2 has r
abbrev gets : ℕ → ℕ → Figures
gets l r = record { sound = true; same = true; quiet = true; charged = 5; turns = 5; shares = share 1 2 l ∷ share 2 3 r ∷ [] }

pub record Counted : Type 0 where
  pub back : figures hands_back 5 (five 0) ≡ gets 5 0
  pub once : figures rotates_once 5 (five 5) ≡ gets 0 5

-- THE CLAIMS

pub record Rejected : Type 0 where
  -- "a kernel that refuses everything and one that hands the table back (demand 2 [..]"
  pub refuses2 : (why : Refusal) → RuledDoor printer (refuses why) → ⊥
  pub back2 : RuledDoor printer hands_back → ⊥
  -- "and demand 3 as soon as two threads share a rank)"
  pub back3 : FairDoor printer hands_back → ⊥
  -- "one that answers 0 always (2)"
  pub zero2 : RuledDoor printer answers_zero → ⊥
  -- "one that rotates only in the first round (2 and 3)"
  pub once2 : RuledDoor printer rotates_once → ⊥
  pub once3 : FairDoor printer rotates_once → ⊥
  -- "one whose semaphore value is invented (2)"
  pub value2 : RuledDoor printer invents_value → ⊥

-- Of the door that refuses everything demand 3 says nothing, on any board: a refused tick is charged to nobody, so the ticks charged are
-- never as many as the turns. Point 21 of docs/DECISIONS.md.
abbrev pub Refusing : Type 0
Refusing = (b : Board) (why : Refusal) → FairDoor b (refuses why)
