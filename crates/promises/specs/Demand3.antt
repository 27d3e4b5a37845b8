-- DEMAND 3. "Fairness: from any sound table, over any run of requests and ticks in which one rank's set of ready threads isn't empty at
-- the start and is the same after each step, none of them yields and none is named in an accepted change of settings (higher ranks may
-- break in, the scheduler may be locked): in every unbroken part of the run where the ticks charged to that rank equal the sum of the
-- threads' turns, each thread was charged exactly its own turn. An accepted tick is charged to the thread that was running, to nobody
-- while the lock is on; a refused one to nobody."
-- Order 7: "Demand 3 counts an accepted operation 21 as its single ticks: its premise is read after each, and a part may begin or end between
-- them." Order 8: "demand 3's premise names 23 and 24", which are the two changes of settings.
-- The crate `fairness` says what the set, a turn and a charged tick are, of any run (specs/Run.antt), and which runs are meant
-- (specs/Doors.antt).
use Rattle.std.specs.Prelude.{true, ◌≡◌, List, ℕ, ◌*◌, take, drop}
use Rattle.rules.specs.Basic.{count, all}
use Rattle.rules.specs.Board.{Board}
use Rattle.rules.specs.State.{State, at}
use Rattle.rules.specs.Table.{decode}
use Rattle.rules.specs.Sound.{SoundTable}
use Rattle.rules.specs.Door.{door, Handed}
use Rattle.fairness.specs.Run.{Event, ready_at, same_set, undisturbed, sum_turns, charged_to, charged_rank}
use Rattle.fairness.specs.Doors.{Door, run_of}

-- Where the demand speaks: a claim on a rank, the state at the start and a part of a run from table t. Of an empty set it claims nothing, so
-- that the set need not be said not to be empty.
abbrev pub InEveryPart : Board → List ℕ → List Event → (ℕ → State → List Event → Type 0) → Type 0
InEveryPart b t run Claim =
    (p : ℕ) (from steps : ℕ)
    -- "from any sound table"
    → SoundTable b t
    -- "is the same after each step"
    → all (same_set p) run ≡ true
    -- "none of them yields and none is named in an accepted change of settings"
    → all (undisturbed p) run ≡ true
    -- "in every unbroken part of the run"
    → Claim p (decode b t) (take steps (drop from run))

-- what the demand says of a run
abbrev pub Fair : Board → List ℕ → List Event → Type 0
Fair b t run = InEveryPart b t run (λ p s part.
    -- "the ticks charged to that rank equal the sum of the threads' turns"
    count (charged_rank p) part ≡ sum_turns p s.threads
    -- "each thread was charged exactly its own turn"
    → (i : ℕ) → ready_at p s i ≡ true → count (charged_to i) part ≡ (at s.threads i).turn)

-- of a door: "over any run of requests and ticks"
abbrev pub FairDoor : Board → Door → Type 0
FairDoor b d = (t : List ℕ) (hs : List Handed) → Fair b t (run_of b d t hs)

-- on a board of any number of threads
abbrev pub Demand3 : Type 0
Demand3 = (b : Board) → FairDoor b (door b)

-- THE SHARE. The demand speaks of one round; in k rounds each thread was charged k turns. So over whole rounds, of the ticks charged to the
-- rank, a thread has its turn out of the sum of the turns.
abbrev pub Shares : Board → List ℕ → List Event → Type 0
Shares b t run = InEveryPart b t run (λ p s part.
    (k : ℕ) → count (charged_rank p) part ≡ k * sum_turns p s.threads
    → (i : ℕ) → ready_at p s i ≡ true → count (charged_to i) part ≡ k * (at s.threads i).turn)

abbrev pub FairRounds : Board → Door → Type 0
FairRounds b d = (t : List ℕ) (hs : List Handed) → Shares b t (run_of b d t hs)

abbrev pub WholeRounds : Type 0
WholeRounds = (b : Board) → FairRounds b (door b)
