-- Between whole rounds. Demand 3 says what each thread of a rank is charged where the ticks make a round. Here, of the same runs, what holds
-- between any two moments: how far a thread can be ahead of its share of the rank's ticks or behind it, and how late it can come.
-- The crate `fairness` says the bounds themselves (specs/Lateness.antt), and `promises` where demand 3 speaks (specs/Demand3.antt).
use Rattle.std.specs.Prelude.{true, ◌≡◌, List, ℕ}
use Rattle.rules.specs.Basic.{count}
use Rattle.rules.specs.Board.{Board}
use Rattle.rules.specs.State.{at}
use Rattle.rules.specs.Door.{door, Handed}
use Rattle.fairness.specs.Run.{Event, ready_at, sum_turns, charged_to, charged_rank}
use Rattle.fairness.specs.Doors.{Door, run_of}
use Rattle.fairness.specs.Lateness.{Bound, Near, InTime, Even}
use Rattle.promises.specs.Demand3.{InEveryPart}

-- A bound that is kept in a run: "in every unbroken part of the run", wherever it begins and ends, for each thread of the rank's ready set. The
-- premises are demand 3's, but that the ticks need not make a round.
abbrev pub Kept : Bound → Board → List ℕ → List Event → Type 0
Kept B b t run = InEveryPart b t run (λ p s part.
    (i : ℕ) → ready_at p s i ≡ true
    → B (sum_turns p s.threads) (at s.threads i).turn (count (charged_rank p) part) (count (charged_to i) part))

-- by a door: "over any run of requests and ticks"
abbrev pub KeptBy : Bound → Board → Door → Type 0
KeptBy B b d = (t : List ℕ) (hs : List Handed) → Kept B b t (run_of b d t hs)

-- on a board of any number of threads: no thread is ever further from its share of the rank's ticks, ahead or behind, than its turn times the
-- sum of the others' turns, counted in parts of a tick of which a tick has as many as the turns sum to
abbrev pub NeverFar : Type 0
NeverFar = (b : Board) → KeptBy Near b (door b)

-- a thread that is charged nothing sees at most one turn of each other thread charged
abbrev pub NeverLate : Type 0
NeverLate = (b : Board) → KeptBy InTime b (door b)

-- of k lanes of one turn none is ever further from the k-th part of the ticks than k − 1 k-ths of a turn
abbrev pub EqualLanes : Type 0
EqualLanes = (b : Board) → KeptBy Even b (door b)
