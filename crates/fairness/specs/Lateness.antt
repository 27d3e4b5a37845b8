-- Fairness at every moment, of any number of threads: not only where rounds are whole, a thread of a rank is never far from its share of
-- the rank's ticks, and never late for it.
use Rattle.std.specs.Prelude.{true, ◌≡◌, List, ◌++◌, ℕ, ◌+◌, ◌*◌, ◌-◌, ◌≤◌, ◌<◌}
use Rattle.rules.specs.Basic.{count, all}
use Rattle.rules.specs.State.{State, at}
use Rattle.rules.specs.Sound.{Sound}
use Rattle.fairness.specs.Run.{Event, ready_at, sum_turns, charged_to, charged_rank}
use Rattle.fairness.specs.Fair.{RunFrom, steady}

-- a bound on four numbers: the sum of the turns of a rank's ready threads, the turn of one of them, the ticks charged to the rank between
-- two moments, and those of them that are charged to the thread
abbrev pub Bound : Type 1
Bound = (sum turn ticks own : ℕ) → Type 0

-- Of each `sum` ticks of the rank `turn` are the thread's share. `own * sum` is what it has and `turn * ticks` what it should have, both
-- times `sum`: it is never ahead by more than its turn times the sum of the others' turns, and never behind by more.
abbrev pub Near : Bound
Near sum turn ticks own = (own * sum ≤ turn * ticks + turn * (sum - turn)) × (turn * ticks ≤ own * sum + turn * (sum - turn))

-- A thread that is charged nothing waits for one turn of each other thread at most. While it is charged less than k of its turns, the
-- others are charged k of theirs at most.
abbrev pub InTime : Bound
InTime sum turn ticks own = (own ≡ 0 → ticks ≤ sum - turn) × ((k : ℕ) → own < k * turn → ticks ≤ own + k * (sum - turn))

-- Of k lanes of one turn each should have the k-th part of the ticks. k times what it has and the ticks are never further apart than k − 1
-- turns: of two such lanes neither is ever more than half a turn ahead of its half, or behind.
abbrev pub Even : Bound
Even sum turn ticks own = (k : ℕ) → sum ≡ k * turn → (k * own ≤ ticks + (k - 1) * turn) × (ticks ≤ k * own + (k - 1) * turn)

-- in every unbroken part of a steady run, wherever it begins and ends, for each thread of the rank's ready set
abbrev pub AtEveryMoment : Bound → Type 0
AtEveryMoment B =
    (p : ℕ) (s : State) (before part behind : List Event)
    → Sound s → RunFrom s (before ++ (part ++ behind)) → all (steady p) (before ++ (part ++ behind)) ≡ true
    → (i : ℕ) → ready_at p s i ≡ true
    → B (sum_turns p s.threads) (at s.threads i).turn (count (charged_rank p) part) (count (charged_to i) part)
