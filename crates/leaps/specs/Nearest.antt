-- ORDER 7: "Operation 22 gives as value the least number of ticks after which, if only ticks come, some timed wait ends, and 0 if there is
-- none": the value against the ticks themselves.
use Rattle.std.specs.Prelude.{true, false, ◌≡◌, ℕ, suc, ◌≤◌}
use Rattle.rules.specs.State.{State, at, counter_of, waiting}
use Rattle.rules.specs.Sound.{Sound}
use Rattle.rules.specs.Sleep.{ticks, nearest}

-- thread i waits
abbrev pub waits : State → ℕ → Type 0
waits s i = waiting (at s.threads i).wait ≡ true

-- every wait goes on for n ticks
abbrev pub GoOn : ℕ → State → Type 0
GoOn n s = (i : ℕ) → waits s i → waits (ticks n s) i

-- a timed wait has ended after n ticks
pub record Ends (n : ℕ) (s : State) : Type 0 where
  pub thread : ℕ
  pub waited : waits s thread
  pub timed : 1 ≤ counter_of (at s.threads thread).wait
  pub ended : waiting (at (ticks n s).threads thread).wait ≡ false

pub record Nearest (s : State) : Type 0 where
  pub none : nearest s.threads ≡ 0 → (n : ℕ) → GoOn n s
  pub before : (n : ℕ) → suc n ≤ nearest s.threads → GoOn n s
  pub then : (n : ℕ) → suc n ≡ nearest s.threads → Ends (suc n) s

abbrev pub NearestEnd : Type 0
NearestEnd = (s : State) → Sound s → Nearest s
