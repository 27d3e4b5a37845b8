-- Order 4: "Case 6 stands. Refusals: −5 narrowed, order unchanged." What Post refuses now, beside what document 01's own sentence refused. The
-- order of the refusals stands in `Refusals`.
use Rattle.std.specs.Prelude.{Bool, true, ◌||◌, ◌≡◌, ℕ, ◌+◌, ◌≤◌, eqb, ltb}
use Rattle.rules.specs.State.{State, sem_at}
use Rattle.rules.specs.declared.Request.TheVariants as Ask
use Rattle.promises.specs.Refusals.{locked, waiters_on, minus5}

-- "−5 if number is 0 or count + number is above 99": all units count, those that go to waiters too
abbrev pub before : State → ℕ → ℕ → Bool
before s k n = eqb n 0 || ltb 99 ((sem_at s.sems k).count + n)

pub record Narrowed : Type 0 where
  -- "−5 narrowed": what is refused now was refused before
  pub narrower : (s : State) (k n : ℕ) → minus5 s (Ask.Post k n) ≡ true → before s k n ≡ true
  -- "Case 6 stands", of every count and number: where nobody waits, document 01's sentence decides
  pub alone : (s : State) (k n : ℕ) → waiters_on s k ≡ 0 → minus5 s (Ask.Post k n) ≡ before s k n
  -- each waiter makes room for one unit more
  pub room : (s : State) (k n : ℕ) → (sem_at s.sems k).count ≤ 99 → minus5 s (Ask.Post k n) ≡ (eqb n 0 || ltb (99 + waiters_on s k) ((sem_at s.sems k).count + n))
  -- "from threads and interrupts": the same, "from an interrupt also under lock"
  pub interrupts : (s : State) (k n : ℕ) → minus5 s (Ask.PostFromInterrupt k n) ≡ (minus5 s (Ask.Post k n) || locked s)
