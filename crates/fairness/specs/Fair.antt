-- Fairness over states, of any number of threads: whoever the rules serve, each thread of a rank is charged its own turn.
use Rattle.std.specs.Prelude.{Bool, true, false, not, ◌&&◌, ◌≡◌, List, [], ◌∷◌, ◌++◌, ℕ, ◌*◌, eqb, Some}
use Rattle.rules.specs.Basic.{count, all}
use Rattle.rules.specs.State.{State, at}
use Rattle.rules.specs.Sound.{Sound}
use Rattle.rules.specs.Answers.{code_of}
use Rattle.rules.specs.Steps.{step}
use Rattle.rules.specs.declared.Request.{Request}
use Rattle.fairness.specs.Run.{Event, Deed, tick, yield, other, set_priority, set_turn, create, sleep, deed, accepted, ready_at, same_set, sum_turns, charged_to, charged_rank}

-- an event by the rules: it is refused and leaves the state as it is, or it is what `step` says
pub data ByRules (e : Event) : Type 0 where
  refused : accepted e ≡ false → e.after ≡ e.before → ByRules e
  served : (q : Request) → e.asked ≡ Some q → e.code ≡ code_of (step e.before q).answer → e.after ≡ (step e.before q).state → ByRules e

-- a run by the rules, from state s
abbrev pub RunFrom : State → List Event → Type 0
RunFrom s [] = Unit {0}
RunFrom s (e ∷ es) = (e.before ≡ s) × ByRules e × RunFrom e.after es

-- what disturbs a rank whose ready set stays the same, less than demand 3 names: a yield under lock does nothing, and so does a priority, which
-- either takes a thread out of the set or is the one that stands
abbrev pub moves : ℕ → State → Deed → Bool
moves p s tick = false
moves p s yield = eqb s.lock 0 && ready_at p s s.running
moves p s (set_priority i) = false
moves p s (set_turn i) = ready_at p s i
moves p s (create i) = false
moves p s other = false
moves p s (sleep n) = true

-- the rank's ready set stays the same, and nothing disturbs it
abbrev pub steady : ℕ → Event → Bool
steady p e = same_set p e && not (accepted e && moves p e.before (deed e.asked))

-- In every unbroken part of a steady run, where the ticks charged to the rank are k times as many as the turns of its ready threads sum to,
-- each of these threads is charged exactly k times its turn.
abbrev pub Fairness : Type 0
Fairness =
    (p k : ℕ) (s : State) (before part behind : List Event)
    → Sound s → RunFrom s (before ++ (part ++ behind)) → all (steady p) (before ++ (part ++ behind)) ≡ true
    → count (charged_rank p) part ≡ k * sum_turns p s.threads
    → (i : ℕ) → ready_at p s i ≡ true → count (charged_to i) part ≡ k * (at s.threads i).turn
