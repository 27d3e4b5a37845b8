-- What an operation says of the table that it is lent: a table that held a state holds what the operation's rule makes of that state,
-- and the answer is the rule's.
use Rattle.std.specs.Prelude.{◌≡◌, List, ℕ}
use Rattle.rules.specs.State.{State}
use Rattle.rules.specs.Sound.{Sound}
use Rattle.rules.specs.Waiting.{Step}
use Rattle.rules.specs.Answers.{Answer}
use Rattle.layout.specs.Boards.{HasThread}
use Rattle.layout.specs.Held.{said, Holds, Whole}

-- a sound table: what an operation asks for
pub record Serves (t : List ℕ) : Type 0 where
  pub whole : Whole t
  pub runs : HasThread t (said t).running
  pub sound : Sound (said t)

pub record Does (before after : List ℕ) (given : Answer) (rule : State → Step) : Type 0 where
  pub whole : Whole after
  pub holds : (s : State) → Holds before s → Holds after (rule s).state
  pub answer : (s : State) → Holds before s → given ≡ (rule s).answer
