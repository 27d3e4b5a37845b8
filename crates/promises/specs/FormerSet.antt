-- ORDER 8. "Set does two jobs. [..] Split it": wherever document 01's Set, the former operation 3, was accepted, operation 24 and then 23 are
-- accepted and give what it gave; and so do 23 and then 24. Of the two, 23 with "the same priority changes nothing".
use Rattle.std.specs.Prelude.{if◌then◌else◌, true, not, ◌&&◌, ◌≡◌, List, ℕ, ◌≤◌, eqb, length, Ok}
use Rattle.rules.specs.Board.{Board}
use Rattle.rules.specs.State.{State, at, is_ready, with_priority, with_turn, edit}
use Rattle.rules.specs.Lines.{filled, move}
use Rattle.rules.specs.Table.{encode, decode}
use Rattle.rules.specs.Answers.{area_length}
use Rattle.rules.specs.Waiting.{Step, refuse, accept_threads}
use Rattle.rules.specs.Threads.{no_thread, bad_priority, bad_ticks}
use Rattle.rules.specs.Steps.{step}
use Rattle.rules.specs.Sound.{SoundTable}
use Rattle.rules.specs.Door.{answered, door}
use Rattle.rules.specs.declared.Thread.{Thread}
use Rattle.rules.specs.declared.Reply.TheVariants.{Done}
use Rattle.rules.specs.declared.Refusal.TheVariants.{BadThread, BadPriority, BadTicks, BadOperation}
use Rattle.rules.specs.declared.Request.{Request}
use Rattle.rules.specs.declared.Request.TheVariants as Ask
use Rattle.request.specs.Written.{written}

-- "New priority and turn"
abbrev pub with_settings : ℕ → ℕ → Thread → Thread
with_settings p n t = with_priority p (with_turn n t)

-- Document 01: "Set −2, −3, −1, −5. −5 for Init. New priority and turn; a ready thread takes a full counter and, only if the priority differs,
-- goes to the new line's tail; any other keeps its counter."
unfoldable pub former_set : State → ℕ → ℕ → ℕ → Step
former_set s i p n =
    if bad_priority p then refuse s BadPriority else
    if bad_ticks n then refuse s BadTicks else
    if no_thread s i then refuse s BadThread else
    if eqb i 0 then refuse s BadOperation else
    if is_ready (at s.threads i) && not (eqb (at s.threads i).priority p)
    then accept_threads s (move i (with_settings p n) s.threads)
    else accept_threads s (edit i (λ t. filled (with_settings p n t)) s.threads)

-- two requests, one behind the other, and a step: the first is accepted, and the second gives what the step gives
pub record Gives (s : State) (first second : Request) (r : Step) : Type 0 where
  pub begins : (step s first).answer ≡ Ok (Done 0)
  pub ends : step (step s first).state second ≡ r

pub record FormerSet : Type 0 where
  -- "operation 23 sets the priority [..], operation 24 sets the turn": of any state, sound or not
  pub turn_first : (s : State) (i p n : ℕ) → (former_set s i p n).answer ≡ Ok (Done 0) → Gives s (Ask.SetTurn i n) (Ask.SetPriority i p) (former_set s i p n)
  pub priority_first : (s : State) (i p n : ℕ) → (former_set s i p n).answer ≡ Ok (Done 0) → Gives s (Ask.SetPriority i p) (Ask.SetTurn i n) (former_set s i p n)
  -- where it was refused, one of the two is
  pub accepted : (s : State) (i p n : ℕ) → (step s (Ask.SetTurn i n)).answer ≡ Ok (Done 0) → (step s (Ask.SetPriority i p)).answer ≡ Ok (Done 0)
      → (former_set s i p n).answer ≡ Ok (Done 0)
  -- the same over bytes, by two calls of the door
  pub at_the_door : (b : Board) (t a c : List ℕ) (i p n : ℕ) → SoundTable b t → length a ≡ area_length → length c ≡ area_length
      → (former_set (decode b t) i p n).answer ≡ Ok (Done 0)
      → door b (door b t (written (Ask.SetTurn i n)) a).table (written (Ask.SetPriority i p)) c ≡ answered (encode (former_set (decode b t) i p n).state) (Ok (Done 0))

-- "the same priority changes nothing": of a thread that is in use and is not Init, it answers 0 and leaves the table byte for byte
abbrev pub SamePriority : Type 0
SamePriority = (b : Board) (t a : List ℕ) (i : ℕ) → SoundTable b t → length a ≡ area_length → 1 ≤ i → (at (decode b t).threads i).used ≡ true
    → door b t (written (Ask.SetPriority i (at (decode b t).threads i).priority)) a ≡ answered t (Ok (Done 0))
