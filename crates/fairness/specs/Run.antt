-- A run, event by event, and the words that demand 3 uses of it: the ready set of a rank, its threads' turns, and the ticks that are
-- charged. They compute from what was asked and answered; they know neither the rules nor the bytes.
use Rattle.std.specs.Prelude.{if◌then◌else◌, Bool, true, false, not, ◌&&◌, List, [], ◌∷◌, map, ℕ, ◌+◌, eqb, ℤ, pos, negsuc, None, Option, Some}
use Rattle.rules.specs.Basic.{bit, same_bytes}
use Rattle.rules.specs.State.{State, at}
use Rattle.rules.specs.Lines.{ready, in_line}
use Rattle.rules.specs.declared.Thread.{Thread}
use Rattle.rules.specs.declared.Request.{Request}
use Rattle.rules.specs.declared.Request.TheVariants as Ask

-- a step of a run: the state before it, what was asked, the code that was answered, and the state after it
pub record Event : Type 0 where
  pub before : State
  pub asked : Option Request
  pub code : ℤ
  pub after : State

-- the state that events leave
abbrev pub end_of : State → List Event → State
end_of s [] = s
end_of s (e ∷ es) = end_of e.after es

-- WHAT IS ASKED, as far as the demand tells requests apart

-- `set_priority i` gives thread i a priority and `set_turn i` a turn, `create i` is its creation, and `sleep n` is n ticks at once
pub data Deed : Type 0 where
  tick yield other : Deed
  set_priority set_turn create sleep : ℕ → Deed

abbrev pub deed_of : Request → Deed
deed_of Ask.Yield = yield
deed_of (Ask.Create i p n) = create i
deed_of (Ask.Delete i) = other
deed_of (Ask.Suspend i) = other
deed_of (Ask.Resume i) = other
deed_of (Ask.Delay n) = other
deed_of (Ask.Cancel i) = other
deed_of (Ask.Send i n x) = other
deed_of (Ask.SendFromInterrupt i x) = other
deed_of (Ask.Receive n) = other
deed_of (Ask.Make k n) = other
deed_of (Ask.Drop k) = other
deed_of (Ask.Pend k n) = other
deed_of (Ask.Abort i) = other
deed_of (Ask.Post k n) = other
deed_of (Ask.PostFromInterrupt k n) = other
deed_of Ask.Lock = other
deed_of Ask.Unlock = other
deed_of Ask.Tick = tick
deed_of (Ask.Outcome i) = other
deed_of (Ask.Ticks n) = sleep n
deed_of Ask.Nearest = other
deed_of (Ask.SetPriority i p) = set_priority i
deed_of (Ask.SetTurn i n) = set_turn i

-- a record that asks nothing is no such deed
abbrev pub deed : Option Request → Deed
deed (Some q) = deed_of q
deed None = other

abbrev pub is_tick : Deed → Bool
is_tick tick = true
is_tick yield = false
is_tick other = false
is_tick (set_priority i) = false
is_tick (set_turn i) = false
is_tick (create i) = false
is_tick (sleep n) = false

-- the ticks that are done at once
abbrev pub at_once : Deed → ℕ
at_once tick = 0
at_once yield = 0
at_once other = 0
at_once (set_priority i) = 0
at_once (set_turn i) = 0
at_once (create i) = 0
at_once (sleep n) = n

-- "accepted": a tick, a yield and a change of settings answer 0 unless they are refused
abbrev pub is_zero : ℤ → Bool
is_zero (pos n) = eqb n 0
is_zero (negsuc n) = false

abbrev pub accepted : Event → Bool
accepted e = is_zero e.code

-- the ticks that an accepted operation 21 does; 0 of any other event
abbrev pub slept : Event → ℕ
slept e = if accepted e then at_once (deed e.asked) else 0

-- THE RANK

-- is thread i ready at rank p
abbrev pub ready_at : ℕ → State → ℕ → Bool
ready_at p s i = in_line (ready p) (at s.threads i)

-- "one rank's set of ready threads": a 1 for each thread that is in it, by number, and a 0 for each other
abbrev pub ready_set : ℕ → State → List ℕ
ready_set p s = map (λ t. bit (in_line (ready p) t)) s.threads

-- "is the same after each step"
abbrev pub same_set : ℕ → Event → Bool
same_set p e = same_bytes (ready_set p e.after) (ready_set p e.before)

-- "the sum of the threads' turns"
abbrev pub sum_turns : ℕ → List Thread → ℕ
sum_turns p [] = 0
sum_turns p (t ∷ ts) = (if in_line (ready p) t then t.turn else 0) + sum_turns p ts

-- THE TICKS

-- "An accepted tick is charged [..], to nobody while the lock is on; a refused one to nobody."
abbrev pub charges : Event → Bool
charges e = is_tick (deed e.asked) && accepted e && eqb e.before.lock 0

-- "to the thread that was running"
abbrev pub charged_to : ℕ → Event → Bool
charged_to i e = charges e && eqb e.before.running i

-- "the ticks charged to that rank": to a thread of its ready set
abbrev pub charged_rank : ℕ → Event → Bool
charged_rank p e = charges e && ready_at p e.before e.before.running

-- THE THREADS' OWN DOING

-- "yields", "is named in [a] change of settings": a thread of the rank, if the request is accepted. Order 8: "demand 3's premise names 23 and
-- 24", so 23 also where the priority is the one that stands
abbrev pub disturbs : ℕ → State → Deed → Bool
disturbs p s tick = false
disturbs p s yield = ready_at p s s.running
disturbs p s (set_priority i) = ready_at p s i
disturbs p s (set_turn i) = ready_at p s i
disturbs p s (create i) = false
disturbs p s other = false
-- an accepted one is counted as its single ticks (`counted_as`), so that only the run of a wrong door has it: of one that accepts 0 ticks
disturbs p s (sleep n) = true

-- "none of them yields and none is named in an accepted change of settings"
abbrev pub undisturbed : ℕ → Event → Bool
undisturbed p e = not (accepted e && disturbs p e.before (deed e.asked))
