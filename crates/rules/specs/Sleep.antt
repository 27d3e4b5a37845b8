-- ORDER 7: "The battery printer stops its timer between tickets." Many ticks at once, and the nearest end of a wait.
use Rattle.std.specs.Prelude.{if◌then◌else◌, List, [], ◌∷◌, ℕ, zero, suc, min, eqb, Ok}
use Rattle.rules.specs.State.{State, counter_of, waiting}
use Rattle.rules.specs.Waiting.{Step, refuse}
use Rattle.rules.specs.Threads.{bad_ticks}
use Rattle.rules.specs.Time.{do_tick}
use Rattle.rules.specs.declared.Thread.{Thread}
use Rattle.rules.specs.declared.Wait.{Wait}
use Rattle.rules.specs.declared.Reply.TheVariants.{Done}
use Rattle.rules.specs.declared.Refusal.TheVariants.{BadTicks}

-- "does that many ticks: table and answer equal those of that many single ones"
unfoldable pub ticks : ℕ → State → State
ticks zero s = s
ticks (suc n) s = ticks n (do_tick s).state

-- "Operation 21 takes a number from 1 to 99,999"; "−3 for 21 with 0 or above 99,999"
unfoldable pub do_ticks : State → ℕ → Step
do_ticks s n = if bad_ticks n then refuse s BadTicks else record { state = ticks n s; answer = Ok (Done 0) }

-- the ticks that are left of a timed wait; 0 of a wait forever, and of a thread that doesn't wait
abbrev pub time_left : Wait → ℕ
time_left w = if waiting w then counter_of w else 0

-- the smaller of two, where 0 is none
abbrev pub sooner : ℕ → ℕ → ℕ
sooner a b = if eqb a 0 then b else if eqb b 0 then a else min a b

-- "the least number of ticks after which, if only ticks come, some timed wait ends, and 0 if there is none"
unfoldable pub nearest : List Thread → ℕ
nearest [] = 0
nearest (t ∷ ts) = sooner (time_left t.wait) (nearest ts)

-- "Operation 22 gives as value" that number
unfoldable pub do_nearest : State → Step
do_nearest s = record { state = s; answer = Ok (Done (nearest s.threads)) }
