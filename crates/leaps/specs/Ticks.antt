-- Many ticks, one after the other, and what they come to where no wait ends. A leap does some of them at once.
use Rattle.std.specs.Prelude.{if◌then◌else◌, true, not, ◌≡◌, List, map, ℕ, pred, ◌*◌, ◌/◌, ◌-◌, ◌≤◌, ◌<◌, min, eqb, leb}
use Rattle.rules.specs.State.{State, at, edit, caller, counter_of, waiting, with_counter, with_threads}
use Rattle.rules.specs.Time.{do_tick}
use Rattle.rules.specs.Sleep.{ticks, nearest}
use Rattle.fairness.specs.Run.{sum_turns}
use Rattle.rules.specs.Sound.{Sound}
use Rattle.rules.specs.declared.Thread.{Thread}

-- a thread n ticks later, where its wait does not end; one that waits forever has counter 0 and keeps it
abbrev pub later : ℕ → Thread → Thread
later n t = if waiting t.wait then with_counter (counter_of t.wait - n) t else t

-- no timed wait ends within n ticks
unfoldable pub Quiet : ℕ → List Thread → Type 0
Quiet n ts = (i : ℕ) → waiting (at ts i).wait ≡ true → 1 ≤ counter_of (at ts i).wait → n < counter_of (at ts i).wait

-- n ticks under lock, and n ticks of the running thread that don't end its turn
unfoldable pub passed : ℕ → State → State
passed n s = with_threads (map (later n) s.threads) s

unfoldable pub ran : ℕ → State → State
ran n s = with_threads (map (later n) (edit s.running (with_counter (counter_of (caller s).wait - n)) s.threads)) s

-- LEAPS

-- of n ticks, those before the one in which a wait ends; none of a single tick, for which it is not worth looking
abbrev pub quiet_of : ℕ → List Thread → ℕ
quiet_of n ts =
    let w = nearest ts in
    if leb n 1 then 0 else
    if eqb w 0 then n else min n (pred w)

-- some of n ticks, at least one, done at once: how many, how many whole rounds of the rank that runs they are (0 if they are none), and what
-- they leave
pub record Leap : Type 0 where
  pub far : ℕ
  pub rounds : ℕ
  pub state : State

-- a tick by itself
abbrev pub tick_of : State → Leap
tick_of s = record { far = 1; rounds = 0; state = (do_tick s).state }

-- m ticks under lock
abbrev pub locked_of : ℕ → State → Leap
locked_of m s = record { far = m; rounds = 0; state = passed m s }

-- k rounds of R ticks
abbrev pub rounds_of : ℕ → ℕ → State → Leap
rounds_of k R s = record { far = k * R; rounds = k; state = passed (k * R) s }

-- m ticks of a turn that goes on
abbrev pub turn_of : ℕ → State → Leap
turn_of m s = record { far = m; rounds = 0; state = ran m s }

-- with lock 0, where no wait ends within q ticks: by whole rounds only the waits go on; a turn that ends does so in a tick by itself
unfoldable pub leap_unlocked : ℕ → State → Leap
leap_unlocked q s =
    let round = sum_turns (caller s).priority s.threads in
    let left = counter_of (caller s).wait in
    if leb round q then rounds_of (q / round) round s else
    if leb left 1 then tick_of s else
    turn_of (min q (pred left)) s

-- a wait that ends does so in a tick by itself, and so is the last tick; under lock only the waits go on
unfoldable pub leap : ℕ → State → Leap
leap n s =
    let quiet = quiet_of n s.threads in
    if eqb quiet 0 then tick_of s else
    if not (eqb s.lock 0) then locked_of quiet s else
    leap_unlocked quiet s

-- a leap is that many single ticks, at least one and at most n
pub record AreTicks (n : ℕ) (s : State) (l : Leap) : Type 0 where
  pub some : 1 ≤ l.far
  pub most : l.far ≤ n
  pub ticks : l.state ≡ ticks l.far s

abbrev pub Leaps : Type 0
Leaps = (n : ℕ) (s : State) → Sound s → 1 ≤ n → AreTicks n s (leap n s)
