-- Who is charged by a leap, without its single ticks, and by these.
use Rattle.std.specs.Prelude.{if◌then◌else◌, not, ◌≡◌, List, [], ◌∷◌, ℕ, zero, suc, ◌*◌, ◌≤◌, eqb, pos, Some}
use Rattle.rules.specs.Basic.{count}
use Rattle.rules.specs.State.{State, at}
use Rattle.rules.specs.Lines.{ready, in_line}
use Rattle.rules.specs.Time.{do_tick}
use Rattle.rules.specs.Sound.{Sound}
use Rattle.rules.specs.declared.Thread.{Thread}
use Rattle.rules.specs.declared.Request.TheVariants as Ask
use Rattle.fairness.specs.Run.{Event, charged_to}
use Rattle.leaps.specs.Ticks.{Leap, leap}

-- an accepted tick of state s, and n of them one after the other
abbrev pub tick_event : State → Event
tick_event s = record { before = s; asked = Some Ask.Tick; code = pos 0; after = (do_tick s).state }

unfoldable pub tick_events : ℕ → State → List Event
tick_events zero s = []
tick_events (suc n) s = tick_event s ∷ tick_events n (do_tick s).state

-- so many turns of a thread, if it is of rank p
abbrev pub turns_at : ℕ → ℕ → Thread → ℕ
turns_at p rounds t = if in_line (ready p) t then rounds * t.turn else 0

-- what `far` ticks at once, which are so many whole rounds or (with 0) none, charge to thread i of these, where thread `ran` runs and the lock count
-- is `lock`: nothing under lock; by whole rounds as many turns to each thread of the rank that runs; else all of them to the thread that runs
unfoldable pub share : List Thread → ℕ → ℕ → ℕ → ℕ → ℕ → ℕ
share ts ran lock far rounds i =
    if not (eqb lock 0) then 0 else
    if eqb rounds 0 then (if eqb ran i then far else 0) else
    turns_at (at ts ran).priority rounds (at ts i)

-- the ticks that a leap from s charges to thread i
abbrev pub charges_of : State → Leap → ℕ → ℕ
charges_of s l i = share s.threads s.running s.lock l.far l.rounds i

-- they are those of the single ticks
abbrev pub Charges : Type 0
Charges = (n : ℕ) (s : State) → Sound s → 1 ≤ n → (i : ℕ) → count (charged_to i) (tick_events (leap n s).far s) ≡ charges_of s (leap n s) i
