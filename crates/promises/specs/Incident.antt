-- The incident, or why only the odd seats: of two lanes of one rank, with equal turns, the left prints the odd seats and the right the even
-- ones, and a cutter of a higher rank breaks into the left lane's turn again and again. "A thread outranked by another keeps its place and
-- counter." Here it goes to its line's tail instead, and what is left of its turn is gone: the left lane falls behind, or gets no tick at
-- all, and its lines come late: only the odd seats fail at the gate. Such a rule does not meet demand 3.
use Rattle.std.specs.Prelude.{if◌then◌else◌, Bool, true, ◌&&◌, ◌≡◌, ℕ, zero, suc, ltb}
use mathlib.Core.List.{List, [], ◌∷◌, ◌++◌, map, flatten}
use Prim.Native.String.{String}
use Rattle.rules.specs.Board.{printer}
use Rattle.rules.specs.State.{State, at, caller, is_ready, with_threads}
use Rattle.rules.specs.Lines.{move}
use Rattle.rules.specs.Table.{encode, decode}
use Rattle.rules.specs.Door.{door, fresh_table, table_after}
use Rattle.rules.specs.declared.Request.{Request}
use Rattle.rules.specs.declared.Request.TheVariants.{Create, Make, Pend, PostFromInterrupt, Tick}
use Rattle.request.specs.Written.{written}
use Rattle.text.specs.Text.{ascii}
use Rattle.fairness.specs.Doors.{Door}
use Rattle.lanes.specs.Report.{report_by}
use Rattle.promises.specs.Demand3.{FairDoor}
use Rattle.promises.specs.Figures.{asks, share, Figures, figures}

-- THE RULE OF THE INCIDENT

-- the thread that was running is broken off: it is still ready, and outranked by the one that runs now
abbrev broken_off : State → State → Bool
broken_off before after =
    let t = at after.threads before.running in
    is_ready t && ltb t.priority (caller after).priority

-- then it goes to the tail of its line, with a full counter; all else is as the rules say
unfoldable pub sends_back : Door
sends_back t r a =
    let d = door printer t r a in
    let before = decode printer t in
    let after = decode printer d.table in
    let sent = with_threads (move before.running (λ t. t) after.threads) after in
    record { code = d.code; table = if broken_off before after then encode sent else d.table; area = d.area }

-- THE RUNS

-- the lanes are ready at rank 5, each with a turn of 2 ticks, the left one first; the cutter, at rank 9, waits on semaphore 0
abbrev left : ℕ
left = 1

abbrev right : ℕ
right = 2

abbrev cutter : ℕ
cutter = 3

abbrev set_up : List Request
set_up = Make 0 0 ∷ Create cutter 9 1 ∷ Pend 0 99999 ∷ Create left 5 2 ∷ Create right 5 2 ∷ []

unfoldable pub lanes : List ℕ
lanes = table_after printer (fresh_table printer) (asks set_up)

-- the cutter's interrupt posts; the cutter runs and waits again
abbrev cut : List Request
cut = PostFromInterrupt 0 1 ∷ Pend 0 99999 ∷ []

unfoldable pub again : ℕ → List Request → List Request
again zero rs = []
again (suc n) rs = rs ++ again n rs

-- n times: into the left lane's turn after a tick of it, or before its first tick
unfoldable pub cut_after_tick : ℕ → List Request
cut_after_tick n = again n (Tick ∷ (cut ++ (Tick ∷ Tick ∷ [])))

unfoldable pub cut_at_once : ℕ → List Request
cut_at_once n = again n (cut ++ (Tick ∷ Tick ∷ []))

-- THE CLAIMS

-- the figures of the lanes' rank in a part of a run
unfoldable pub counted : Door → List Request → ℕ → ℕ → Figures
counted d rs from steps = figures d 5 (record { table = lanes; handed = asks rs; from = from; steps = steps })

-- the premises hold; of n ticks charged to the rank the left lane has l and the right lane r
abbrev lanes_get : ℕ → ℕ → ℕ → Figures
lanes_get n l r = record { sound = true; same = true; quiet = true; charged = n; turns = 4; shares = share left 2 l ∷ share right 2 r ∷ [] }

pub record OnlyTheOddSeats : Type 0 where
  -- three rounds of 4 ticks; and two rounds in which the cutter comes before the left lane's first tick
  pub behind : counted sends_back (cut_after_tick 4) 0 20 ≡ lanes_get 12 4 8
  pub nothing : counted sends_back (cut_at_once 4) 0 16 ≡ lanes_get 8 0 8
  -- a single round, in which demand 3 owes each lane 2 ticks
  pub round : counted sends_back (cut_after_tick 2) 1 8 ≡ lanes_get 4 1 3
  -- the same requests by the rules
  pub ruled : counted (door printer) (cut_after_tick 4) 0 20 ≡ lanes_get 12 6 6
  pub ruled_at_once : counted (door printer) (cut_at_once 4) 0 16 ≡ lanes_get 8 4 4
  pub ruled_round : counted (door printer) (cut_after_tick 2) 1 8 ≡ lanes_get 4 2 2

-- so the door of the incident is not fair
abbrev pub Incident : Type 0
Incident = FairDoor printer sends_back → ⊥

-- IN THE REPORT. Order 5's report of the same requests, from a fresh table on: the left lane's lag by each rule. A lag is counted in quarters of a
-- tick here, since the turns of the two lanes sum to 4.
unfoldable pub reported : Door → List Request → List ℕ
reported d rs = report_by printer d (flatten (map written (set_up ++ rs)))

-- of Init and the cutter, which are charged nothing, and of the lanes
abbrev reads : String → String → List ℕ
reads l r = ascii "0 0 0\n" ++ ascii l ++ ascii r ++ ascii "3 0 0\n"

pub record OddSeatsReported : Type 0 where
  -- after three rounds the left lane is 2 ticks behind its share of 6, and the right lane 2 ahead; after two rounds in which it got nothing, 4
  pub behind : reported sends_back (cut_after_tick 4) ≡ reads "1 4 -8\n" "2 8 8\n"
  pub nothing : reported sends_back (cut_at_once 4) ≡ reads "1 0 -16\n" "2 8 16\n"
  -- by the rules nobody is
  pub ruled : reported (door printer) (cut_after_tick 4) ≡ reads "1 6 0\n" "2 6 0\n"
  pub ruled_at_once : reported (door printer) (cut_at_once 4) ≡ reads "1 4 0\n" "2 4 0\n"
