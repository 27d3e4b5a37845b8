-- ORDER 5, its claim: "Where demand 3 covers the run from the creation of the last of them, and all earlier charges to them are zero, and
-- the count is a whole number of rounds, each of their lags is 0, and that is proved."
-- The crate `lanes` says what an account and a lag are (specs/Lag.antt), and what the report prints of them (specs/Report.antt).
use Rattle.std.specs.Prelude.{if◌then◌else◌, Bool, true, false, ◌≡◌, List, [], ◌∷◌, ◌++◌, ℕ, suc, ◌*◌, ◌%◌, eqb, ℤ, pos, negsuc, length, replicate, take, drop}
use Rattle.rules.specs.Basic.{count, all}
use Rattle.rules.specs.Board.{Board, printer}
use Rattle.rules.specs.State.{State}
use Rattle.rules.specs.Lines.{ready, in_line}
use Rattle.rules.specs.Table.{decode}
use Rattle.rules.specs.Sound.{SoundTable}
use Rattle.rules.specs.Door.{door, fresh_table, Handed}
use Rattle.rules.specs.declared.Thread.{Thread}
use Rattle.rules.specs.declared.Request.{Request}
use Rattle.rules.specs.declared.Request.TheVariants.{Yield, Create, Suspend, Resume, Tick, SetTurn}
use Rattle.fairness.specs.Run.{Event, ready_at, end_of, same_set, undisturbed, sum_turns, charged_rank}
use Rattle.fairness.specs.Doors.{run_of}
use Rattle.lanes.specs.Lag.{account, sum_over, lag}
use Rattle.promises.specs.Figures.{asks}

-- of a run from table t, whose first `made` steps end with the creation of the last of rank p's ready threads; any other point of the run does
-- as well, if they have been charged nothing by then
abbrev pub NoLagIn : Board → List ℕ → List Event → Type 0
NoLagIn b t run =
    (p made rounds : ℕ) →
    let part = drop made run in
    let end = end_of (decode b t) run in
    -- "demand 3 covers the run from the creation of the last of them"
    all (same_set p) part ≡ true → all (undisturbed p) part ≡ true
    -- "all earlier charges to them are zero"
    → ((i : ℕ) → ready_at p end i ≡ true → account (take made run) i ≡ 0)
    -- "the count is a whole number of rounds"
    → count (charged_rank p) part ≡ rounds * sum_turns p end.threads
    -- "each of their lags is 0"
    → (i : ℕ) → ready_at p end i ≡ true → lag (account run) end i ≡ pos 0

-- over bytes and the door, on a board of any number of threads, from any sound table; and from a fresh one
pub record NoLags : Type 0 where
  pub from : (b : Board) (t : List ℕ) (hs : List Handed) → SoundTable b t → NoLagIn b t (run_of b (door b) t hs)
  pub fresh : (hs : List Handed) → NoLagIn printer (fresh_table printer) (run_of printer (door printer) (fresh_table printer) hs)

-- AT CLOSED RUNS from a fresh table, of rank 5: runs that meet the premises, and for each premise one that does not meet it alone, with a lag that
-- is not 0. Only the sound table can't be spared so: where it is unsound nothing is accepted, nobody is charged, and all lags are 0.

pub record Lane : Type 0 where
  pub thread : ℕ
  pub charged : ℕ
  pub lags : ℤ

abbrev lane : ℕ → ℕ → ℤ → Lane
lane i n z = record { thread = i; charged = n; lags = z }

pub record Reckoned : Type 0 where
  -- Is the set the same after each step from the point on? Is it undisturbed? Were its threads charged nothing before?
  pub same : Bool
  pub quiet : Bool
  pub none : Bool
  -- Is the count a whole number of rounds?
  pub whole : Bool
  -- what the report says of the set's threads at the end
  pub lanes : List Lane

-- the ready threads of rank p in a list, the first of which has number i
unfoldable pub lanes_from : ℕ → (ℕ → ℕ) → State → ℕ → List Thread → List Lane
lanes_from p charged s i [] = []
lanes_from p charged s i (t ∷ ts) =
    let rest = lanes_from p charged s (suc i) ts in
    if in_line (ready p) t then lane i (charged i) (lag charged s i) ∷ rest else rest

-- requests up to the point, and from it on
pub record Asked : Type 0 where
  pub before : List Request
  pub after : List Request

unfoldable pub reckoned : Asked → Reckoned
reckoned q =
    let run = run_of printer (door printer) (fresh_table printer) (asks (q.before ++ q.after)) in
    let made = length q.before in
    let part = drop made run in
    let end = end_of (decode printer (fresh_table printer)) run in
    record {
      same = all (same_set 5) part;
      quiet = all (undisturbed 5) part;
      none = eqb (sum_over 5 (account (take made run)) 0 end.threads) 0;
      whole = eqb (count (charged_rank 5) part % sum_turns 5 end.threads) 0;
      lanes = lanes_from 5 (account run) end 0 end.threads;
    }

-- threads 1 and 2, with turns of 2 and 3 ticks, and these requests behind their creations
abbrev unequal : List Request → Asked
unequal rs = record { before = Create 1 5 2 ∷ Create 2 5 3 ∷ []; after = rs }

-- the same with turns of 2 and 2
abbrev equal : List Request → Asked
equal rs = record { before = Create 1 5 2 ∷ Create 2 5 2 ∷ []; after = rs }

abbrev ticks : ℕ → List Request
ticks n = replicate n Tick

abbrev gives : Bool → Bool → Bool → Bool → List Lane → Reckoned
gives same quiet none whole ls = record { same = same; quiet = quiet; none = none; whole = whole; lanes = ls }

pub record LagsReckoned : Type 0 where
  -- all premises hold: one round and three, of turns that differ and of equal ones
  pub one_round : reckoned (unequal (ticks 5)) ≡ gives true true true true (lane 1 2 (pos 0) ∷ lane 2 3 (pos 0) ∷ [])
  pub three_rounds : reckoned (unequal (ticks 15)) ≡ gives true true true true (lane 1 6 (pos 0) ∷ lane 2 9 (pos 0) ∷ [])
  pub equal_rounds : reckoned (equal (ticks 12)) ≡ gives true true true true (lane 1 6 (pos 0) ∷ lane 2 6 (pos 0) ∷ [])
  -- half a round: thread 1 is 4 quarters of a tick ahead, which is one tick, and thread 2 as much behind
  pub half_round : reckoned (equal (ticks 2)) ≡ gives true true true false (lane 1 2 (pos 4) ∷ lane 2 0 (negsuc 3) ∷ [])
  -- thread 1 is charged a tick before thread 2 is created
  pub charged_before : reckoned (record { before = Create 1 5 2 ∷ Tick ∷ Create 2 5 3 ∷ []; after = ticks 5 }) ≡ gives true true false true (lane 1 3 (pos 3) ∷ lane 2 3 (negsuc 2) ∷ [])
  -- thread 2 yields after a tick
  pub yielded : reckoned (unequal (Tick ∷ Tick ∷ Tick ∷ Yield ∷ Tick ∷ Tick ∷ [])) ≡ gives true false true true (lane 1 4 (pos 10) ∷ lane 2 1 (negsuc 9) ∷ [])
  -- thread 1 is given the turn that it has
  pub turn_set : reckoned (unequal (Tick ∷ SetTurn 1 2 ∷ Tick ∷ Tick ∷ Tick ∷ Tick ∷ [])) ≡ gives true false true true (lane 1 3 (pos 5) ∷ lane 2 2 (negsuc 4) ∷ [])
  -- thread 2 is suspended and resumed
  pub suspended : reckoned (unequal (Tick ∷ Tick ∷ Tick ∷ Suspend 2 ∷ Resume 2 ∷ Tick ∷ Tick ∷ [])) ≡ gives false true true true (lane 1 4 (pos 10) ∷ lane 2 1 (negsuc 9) ∷ [])
