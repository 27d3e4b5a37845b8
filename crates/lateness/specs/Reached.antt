-- The bounds are reached, so that none of them can be sharper: closed runs in which a thread is as far from its share as `Near` lets it be, and
-- in which it comes as late as `InTime` lets it.
use Rattle.std.specs.Prelude.{◌≡◌, List, [], ◌∷◌, ℕ, ◌+◌, ◌*◌, ◌-◌, ◌≤◌, ◌<◌, replicate}
use Rattle.rules.specs.Board.{printer}
use Rattle.rules.specs.Door.{door, fresh_table, table_after}
use Rattle.rules.specs.declared.Request.{Request}
use Rattle.rules.specs.declared.Request.TheVariants.{Create, Delete, Pend, PostFromInterrupt, Tick}
use Rattle.fairness.specs.Lateness.{Bound, Near, InTime, Even}
use Rattle.promises.specs.Figures.{asks, Run, share, Figures, figures}
use Rattle.promises.specs.Rounds.{start}
use Rattle.promises.specs.Incident.{lanes}
use Rattle.lateness.specs.Moments.{KeptBy}
use Rattle.lateness.specs.Stands.{furthest, stand, seen, sees, ahead, behind, HoldsIn}

-- THE RUNS

-- the printer's own two lanes, of turns 8 and 8, and the first one's turn
abbrev pub printers_lanes : List Request
printers_lanes = Create 1 5 8 ∷ Create 2 5 8 ∷ []

abbrev pub one_turn : List Request
one_turn = replicate 8 Tick

unfoldable pub eight_and_eight : Run
eight_and_eight = record { table = table_after printer (fresh_table printer) (asks printers_lanes); handed = asks one_turn; from = 0; steps = 8 }

-- two lanes of turn 2 from the table of the incident: the cutter breaks into the left lane's turn, and is charged two ticks
unfoldable pub two_and_two : ℕ → ℕ → Run
two_and_two from steps = record {
  table = lanes;
  handed = asks (Tick ∷ PostFromInterrupt 0 1 ∷ Tick ∷ Tick ∷ Pend 0 99999 ∷ Tick ∷ Tick ∷ Tick ∷ []);
  from = from;
  steps = steps;
}

-- threads 1 and 2 with turns 2 and 3: thread 3 breaks into thread 1's turn, and is charged two ticks
unfoldable pub two_and_three : ℕ → ℕ → Run
two_and_three from steps = record {
  table = start;
  handed = asks (Tick ∷ Create 3 9 1 ∷ Tick ∷ Tick ∷ Delete 3 ∷ Tick ∷ Tick ∷ Tick ∷ Tick ∷ Tick ∷ Tick ∷ Tick ∷ Tick ∷ Tick ∷ []);
  from = from;
  steps = steps;
}

-- WHAT THEY REACH

-- the figures of the two lanes' rank by the rules
unfoldable pub ruled : Run → Figures
ruled r = figures (door printer) 5 r

-- a thread's number, how far it is from its share and can be, and the ticks that are charged to the rank and can be
pub record Reached : Type 0 where
  -- The left lane has had its turn: it is 64 sixteenths of a tick ahead of its half, which are 4 ticks. The right lane is as much behind, and has
  -- waited for 8 ticks. Both are as far as can be, and the right lane is as late as can be.
  pub printers : seen (ruled eight_and_eight) ≡ sees 16 8 (share 1 8 8 ∷ share 2 8 0 ∷ []) (stand 1 (ahead 64) 64 8 24 ∷ stand 2 (behind 64) 64 8 8 ∷ [])
  -- the same with the cutter inside the turn, of equal turns and of others
  pub first : seen (ruled (two_and_two 0 6)) ≡ sees 4 2 (share 1 2 2 ∷ share 2 2 0 ∷ []) (stand 1 (ahead 4) 4 2 6 ∷ stand 2 (behind 4) 4 2 2 ∷ [])
  pub unequal : seen (ruled (two_and_three 0 6)) ≡ sees 5 2 (share 1 2 2 ∷ share 2 3 0 ∷ []) (stand 1 (ahead 6) 6 2 8 ∷ stand 2 (behind 6) 6 2 2 ∷ [])
  -- the second one's turn
  pub second : seen (ruled (two_and_two 6 2)) ≡ sees 4 2 (share 1 2 0 ∷ share 2 2 2 ∷ []) (stand 1 (behind 4) 4 2 2 ∷ stand 2 (ahead 4) 4 2 6 ∷ [])
  -- from the middle of thread 1's turn on, through the break-in: it has less than two of its turns, and 9 ticks are as many as can be by then
  pub again : seen (ruled (two_and_three 1 13)) ≡ sees 5 9 (share 1 2 3 ∷ share 2 3 6 ∷ []) (stand 1 (behind 3) 6 9 9 ∷ stand 2 (ahead 3) 6 9 12 ∷ [])

-- SO THE DOOR KEEPS NO SHARPER BOUND, by one part of a tick or by one tick, of a thread that is not alone in its rank. (Alone it has every tick, and
-- all its bounds are 0.)

abbrev pub NearerAhead : Bound
NearerAhead sum turn ticks own = turn < sum → own * sum < turn * ticks + furthest sum turn

abbrev pub NearerBehind : Bound
NearerBehind sum turn ticks own = turn < sum → turn * ticks < own * sum + furthest sum turn

abbrev pub Sooner : Bound
Sooner sum turn ticks own = turn < sum → own ≡ 0 → ticks < sum - turn

abbrev pub EvenerAhead : Bound
EvenerAhead sum turn ticks own = (k : ℕ) → 2 ≤ k → sum ≡ k * turn → k * own < ticks + (k - 1) * turn

abbrev pub EvenerBehind : Bound
EvenerBehind sum turn ticks own = (k : ℕ) → 2 ≤ k → sum ≡ k * turn → ticks < k * own + (k - 1) * turn

pub record Sharp : Type 0 where
  pub ahead : KeptBy NearerAhead printer (door printer) → ⊥
  pub behind : KeptBy NearerBehind printer (door printer) → ⊥
  pub late : KeptBy Sooner printer (door printer) → ⊥
  pub even_ahead : KeptBy EvenerAhead printer (door printer) → ⊥
  pub even_behind : KeptBy EvenerBehind printer (door printer) → ⊥

-- AND THE BOUNDS, as theorems, say of a run what counting says: its figures meet the premises, so that each thread is within the bound
pub record Applied : Type 0 where
  pub near : HoldsIn Near (ruled eight_and_eight)
  pub in_time : HoldsIn InTime (ruled (two_and_three 1 13))
  pub even : HoldsIn Even (ruled (two_and_two 6 2))
