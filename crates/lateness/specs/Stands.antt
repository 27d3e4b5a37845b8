-- The bounds in figures: how each thread of a rank stands to them in a part of a closed run on the printer board.
use Rattle.std.specs.Prelude.{Bool, true, List, [], ◌∷◌, map, ◌↔◌, ℕ, suc, ◌+◌, ◌*◌, ◌-◌, ◌/◌, ◌≤◌, ℤ, pos, neg_ℤ}
use Rattle.std.proofs.Math.IntN.{sub_ℕ}
use Rattle.fairness.specs.Lateness.{Bound, Near, InTime}
use Rattle.lanes.specs.Lag.{distance}
use Rattle.promises.specs.Figures.{Share, Figures}

-- Of a thread that is charged `own` of the rank's `ticks`: how far it is ahead of its share or, with a minus, behind it. A tick counts as many
-- parts as the turns sum to.
abbrev pub from_share : (sum turn ticks own : ℕ) → ℤ
from_share sum turn ticks own = sub_ℕ (own * sum) (turn * ticks)

-- the furthest that `Near` lets it be, on either side
abbrev pub furthest : (sum turn : ℕ) → ℕ
furthest sum turn = turn * (sum - turn)

-- The most ticks that `InTime` lets be charged to the rank by then. Of all k with `own < k * turn` it says the most with the least one, which is
-- one more than the thread has had whole turns.
abbrev pub latest : (sum turn own : ℕ) → ℕ
latest sum turn own = own + suc (own / turn) * (sum - turn)

-- these figures say what the bounds say
pub record Told : Type 0 where
  pub near : (sum turn ticks own : ℕ) → Near sum turn ticks own ↔ (distance (from_share sum turn ticks own) ≤ furthest sum turn)
  pub in_time : (sum turn ticks own : ℕ) → 1 ≤ turn → InTime sum turn ticks own ↔ (ticks ≤ latest sum turn own)

-- a thread by its number, with the two figures and how large they can be
pub record Stand : Type 0 where
  pub thread : ℕ
  pub far : ℤ
  pub allowed : ℕ
  pub ticks : ℕ
  pub most : ℕ

abbrev pub stand : ℕ → ℤ → ℕ → ℕ → ℕ → Stand
stand i z a n m = record { thread = i; far = z; allowed = a; ticks = n; most = m }

abbrev pub stand_of : Figures → Share → Stand
stand_of f s =
    stand s.thread (from_share f.turns s.turn f.charged s.charged) (furthest f.turns s.turn) f.charged (latest f.turns s.turn s.charged)

-- what is seen of a rank: the figures of demand 3, and how each thread stands
pub record Seen : Type 0 where
  pub figures : Figures
  pub stands : List Stand

abbrev pub seen : Figures → Seen
seen f = record { figures = f; stands = map (stand_of f) f.shares }

-- the table is sound; whether the set is the same after each step, and undisturbed; of n ticks charged to the rank, whose turns sum to R, each
-- thread has its share, and stands so
abbrev pub sees_where : Bool → Bool → ℕ → ℕ → List Share → List Stand → Seen
sees_where same quiet R n ss ts = record { figures = record { sound = true; same = same; quiet = quiet; charged = n; turns = R; shares = ss }; stands = ts }

-- all premises hold
abbrev pub sees : ℕ → ℕ → List Share → List Stand → Seen
sees = sees_where true true

abbrev pub ahead : ℕ → ℤ
ahead n = pos n

abbrev pub behind : ℕ → ℤ
behind n = neg_ℤ (pos n)

-- a bound holds of each thread in the figures
abbrev pub HoldsOf : Bound → ℕ → ℕ → List Share → Type 0
HoldsOf B sum ticks [] = Unit {0}
HoldsOf B sum ticks (s ∷ ss) = B sum s.turn ticks s.charged × HoldsOf B sum ticks ss

abbrev pub HoldsIn : Bound → Figures → Type 0
HoldsIn B f = HoldsOf B f.turns f.charged f.shares
