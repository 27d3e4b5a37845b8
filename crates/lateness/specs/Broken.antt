-- The incident breaks the bounds. Where a thread that is outranked goes to its line's tail, the left lane is further from its share than `Near` lets
-- it be, comes later than `InTime` lets it, and the two lanes, whose turns are equal, are not `Even`.
use Rattle.std.specs.Prelude.{◌≡◌, [], ◌∷◌}
use Rattle.rules.specs.Board.{printer}
use Rattle.rules.specs.Door.{door}
use Rattle.fairness.specs.Lateness.{Near, InTime, Even}
use Rattle.promises.specs.Figures.{share}
use Rattle.promises.specs.Incident.{sends_back, cut_after_tick, cut_at_once, counted}
use Rattle.lateness.specs.Moments.{KeptBy}
use Rattle.lateness.specs.Stands.{stand, seen, sees, ahead, behind}

-- a lane's number, how far it is from its share, in quarters of a tick, and can be, and the ticks that are charged to the rank and can be
pub record BrokenByIncident : Type 0 where
  -- The cutter comes before each first tick of the left lane, which gets none of 8: it is 16 quarters behind, which are 4 ticks, where 4 quarters,
  -- or 1 tick, are allowed; and it has waited for 8 ticks, where 2 are allowed.
  pub nothing : seen (counted sends_back (cut_at_once 4) 0 16) ≡ sees 4 8 (share 1 2 0 ∷ share 2 2 8 ∷ []) (stand 1 (behind 16) 4 8 2 ∷ stand 2 (ahead 16) 4 8 18 ∷ [])
  -- The cutter comes after it: the left lane has 4 of 12, and is 8 quarters behind, which are 2 ticks, where 1 tick is allowed; by 4 ticks of its own
  -- 10 at the most are allowed to the rank.
  pub falls_behind : seen (counted sends_back (cut_after_tick 4) 0 20) ≡ sees 4 12 (share 1 2 4 ∷ share 2 2 8 ∷ []) (stand 1 (behind 8) 4 12 10 ∷ stand 2 (ahead 8) 4 12 18 ∷ [])
  -- by the rules both lanes have their share then
  pub ruled_at_once : seen (counted (door printer) (cut_at_once 4) 0 16) ≡ sees 4 8 (share 1 2 4 ∷ share 2 2 4 ∷ []) (stand 1 (ahead 0) 4 8 10 ∷ stand 2 (ahead 0) 4 8 10 ∷ [])
  pub ruled_after_tick : seen (counted (door printer) (cut_after_tick 4) 0 20) ≡ sees 4 12 (share 1 2 6 ∷ share 2 2 6 ∷ []) (stand 1 (ahead 0) 4 12 14 ∷ stand 2 (ahead 0) 4 12 14 ∷ [])
  -- so the door of the incident keeps none of the bounds
  pub far : KeptBy Near printer sends_back → ⊥
  pub late : KeptBy InTime printer sends_back → ⊥
  pub uneven : KeptBy Even printer sends_back → ⊥
