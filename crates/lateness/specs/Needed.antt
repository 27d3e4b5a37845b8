-- What the premises shut out: runs that leave out a word of one premise of demand 3 and meet the rest, in which thread 1 is further ahead of its share
-- than `Near` lets it be, and thread 2 further behind, and later than `InTime` lets it. There is none for a priority that is set, which the premise
-- names too: `steady` of the crate `fairness` allows it, and the bounds hold there. And none for a table that is not sound.
use Rattle.std.specs.Prelude.{true, false, ◌≡◌, List, [], ◌∷◌, length}
use Rattle.rules.specs.declared.Request.{Request}
use Rattle.rules.specs.declared.Request.TheVariants.{Yield, Suspend, Resume, Tick, SetTurn}
use Rattle.promises.specs.Figures.{asks, Run, share}
use Rattle.promises.specs.Rounds.{start}
use Rattle.lateness.specs.Stands.{stand, seen, sees_where, ahead, behind}
use Rattle.lateness.specs.Reached.{ruled}

-- threads 1 and 2 with turns 2 and 3, in a run that is counted as a whole
unfoldable pub whole : List Request → Run
whole rs = record { table = start; handed = asks rs; from = 0; steps = length rs }

-- a thread's number, how far it is from its share and may be, and the ticks that are charged to the rank and may be
pub record Needed : Type 0 where
  -- "none of them yields": thread 2 yields after a tick
  pub yields : seen (ruled (whole (Tick ∷ Tick ∷ Tick ∷ Yield ∷ Tick ∷ Tick ∷ [])))
      ≡ sees_where true false 5 5 (share 1 2 4 ∷ share 2 3 1 ∷ []) (stand 1 (ahead 10) 6 5 13 ∷ stand 2 (behind 10) 6 5 3 ∷ [])
  -- "none is named in an accepted change of settings": thread 1 is given the turn that it has, after each tick
  pub set_turn : seen (ruled (whole (Tick ∷ SetTurn 1 2 ∷ Tick ∷ SetTurn 1 2 ∷ Tick ∷ SetTurn 1 2 ∷ Tick ∷ [])))
      ≡ sees_where true false 5 4 (share 1 2 4 ∷ share 2 3 0 ∷ []) (stand 1 (ahead 12) 6 4 13 ∷ stand 2 (behind 12) 6 4 2 ∷ [])
  -- "is the same after each step": thread 2 is suspended and resumed
  pub suspended : seen (ruled (whole (Tick ∷ Tick ∷ Tick ∷ Suspend 2 ∷ Resume 2 ∷ Tick ∷ Tick ∷ [])))
      ≡ sees_where false true 5 5 (share 1 2 4 ∷ share 2 3 1 ∷ []) (stand 1 (ahead 10) 6 5 13 ∷ stand 2 (behind 10) 6 5 3 ∷ [])
