-- Demand 3: a run through bytes and the door is a run by the rules on the states that the tables say, and there each thread is charged
-- k turns in k rounds; one round is the demand's. Assumes nothing.
use mathlib.Core.Bool.{Bool, true, false, not, ◌&&◌}
use mathlib.Core.Path.{◌≡◌, refl}
use mathlib.Core.List.{List, [], ◌∷◌, ◌++◌}
use Prim.Native.Nat.{ℕ, ◌*◌}
use native.Mathlib.Omega.{arith}
use borrow.Author.Tests.{not-true}
use lib.ListN.{take, drop, take-append-drop}
use Rattle.rules.specs.Basic.{count, all}
use Rattle.rules.specs.Board.{Board}
use Rattle.rules.specs.State.{State, at}
use Rattle.rules.specs.Table.{decode}
use Rattle.rules.specs.Sound.{Sound}
use Rattle.rules.specs.Door.{door, Handed}
use Rattle.laws.proofs.Split.{and_true, and_both, and_off}
use Rattle.fairness.specs.Run.{Event, Deed, tick, yield, other, set_priority, set_turn, create, sleep, deed, accepted, ready_at, same_set, sum_turns, charged_to, charged_rank, disturbs, undisturbed}
use Rattle.fairness.specs.Doors.{Door, run_of}
use Rattle.fairness.specs.Fair.{RunFrom, moves, steady}
use Rattle.fairness.proofs.Fair.{fairness}
use Rattle.fairness.proofs.Doors.{run_by_rules}
use Rattle.promises.specs.Demand3.{InEveryPart, FairDoor, Demand3, FairRounds, WholeRounds}

-- NOBODY MOVES BY ITSELF

-- who does not disturb the rank does not move in it
moves_not : (a : Bool) (p : ℕ) (s : State) (k : Deed) → not (a && disturbs p s k) ≡ true → not (a && moves p s k) ≡ true
moves_not false p s k e = refl
moves_not true p s tick e = refl
moves_not true p s yield e = rw (not-true (ready_at p s s.running) e, and_off)
moves_not true p s (set_priority i) e = refl
moves_not true p s (set_turn i) e = e
moves_not true p s (create i) e = refl
moves_not true p s other e = refl
moves_not true p s (sleep n) e = e

pub all_steady : (p : ℕ) (es : List Event) → all (same_set p) es ≡ true → all (undisturbed p) es ≡ true → all (steady p) es ≡ true
all_steady p [] h k = refl
all_steady p (e ∷ es) h k =
    let a = and_true (same_set p e) _ h in
    let b = and_true (undisturbed p e) _ k in
    and_both _ _ (and_both _ _ a.0 (moves_not (accepted e) p e.before (deed e.asked) b.0)) (all_steady p es a.1 b.1)

-- THE RUN

-- what holds in every part of every steady run by the rules holds in every part of a run through bytes and the door
pub in_every_part : (b : Board) (t : List ℕ) (hs : List Handed) (Claim : ℕ → State → List Event → Type 0)
    → ((p : ℕ) (s : State) (before part behind : List Event) → Sound s → RunFrom s (before ++ (part ++ behind)) → all (steady p) (before ++ (part ++ behind)) ≡ true → Claim p s part)
    → InEveryPart b t (run_of b (door b) t hs) Claim
in_every_part b t hs Claim f p from steps σ same quiet =
    let run = run_of b (door b) t hs in
    let rest = drop from run in
    let parts : take from run ++ (take steps rest ++ drop steps rest) ≡ run = rw (take-append-drop steps rest, take-append-drop from run) in
    f p (decode b t) (take from run) (take steps rest) (drop steps rest) σ.state (rw parts (run_by_rules b t hs)) (rw parts (all_steady p run same quiet))

pub whole_rounds : WholeRounds
whole_rounds b t hs =
    in_every_part b t hs (λ p s part.
    (k : ℕ) → count (charged_rank p) part ≡ k * sum_turns p s.threads
    → (i : ℕ) → ready_at p s i ≡ true → count (charged_to i) part ≡ k * (at s.threads i).turn) (λ p s before part behind σ h quiet k. fairness p k s before part behind σ h quiet)

-- one round, by any door
pub one_round_lem : (b : Board) (d : Door) → FairRounds b d → FairDoor b d
one_round_lem b d fair t hs p from steps σ same quiet full i m = omega (arith, fair t hs p from steps σ same quiet 1 (omega (arith, full)) i m)

pub demand3 : Demand3
demand3 b = one_round_lem b (door b) (whole_rounds b)
