-- The lags' bound, over bytes: a run through the door is a run by the rules, and there no lane is further from its share. The incident's door would
-- have to keep it in a closed run, whose figures are computed, and in which it does not. Assumes nothing.
use mathlib.Core.Bool.{true}
use mathlib.Core.Path.{◌≡◌, refl}
use mathlib.Core.List.{List, [], ◌∷◌, ◌++◌, flatten}
use Prim.Native.Nat.{ℕ}
use native.Mathlib.Omega.{arith}
use lib.IntN.{negsuc}
use lib.ListN.{take, drop, take-append-drop}
use Rattle.rules.proofs.Computing.{behind_the_door}
use Rattle.rules.specs.Basic.{count, all}
use Rattle.rules.specs.Board.{Board, printer}
use Rattle.rules.specs.State.{at}
use Rattle.rules.specs.Table.{decode}
use Rattle.rules.specs.Sound.{SoundTable}
use Rattle.rules.specs.Door.{door, fresh_table, Handed}
use Rattle.rules.specs.Trace.{records}
use Rattle.rules.specs.declared.Request.TheVariants.{Create, Make, Pend}
use Rattle.laws.proofs.Split.{is, isnt, test}
use Rattle.laws.proofs.Tested.{tested_table, fresh_sound}
use Rattle.request.specs.Written.{written}
use Rattle.text.specs.Text.{digits, decimal}
use Rattle.fairness.specs.Run.{Event, end_of, ready_at, same_set, undisturbed, sum_turns, charges}
use Rattle.fairness.specs.Doors.{single_ticks, run_of}
use Rattle.fairness.proofs.Doors.{run_by_rules}
use Rattle.lanes.specs.Lag.{creates, account_from, account, sum_over, lag_of, lag}
use Rattle.lanes.specs.Report.{lane_lines, report_on}
use Rattle.lanes.proofs.Bound.{lag_bound_lem}
use Rattle.promises.specs.Figures.{asks}
use Rattle.promises.specs.Lanes.{lanes_from, reckoned}
use Rattle.promises.specs.Incident.{sends_back, again, cut_at_once}
use Rattle.promises.proofs.Third.{all_steady}
use Rattle.lateness.specs.Lags.{LagBoundIn, LagBounds, LagReached, LagsBroken}

bounded : (b : Board) (t : List ℕ) (hs : List Handed) → SoundTable b t → LagBoundIn b t (run_of b (door b) t hs)
bounded b t hs σ p made same quiet earlier i m =
    let run = run_of b (door b) t hs in
    let parts : take made run ++ drop made run ≡ run = take-append-drop made run in
    rw parts at (lag_bound_lem p (decode b t) (take made run) (drop made run) σ.state (rw parts (run_by_rules b t hs)) (all_steady p (drop made run) same quiet)
    (rw parts earlier) i (rw parts m))

pub lag_bounds : LagBounds
lag_bounds = record { from = bounded; fresh = λ hs. bounded printer (fresh_table printer) hs ((tested_table printer (fresh_table printer)).0 fresh_sound) }

-- BY COMPUTATION

pub lag_reached : LagReached
unfolding behind_the_door written records single_ticks run_of account_from sum_over lag_of lag lanes_from reckoned lane_lines report_on digits decimal flatten
lag_reached = record { printers = refl; printers_report = refl; example = refl; example_report = refl }

-- where no tick is charged, every account stays at 0
uncharged : (i : ℕ) (es : List Event) → count charges es ≡ 0 → account es i ≡ 0
unfolding account_from
uncharged i [] h = refl
uncharged i (e ∷ es) h = elim (test (charges e)) [
  | is c ↦ absurd (omega (arith, rw c at h))
  | isnt c ↦
      let rest : count charges es ≡ 0 = omega (arith, rw c at h) in
      elim (test (creates i e)) [ is m ↦ rw m (uncharged i es rest) | isnt m ↦ rw (m, c) (uncharged i es rest) ]
]

-- the table of the incident, made from a fresh one by five requests, and the cutter before each first tick of the left lane
asked : List Handed
asked = asks (Make 0 0 ∷ Create 3 9 1 ∷ Pend 0 99999 ∷ Create 1 5 2 ∷ Create 2 5 2 ∷ cut_at_once 4)

sent : List Event
sent = run_of printer sends_back (fresh_table printer) asked

-- what is to be known of that run: the premises, and the left lane's lag with its bound
record Sent : Type 0 where
  same : all (same_set 5) (drop 5 sent) ≡ true
  quiet : all (undisturbed 5) (drop 5 sent) ≡ true
  earlier : count charges (take 5 sent) ≡ 0
  left : ready_at 5 (end_of (decode printer (fresh_table printer)) sent) 1 ≡ true
  lags : lag (account sent) (end_of (decode printer (fresh_table printer)) sent) 1 ≡ negsuc 15
  sum : sum_turns 5 (end_of (decode printer (fresh_table printer)) sent).threads ≡ 4
  turn : (at (end_of (decode printer (fresh_table printer)) sent).threads 1).turn ≡ 2

sent_so : Sent
unfolding behind_the_door written single_ticks run_of account_from sum_over lag_of lag sends_back again cut_at_once asked sent
sent_so = record { same = refl; quiet = refl; earlier = refl; left = refl; lags = refl; sum = refl; turn = refl }

pub lags_broken : LagsBroken
unfolding sent
lags_broken bound =
    let x = sent_so in
    omega (arith, rw (x.lags, x.sum, x.turn) at (bound asked 5 5 x.same x.quiet (λ i m. uncharged i (take 5 sent) x.earlier) 1 x.left))
