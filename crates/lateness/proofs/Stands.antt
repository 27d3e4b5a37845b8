-- The figures say what the bounds say: a difference is as far from 0 as its two numbers are apart, and of all k that `InTime` speaks of the least one
-- bounds the ticks best. A bound that a door keeps holds of each thread in the figures of a run that meets the premises. Assumes nothing.
use mathlib.Core.Bool.{Bool, true, ◌&&◌}
use mathlib.Core.Path.{◌≡◌, ap}
use mathlib.Core.List.{List, [], ◌∷◌}
use Prim.Native.Nat.{ℕ, suc, ◌+◌, ◌*◌, ◌-◌, ◌/◌, ◌≤◌, ◌<◌}
use native.Mathlib.Omega.{arith}
use native.Mathlib.Decide.{dec_le}
use native.Mathlib.Nat.{div-add-mod', mod-lt, mul-le-mul_right}
use lib.Dec.{ltb}
use borrow.Author.Tests.{ltb-true, ltb-false}
use lib.IntN.{sub_ℕ}
use Rattle.rules.specs.Basic.{count}
use Rattle.rules.specs.Board.{printer}
use Rattle.rules.specs.State.{at}
use Rattle.rules.specs.Lines.{ready, in_line}
use Rattle.rules.specs.Table.{decode}
use Rattle.rules.specs.declared.Thread.{Thread}
use Rattle.laws.proofs.Split.{is, isnt, test, and_true}
use Rattle.laws.proofs.Tested.{tested_table}
use Rattle.fairness.specs.Run.{Event, charged_to}
use Rattle.fairness.specs.Doors.{Door}
use Rattle.fairness.specs.Lateness.{Bound, InTime}
use Rattle.lanes.specs.Lag.{distance}
use Rattle.lanes.proofs.Bound.{difference}
use Rattle.promises.specs.Figures.{Run, Share, shares_from, Figures, figures}
use Rattle.lateness.specs.Moments.{KeptBy}
use Rattle.lateness.specs.Stands.{latest, Told, Stand, Seen, seen, sees, HoldsOf, HoldsIn}

apart : (a b n : ℕ) → distance (sub_ℕ a b) ≤ n → (a ≤ b + n) × (b ≤ a + n)
apart a b n h = elim (test (ltb a b)) [
  | is e ↦ let k = rw e at h in (omega (arith, ltb-true a b e), omega arith)
  | isnt e ↦ let k = rw e at h in (omega (arith, ltb-false a b e), omega (arith, ltb-false a b e))
]

-- the least number of turns that is more than what is charged
module _ (turn own : ℕ) (p : 1 ≤ turn) where
  enough : own < suc (own / turn) * turn
  enough = omega (arith, div-add-mod' own turn, mod-lt own p)

  least : (k : ℕ) → own < k * turn → suc (own / turn) ≤ k
  least k h = elim (dec_le (suc (own / turn)) k) [
    | yes l ↦ l
    | no l ↦ let q : k ≤ own / turn = omega arith in absurd (omega (arith, div-add-mod' own turn, mul-le-mul_right turn q))
  ]

  in_time_lem : (sum ticks : ℕ) → ticks ≤ latest sum turn own → InTime sum turn ticks own
  in_time_lem sum ticks h =
      let all : (k : ℕ) → own < k * turn → ticks ≤ own + k * (sum - turn) = λ k l. omega (arith, mul-le-mul_right (sum - turn) (least k l)) in
      (λ e. omega (arith, all 1 (omega arith)), all)

pub told : Told
told = record {
  near = λ sum turn ticks own. (λ h. difference _ _ _ h.0 h.1, apart _ _ _);
  in_time = λ sum turn ticks own p. (λ h. h.1 (suc (own / turn)) (enough turn own p), in_time_lem turn own p sum ticks);
}

-- the shares of threads i and on
held : (B : Bound) (sum ticks p i : ℕ) (ts : List Thread) (part : List Event)
    → ((j n : ℕ) → n ≡ i + j → in_line (ready p) (at ts j) ≡ true → B sum (at ts j).turn ticks (count (charged_to n) part))
    → HoldsOf B sum ticks (shares_from p i ts part)
unfolding shares_from
held B sum ticks p i [] part h = tt
held B sum ticks p i (t ∷ ts) part h =
    let rest = held B sum ticks p (suc i) ts part (λ j n e m. h (suc j) n (omega arith) m) in
    elim (test (in_line (ready p) t)) [
      | is m ↦ rw m (h 0 i (omega arith) m, rest)
      | isnt m ↦ rw m rest
    ]

-- the premises of demand 3, but that the ticks make a round
met : Figures → Bool
met f = f.sound && f.same && f.quiet

holds : (B : Bound) (d : Door) (p : ℕ) (r : Run) → KeptBy B printer d → met (figures d p r) ≡ true → HoldsIn B (figures d p r)
unfolding figures met
holds B d p r kept e =
    let a = and_true _ _ e in
    let b = and_true _ _ a.0 in
    held B _ _ p 0 (decode printer r.table).threads _ (λ j n q m.
    let k : n ≡ j = omega arith in
    rw k (kept r.table r.handed p r.from r.steps ((tested_table printer r.table).0 b.0) b.1 a.1 j m))

-- by what is seen of a run
module _ (B : Bound) (d : Door) (r : Run) {R n : ℕ} {ss : List Share} {ts : List Stand} (e : seen (figures d 5 r) ≡ sees R n ss ts) (kept : KeptBy B printer d) where
  pub holds_in : HoldsIn B (figures d 5 r)
  unfolding met
  holds_in = holds B d 5 r kept (ap (λ (x : Seen). met x.figures) e)

  pub holds_of : HoldsOf B R n ss
  holds_of = rw (ap (λ (x : Seen). x.figures) e) at holds_in
