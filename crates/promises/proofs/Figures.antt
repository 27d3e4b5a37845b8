-- Where the figures of a run meet the premises of demand 3, a fair door charges each thread its own turn. Assumes nothing.
use mathlib.Core.Bool.{true}
use mathlib.Core.Path.{◌≡◌, refl}
use mathlib.Core.List.{List, [], ◌∷◌}
use Prim.Native.Nat.{ℕ, suc, ◌+◌}
use native.Mathlib.Omega.{arith}
use lib.Dec.{eqb}
use borrow.Author.Tests.{eqb-true, eq-eqb}
use Rattle.rules.specs.Basic.{count, all}
use Rattle.rules.specs.Board.{printer}
use Rattle.rules.specs.State.{at}
use Rattle.rules.specs.Lines.{ready, in_line}
use Rattle.rules.specs.Table.{decode}
use Rattle.rules.specs.declared.Thread.{Thread}
use Rattle.laws.proofs.Split.{is, isnt, test, and_true, and_both}
use Rattle.laws.proofs.Tested.{tested_table}
use Rattle.fairness.specs.Run.{Event, charged_to}
use Rattle.fairness.specs.Doors.{Door}
use Rattle.promises.specs.Demand3.{FairDoor}
use Rattle.promises.specs.Figures.{Run, shares_from, figures, premises, own_turns}

-- the shares of threads i and on
own_shares : (p i : ℕ) (ts : List Thread) (part : List Event) → ((j n : ℕ) → n ≡ i + j → in_line (ready p) (at ts j) ≡ true → count (charged_to n) part ≡ (at ts j).turn)
    → all (λ s. eqb s.charged s.turn) (shares_from p i ts part) ≡ true
unfolding shares_from
own_shares p i [] part h = refl
own_shares p i (t ∷ ts) part h =
    let rest = own_shares p (suc i) ts part (λ j n e m. h (suc j) n (omega arith) m) in
    elim (test (in_line (ready p) t)) [
      | is m ↦ rw m (and_both _ _ (eq-eqb _ _ (h 0 i (omega arith) m)) rest)
      | isnt m ↦ rw m rest
    ]

pub own_turns_lem : (d : Door) (p : ℕ) (r : Run) → FairDoor printer d → premises (figures d p r) ≡ true → own_turns (figures d p r) ≡ true
unfolding figures
own_turns_lem d p r fair e =
    let a = and_true _ _ e in
    let b = and_true _ _ a.0 in
    let c = and_true _ _ b.0 in
    own_shares p 0 (decode printer r.table).threads _ (λ j n q m.
    let k : n ≡ j = omega arith in
    rw k (fair r.table r.handed p r.from r.steps ((tested_table printer r.table).0 c.0) c.1 b.1 (eqb-true _ _ a.1) j m))
