-- A lane's lag is bounded where demand 3 covers its charges: a tick that is charged to the rank is charged to one of its ready threads, so that
-- their accounts sum to the rank's ticks, and the lag says how far the thread is from its share of these. Assumes nothing.
use mathlib.Core.Bool.{Bool, true, false, ◌&&◌}
use mathlib.Core.Path.{◌≡◌, refl, ap, sym, ◌∙◌}
use mathlib.Core.List.{List, [], ◌∷◌, ◌++◌, append-nil}
use Prim.Native.Nat.{ℕ, zero, suc, ◌+◌, ◌*◌, ◌-◌, ◌≤◌, ◌<◌}
use native.Mathlib.Omega.{arith}
use lib.Dec.{eqb, ltb}
use borrow.Author.Tests.{ltb-true, eq-eqb, ne_eqb}
use lib.IntN.{sub_ℕ}
use Rattle.rules.specs.Basic.{bit, count, all}
use Rattle.rules.specs.State.{State, at}
use Rattle.rules.specs.Lines.{ready, in_line}
use Rattle.rules.specs.declared.Thread.{Thread}
use Rattle.laws.proofs.Split.{is, isnt, test, and_true}
use Rattle.laws.proofs.Lines.{in_ready}
use Rattle.fairness.specs.Run.{Event, end_of, charges, ready_at, sum_turns, charged_to, charged_rank}
use Rattle.fairness.specs.Fair.{RunFrom, steady}
use Rattle.fairness.specs.Lateness.{Near}
use Rattle.fairness.proofs.Fair.{same_set_lem}
use Rattle.fairness.proofs.Lateness.{never_far}
use Rattle.lanes.specs.Lag.{account, sum_over, lag_of, lag, distance, LagBound}
use Rattle.lanes.proofs.Lag.{covered}
use Rattle.lanes.proofs.Lines.{sum_as}

-- WHAT THE RANK'S THREADS HAVE IN ALL

sum_none : (p i : ℕ) (ts : List Thread) → sum_over p (λ j. 0) i ts ≡ 0
unfolding sum_over
sum_none p i [] = refl
sum_none p i (t ∷ ts) =
    let rest = sum_none p (suc i) ts in
    elim (test (in_line (ready p) t)) [ is m ↦ rw m (omega (arith, rest)) | isnt m ↦ rw m (omega (arith, rest)) ]

sum_plus : (p : ℕ) (f g : ℕ → ℕ) (i : ℕ) (ts : List Thread) → sum_over p (λ j. f j + g j) i ts ≡ sum_over p f i ts + sum_over p g i ts
unfolding sum_over
sum_plus p f g i [] = refl
sum_plus p f g i (t ∷ ts) = elim (test (in_line (ready p) t)) [
  | is m ↦ rw m (omega (arith, sum_plus p f g (suc i) ts))
  | isnt m ↦ rw m (omega (arith, sum_plus p f g (suc i) ts))
]

-- one tick of thread r: none of those behind it has it, and of all the threads it alone, if it is of the rank
sum_behind : (p r i : ℕ) (ts : List Thread) → r < i → sum_over p (λ j. bit (eqb r j)) i ts ≡ 0
unfolding sum_over
sum_behind p r i [] h = refl
sum_behind p r i (t ∷ ts) h =
    let rest = sum_behind p r (suc i) ts (omega arith) in
    elim (test (in_line (ready p) t)) [ is m ↦ rw (m, ne_eqb r i (omega arith)) (omega (arith, rest)) | isnt m ↦ rw m (omega (arith, rest)) ]

sum_tick : (p r i n : ℕ) (ts : List Thread) → n ≡ i + r → sum_over p (λ j. bit (eqb n j)) i ts ≡ bit (in_line (ready p) (at ts r))
unfolding sum_over
sum_tick p r i n [] e = refl
sum_tick p zero i n (t ∷ ts) e =
    let rest = sum_behind p n (suc i) ts (omega arith) in
    elim (test (in_line (ready p) t)) [ is m ↦ rw (m, eq-eqb n i (omega arith)) (omega (arith, rest)) | isnt m ↦ rw m (omega (arith, rest)) ]
sum_tick p (suc r) i n (t ∷ ts) e =
    let rest = sum_tick p r (suc i) n ts (omega arith) in
    elim (test (in_line (ready p) t)) [ is m ↦ rw (m, ne_eqb n i (omega arith)) (omega (arith, rest)) | isnt m ↦ rw m (omega (arith, rest)) ]

sum_charge : (charged : Bool) (p r : ℕ) (ts : List Thread) → sum_over p (λ j. bit (charged && eqb r j)) 0 ts ≡ bit (charged && in_line (ready p) (at ts r))
sum_charge true p r ts = sum_tick p r 0 r ts (omega arith)
sum_charge false p r ts = sum_none p 0 ts

-- over a steady run, as many ticks as are charged to the rank
sum_charged : (p : ℕ) (ts : List Thread) (s : State) (es : List Event) → ((j : ℕ) → ready_at p s j ≡ in_line (ready p) (at ts j)) → RunFrom s es → all (steady p) es ≡ true
    → sum_over p (λ j. count (charged_to j) es) 0 ts ≡ count (charged_rank p) es
sum_charged p ts s [] same h k = sum_none p 0 ts
sum_charged p ts s (e ∷ es) same h k =
    let a = and_true _ _ k in
    let r = e.before.running in
    let q = same_set_lem p e (and_true _ _ a.0).0 in
    let here : (j : ℕ) → ready_at p e.before j ≡ in_line (ready p) (at ts j) = rw h.0 same in
    sum_plus p (λ j. bit (charged_to j e)) (λ j. count (charged_to j) es) 0 ts
    ∙ (λ j. sum_charge (charges e) p r ts j + sum_charged p ts e.after es (λ j. q j ∙ here j) h.2 a.1 j)
    ∙ ap (λ b. bit (charges e && b) + count (charged_rank p) es) (sym (here r))

-- THE LAG

pub difference : (a b n : ℕ) → a ≤ b + n → b ≤ a + n → distance (sub_ℕ a b) ≤ n
difference a b n h k = elim (test (ltb a b)) [ is e ↦ rw e (omega (arith, ltb-true a b e)) | isnt e ↦ rw e (omega arith) ]

-- whichever of the two products is taken from the other
lag_near : (p : ℕ) (f : ℕ → ℕ) (s : State) (i : ℕ) → ready_at p s i ≡ true
    → Near (sum_turns p s.threads) (at s.threads i).turn (sum_over p f 0 s.threads) (f i)
    → distance (lag f s i) ≤ (at s.threads i).turn * (sum_turns p s.threads - (at s.threads i).turn)
unfolding lag lag_of
lag_near p f s i m h =
    let r = (in_ready p (at s.threads i)).0 m in
    rw (r.0, r.1) (omega (arith, difference _ _ _ h.0 h.1, difference _ _ _ h.1 h.0))

pub lag_bound_lem : LagBound
lag_bound_lem p s before part σ h steadily earlier i m =
    let u = end_of s before in
    let x = end_of s (before ++ part) in
    let c = covered p s before part σ h steadily earlier in
    let f = account (before ++ part) in
    let sum : sum_over p f 0 x.threads ≡ count (charged_rank p) part =
    sum_as f (λ j. count (charged_to j) part) p 0 x.threads (λ j n e l. let k : n ≡ j = omega arith in rw k (c.charged j l))
    ∙ sum_charged p x.threads u part (λ j. sym (c.same j)) c.run steadily in
    let near = never_far p u [] part [] c.sound (rw (append-nil part) c.run) (rw (append-nil part) steadily) i (sym (c.same i) ∙ m) in
    omega (arith, lag_near p f x i m (rw (sum, c.charged i m, c.turn i m, c.sum i m) near))
