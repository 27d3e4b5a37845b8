-- Fairness: a tick charged to the rank lowers each member's due by 1, every other step leaves the rank as it is, and where k
-- times as many ticks are charged to the rank as its turns sum to, each due has come round k times. Assumes nothing.
use Rattle.std.specs.Prelude.{if◌then◌else◌}
use mathlib.Core.Bool.{Bool, true, false, ◌&&◌}
use mathlib.Core.Path.{◌≡◌, refl, ap, sym, ◌∙◌}
use mathlib.Core.List.{List, [], ◌∷◌, ◌++◌}
use Prim.Native.Nat.{ℕ, ◌*◌, ◌<◌}
use native.Mathlib.Omega.{arith}
use lib.Dec.{eqb}
use borrow.Author.Tests.{not-true}
use lib.ListN.{length, get_or, get_or-map}
use Rattle.rules.specs.Basic.{bit, count, all}
use Rattle.rules.specs.State.{State, free, at}
use Rattle.rules.specs.Lines.{ready, in_line}
use Rattle.rules.specs.Sound.{Sound}
use Rattle.rules.specs.Answers.{code_of}
use Rattle.rules.specs.Time.{do_tick}
use Rattle.rules.specs.Steps.{step}
use Rattle.rules.specs.declared.Thread.{Thread}
use Rattle.rules.specs.declared.Request.{Request}
use Rattle.laws.proofs.Split.{is, isnt, test, and_true, and_both, and_off}
use Rattle.laws.proofs.Members.{in_range, Σ_shift}
use Rattle.laws.proofs.Counts.{bytes_same}
use Rattle.preservation.proofs.Steps.{kept}
use Rattle.fairness.specs.Run.{Event, end_of, deed_of, deed, is_tick, is_zero, accepted, ready_at, ready_set, same_set, sum_turns, charged_to, charged_rank}
use Rattle.fairness.specs.Fair.{ByRules, refused, served, RunFrom, moves, steady, Fairness}
use Rattle.fairness.proofs.Keeps.{Same}
use Rattle.fairness.proofs.Operations.{Effect, ticks, keeps, does}
use Rattle.fairness.proofs.Rank.{Cell, turns, Fare, no_fare, fares, Window, whole_rounds, same_turns}
use Rattle.fairness.proofs.View.{cell, view, view_in, member_place, good}
use Rattle.fairness.proofs.Ticks.{still, tick_fare}

-- A STEP

module _ (p n : ℕ) (s : State) (σ : Sound s) (below : (j : ℕ) → ready_at p s j ≡ true → j < n) (i : ℕ) (m : ready_at p s i ≡ true) where
  step_fare : (q : Request) → Same p s.threads (step s q).state.threads → is_zero (code_of (step s q).answer) && moves p s (deed_of q) ≡ false
      → Fare n i (view p s.threads) (view p (step s q).state.threads)
      (bit (is_tick (deed_of q) && is_zero (code_of (step s q).answer) && eqb s.lock 0 && ready_at p s s.running))
      (bit (is_tick (deed_of q) && is_zero (code_of (step s q).answer) && eqb s.lock 0 && eqb s.running i))
  unfolding Effect step do_tick
  step_fare q h o = elim (does p s q o) [
    | ticks e ↦ rw e (tick_fare p n s σ below (rw e at h) i m)
    | keeps e k ↦ rw e (still p n i s.threads (step s q).state.threads h (k h))
  ]

bit_eq : (a b : Bool) → bit a ≡ bit b → a ≡ b
bit_eq true true e = refl
bit_eq true false e = absurd (omega arith)
bit_eq false true e = absurd (omega arith)
bit_eq false false e = refl

-- the same ready set, thread by thread
pub same_set_lem : (p : ℕ) (e : Event) → same_set p e ≡ true → (i : ℕ) → ready_at p e.after i ≡ ready_at p e.before i
same_set_lem p e h i = bit_eq _ _ (
    sym (get_or-map (λ t. bit (in_line (ready p) t)) e.after.threads i free)
    ∙ ap (λ l. get_or l i 0) ((bytes_same (ready_set p e.after) (ready_set p e.before)).0 h)
    ∙ get_or-map (λ t. bit (in_line (ready p) t)) e.before.threads i free)

event_fare : (p n : ℕ) (e : Event) → Sound e.before → ((j : ℕ) → ready_at p e.before j ≡ true → j < n) → ByRules e → steady p e ≡ true
    → (i : ℕ) → ready_at p e.before i ≡ true
    → Fare n i (view p e.before.threads) (view p e.after.threads) (bit (charged_rank p e)) (bit (charged_to i e))
unfolding Same
event_fare p n e σ below (refused a k) h i m = rw (k, a, and_off) (no_fare n i (view p e.before.threads))
event_fare p n e σ below (served q a c k) h i m =
    let x = and_true _ _ h in
    let o : accepted e && moves p e.before (deed e.asked) ≡ false = not-true _ x.1 in
    rw (a, c, k) (step_fare p n e.before σ below i m q (rw k at (same_set_lem p e x.0)) (rw (a, c) at o))

-- THE TURNS OF A RANK

cell_turn : (p : ℕ) (t : Thread) → (cell p t).turn ≡ (if in_line (ready p) t then t.turn else 0)
cell_turn p t = elim (test (in_line (ready p) t)) [ is m ↦ rw m | isnt m ↦ rw m ]

pub sum_turns_lem : (p : ℕ) (ts : List Thread) → sum_turns p ts ≡ turns (length ts) (view p ts)
unfolding turns view
sum_turns_lem p [] = refl
sum_turns_lem p (t ∷ ts) = omega (arith, sum_turns_lem p ts, Σ_shift (length ts) (λ j. (view p (t ∷ ts) j).turn), cell_turn p t)

-- THE RUN

-- what stands behind does not matter
all_append : {A : Type 0} (f : A → Bool) (xs ys : List A) → all f (xs ++ ys) ≡ true → (all f xs ≡ true) × (all f ys ≡ true)
all_append f [] ys h = (refl, h)
all_append f (x ∷ xs) ys h =
    let a = and_true (f x) (all f (xs ++ ys)) h in
    let b = all_append f xs ys a.1 in
    (and_both _ _ a.0 b.0, b.1)

pub run_append : (s : State) (xs ys : List Event) → RunFrom s (xs ++ ys) → RunFrom s xs × RunFrom (end_of s xs) ys
run_append s [] ys h = (tt, h)
run_append s (x ∷ xs) ys h = let a = run_append x.after xs ys h.2 in ((h.0, h.1, a.0), a.1)

-- a run from s: where it ends, and what is charged in it
pub record Ran (p n i : ℕ) (s : State) (es : List Event) : Type 0 where
  pub sound : Sound (end_of s es)
  pub same : (j : ℕ) → ready_at p (end_of s es) j ≡ ready_at p s j
  pub fare : Fare n i (view p s.threads) (view p (end_of s es).threads) (count (charged_rank p) es) (count (charged_to i) es)

pub event_sound : (e : Event) → ByRules e → Sound e.before → Sound e.after
event_sound e (refused a k) σ = rw k σ
event_sound e (served q a c k) σ = rw k (kept e.before q σ)

pub ran : (p n i : ℕ) (s : State) (es : List Event) → Sound s → ((j : ℕ) → ready_at p s j ≡ true → j < n) → ready_at p s i ≡ true
    → RunFrom s es → all (steady p) es ≡ true → Ran p n i s es
ran p n i s [] σ below m h k = record { sound = σ; same = λ j. refl; fare = no_fare n i (view p s.threads) }
ran p n i s (e ∷ es) σ below m h k =
    let a = and_true _ _ k in
    let σ' : Sound e.before = rw h.0 σ in
    let below' : (j : ℕ) → ready_at p e.before j ≡ true → j < n = rw h.0 below in
    let m' : ready_at p e.before i ≡ true = rw h.0 m in
    let q = same_set_lem p e (and_true _ _ a.0).0 in
    let r = ran p n i e.after es (event_sound e h.1 σ') (λ j l. below' j (sym (q j) ∙ l)) (q i ∙ m') h.2 a.1 in
    record {
      sound = r.sound;
      same = λ j. r.same j ∙ q j ∙ ap (λ u. ready_at p u j) h.0;
      fare = rw (← h.0) (fares n i _ _ _ _ _ _ _ (event_fare p n e σ' below' h.1 a.0 i m') r.fare);
    }

-- an unbroken part of a run, as a window of the rank's line
pub record Part (p i : ℕ) (s : State) (part : List Event) : Type 0 where
  pub n : ℕ
  pub v : ℕ → Cell
  pub v' : ℕ → Cell
  pub window : Window n i v v' (count (charged_rank p) part) (count (charged_to i) part)
  pub sum : turns n v ≡ sum_turns p s.threads
  pub turn : (v i).turn ≡ (at s.threads i).turn

pub part_of : (p : ℕ) (s : State) (before part behind : List Event)
    → Sound s → RunFrom s (before ++ (part ++ behind)) → all (steady p) (before ++ (part ++ behind)) ≡ true
    → (i : ℕ) → ready_at p s i ≡ true → Part p i s part
part_of p s before part behind σ h k i m =
    let ts = s.threads in
    let n = length ts in
    let u = end_of s before in
    let x = end_of u part in
    let h₁ = run_append s before (part ++ behind) h in
    let k₁ = all_append (steady p) before (part ++ behind) k in
    let h₂ = run_append u part behind h₁.1 in
    let k₂ = all_append (steady p) part behind k₁.1 in
    let b : (j : ℕ) → ready_at p s j ≡ true → j < n = λ j l. in_range ts j (ready p) l in
    let a : Ran p n i s before = ran p n i s before σ b m h₁.0 k₁.0 in
    let c : (j : ℕ) → ready_at p u j ≡ true → j < n = λ j l. b j (sym (a.same j) ∙ l) in
    let m₁ : ready_at p u i ≡ true = a.same i ∙ m in
    let r : Ran p n i u part = ran p n i u part a.sound c m₁ h₂.0 k₂.0 in
    let d : (j : ℕ) → ready_at p x j ≡ true → j < n = λ j l. c j (sym (r.same j) ∙ l) in
    record {
      n = n;
      v = view p u.threads;
      v' = view p x.threads;
      window = record {
        N = _;
        N' = _;
        good = good p n u a.sound c;
        good' = good p n x r.sound d;
        place = member_place p u a.sound i m₁;
        place' = member_place p x r.sound i (r.same i ∙ m₁);
        fare = r.fare;
      };
      sum = same_turns n (view p ts) (view p u.threads) a.fare.turn ∙ sym (sum_turns_lem p ts);
      turn = a.fare.turn i ∙ ap (λ z. z.turn) (view_in p ts i m);
    }

pub fairness : Fairness
fairness p rounds s before part behind σ h k w i m =
    let x = part_of p s before part behind σ h k i m in
    let y = x.window in
    let full : count (charged_rank p) part ≡ rounds * turns x.n x.v = w ∙ ap (λ z. rounds * z) (sym x.sum) in
    (whole_rounds rounds x.n _ _ i _ x.v x.v' y.good y.good' y.place y.place' (rw full at y.fare)).0 ∙ ap (λ z. rounds * z) x.turn
