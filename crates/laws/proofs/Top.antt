-- Who is the top: going down the priorities, the first line that has a first thread is the highest that is not empty, since each line
-- that is not empty has a thread at place 1. There is one such thread, so settling a sound state changes nothing. Assumes nothing.
use mathlib.Core.Bool.{true}
use mathlib.Core.Path.{◌≡◌, refl, ap, sym, ◌∙◌}
use mathlib.Core.List.{List}
use Prim.Native.Nat.{ℕ, zero, suc, ◌≤◌, ◌<◌}
use native.Mathlib.Omega.{arith}
use native.Mathlib.Decide.{ℕ_discrete}
use borrow.Author.Tests.{ltb-true, ltb-false, eq-eqb, ne_eqb}
use lib.Dec.{ltb}
use lib.ListN.{length}
use Rattle.rules.specs.Board.{top_priority}
use Rattle.rules.specs.State.{State, free, at, is_ready, with_running}
use Rattle.rules.specs.Lines.{ready, in_line, is_first, first, top_below, top, settle}
use Rattle.rules.specs.Sound.{Lines, Sound}
use Rattle.rules.specs.declared.Thread.{Thread}
use Rattle.laws.proofs.Split.{is, isnt, test}
use Rattle.laws.proofs.Counts.{within, count_in, find_hit}
use Rattle.laws.proofs.Lines.{in_ready, ready_used}
use Rattle.laws.proofs.Places.{stands, first_there}

-- thread i is the first of the highest ready line that is not empty
pub record Top (ts : List Thread) (i : ℕ) : Type 0 where
  pub ready : is_ready (at ts i) ≡ true
  pub first : (at ts i).place ≡ 1
  pub highest : (j : ℕ) → is_ready (at ts j) ≡ true → (at ts j).priority ≤ (at ts i).priority

-- where all ready threads are below priority p, and there is one
top_below_lem : (ts : List Thread) → Lines ts → (k : ℕ) → is_ready (at ts k) ≡ true
    → (p : ℕ) → ((i : ℕ) → is_ready (at ts i) ≡ true → (at ts i).priority < p) → Top ts (top_below p ts)
unfolding top_below
top_below_lem ts h k r zero low = absurd (omega (arith, low k r))
top_below_lem ts h k r (suc p) low = elim (test (ltb (first (ready p) ts) (length ts))) [
  | is e ↦
      let i = first (ready p) ts in
      let m = (stands (ready p) 1 (at ts i)).0 (find_hit (is_first (ready p)) free refl ts (ltb-true i (length ts) e)) in
      let v = (in_ready p (at ts i)).0 m.0 in
      rw e (record { ready = v.0; first = m.1; highest = λ j q. omega (arith, low j q, v.1) })
  | isnt e ↦ rw e (top_below_lem ts h k r p (λ i q. elim (ℕ_discrete (at ts i).priority p) [
    | yes c ↦
        let n = count_in (in_line (ready p)) free refl ts i ((in_ready p (at ts i)).1 (q, c)) in
        absurd (omega (arith, first_there ts h (ready p) n, ltb-false (first (ready p) ts) (length ts) e))
    | no c ↦ omega (arith, low i q)
  ]))
]

pub top_highest : (ts : List Thread) → Lines ts → is_ready (at ts 0) ≡ true
    → ((i : ℕ) → is_ready (at ts i) ≡ true → (at ts i).priority ≤ top_priority) → Top ts (top ts)
unfolding top
top_highest ts h r low = top_below_lem ts h 0 r (suc top_priority) (λ i q. omega (arith, low i q))

-- there is only one
pub top_one : (ts : List Thread) → Lines ts → (i j : ℕ) → Top ts i → Top ts j → i ≡ j
top_one ts h i j a b =
    let p = (at ts i).priority in
    let same : (at ts j).priority ≡ p = omega (arith, a.highest j b.ready, b.highest i a.ready) in
    h.apart (ready p) i j ((in_ready p (at ts i)).1 (a.ready, refl)) ((in_ready p (at ts j)).1 (b.ready, same)) (a.first ∙ sym b.first)

pub sound_running : (s : State) → Sound s → s.running < length s.threads
sound_running s h = within is_ready free refl s.threads s.running h.runs

pub sound_top : (s : State) → Sound s → s.lock ≡ 0 → Top s.threads s.running
sound_top s h z = record { ready = h.runs; first = h.leads z; highest = h.highest z }

pub top_running : (s : State) → Sound s → s.lock ≡ 0 → top s.threads ≡ s.running
top_running s h z =
    let high : (i : ℕ) → is_ready (at s.threads i) ≡ true → (at s.threads i).priority ≤ top_priority =
    λ i r. (h.threads i (ready_used (at s.threads i) r)).priority in
    top_one s.threads h.lines (top s.threads) s.running (top_highest s.threads h.lines h.init.0 high) (sound_top s h z)

pub settle_sound : (s : State) → Sound s → settle s ≡ s
unfolding settle
settle_sound s h = elim (ℕ_discrete s.lock 0) [
  | yes z ↦ rw (eq-eqb s.lock 0 z) (ap (λ r. with_running r s) (top_running s h z))
  | no z ↦ rw (ne_eqb s.lock 0 z)
]
