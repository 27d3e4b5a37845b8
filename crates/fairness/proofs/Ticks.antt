-- A tick, to one rank: its first is charged, goes on or goes to the tail; the waits that end move no member. Assumes nothing.
use mathlib.Core.Bool.{true, false, ◌&&◌}
use mathlib.Core.Path.{◌≡◌, sym, ◌∙◌}
use mathlib.Core.Logic.{◌≢◌}
use mathlib.Core.List.{List}
use Prim.Native.Nat.{ℕ, pred, ◌≤◌, ◌<◌}
use native.Mathlib.Omega.{arith}
use native.Mathlib.Decide.{ℕ_discrete}
use lib.Dec.{leb, eqb}
use borrow.Author.Tests.{leb-true, leb-false, eqb-true, ne_eqb}
use lib.ListN.{length}
use Rattle.rules.specs.Basic.{bit}
use Rattle.rules.specs.State.{State, at, caller, counter_of, with_counter, with_threads}
use Rattle.rules.specs.Lines.{ready, in_line, line_length}
use Rattle.rules.specs.Sound.{Sound}
use Rattle.rules.specs.Time.{charge, charged, timeouts, do_tick}
use Rattle.rules.specs.declared.Thread.{Thread}
use Rattle.laws.proofs.Split.{is, isnt, test, clash, if_case}
use Rattle.fairness.specs.Run.{ready_at}
use Rattle.fairness.proofs.Keeps.{Keeps, Same, keeps_trans, keeps_off, keeps_move}
use Rattle.fairness.proofs.Operations.{keeps_timeouts, settle_threads}
use Rattle.fairness.proofs.Rank.{Goes, Turns, Fare, goes_fare, turns_fare, no_fare}
use Rattle.fairness.proofs.View.{view, member_sound, member_place, good, view_eq, down, back, down_same, down_goes, back_same, back_turns}

-- nothing is charged to the rank
pub still : (p n i : ℕ) (ts us : List Thread) → Same p ts us → Keeps p ts us → Fare n i (view p ts) (view p us) 0 0
still p n i ts us h k = rw (view_eq p ts us h k) (no_fare n i (view p ts))

-- A TICK

-- the first of the rank is charged
module _ (p n : ℕ) (s : State) (σ : Sound s) (below : (j : ℕ) → ready_at p s j ≡ true → j < n) (z : s.lock ≡ 0) (m : ready_at p s s.running ≡ true) where
  two : (j : ℕ) → j ≢ s.running → ready_at p s j ≡ true → 2 ≤ (at s.threads j).place
  two j k e = elim (ℕ_discrete (at s.threads j).place 1) [
    | yes q ↦ absurd (k (σ.lines.apart (ready p) j s.running e m (q ∙ sym (σ.leads z))))
    | no q ↦ omega (arith, σ.lines.low (ready p) j e)
  ]

  goes_on : 1 < counter_of (caller s).wait → Goes s.running (view p s.threads) (view p (down s.running s.threads))
  goes_on h = down_goes p s.running s.threads m (σ.leads z) h

  rotates : counter_of (caller s).wait ≤ 1 → Turns (line_length (ready p) s.threads) s.running (view p s.threads) (view p (back s.running s.threads))
  rotates h = back_turns p s.running s.threads m (σ.leads z) (omega (arith, (member_sound p s s.running σ m).first σ.runs (σ.leads z))) two

  charge_same : Same p s.threads (charge s.running s.threads)
  unfolding charge down back
  charge_same = if_case (Same p s.threads) (leb (counter_of (caller s).wait) 1)
      (λ e. back_same p s.running s.threads m (σ.leads z))
      (λ e. down_same p s.running s.threads m (σ.leads z))

  charge_fare : (i : ℕ) → ready_at p s i ≡ true → Fare n i (view p s.threads) (view p (charge s.running s.threads)) 1 (bit (eqb s.running i))
  unfolding charge down back
  charge_fare i e =
      let γ = good p n s σ below in
      let h = member_place p s σ i e in
      if_case (λ us. Fare n i (view p s.threads) (view p us) 1 (bit (eqb s.running i))) (leb (counter_of (caller s).wait) 1)
      (λ l. turns_fare γ (rotates (leb-true (counter_of (caller s).wait) 1 l)) i h)
      (λ l. goes_fare γ (goes_on (leb-false (counter_of (caller s).wait) 1 l)) i h)

-- a thread that is no member is charged
keeps_charge : (p r : ℕ) (ts : List Thread) → in_line (ready p) (at ts r) ≡ false → Keeps p ts (charge r ts)
unfolding charge
keeps_charge p r ts e = if_case (Keeps p ts) (leb (counter_of (at ts r).wait) 1)
    (λ l. keeps_move p r (λ t. t) ts e)
    (λ l. keeps_off p r (with_counter (pred (counter_of (at ts r).wait))) ts e)

tick_threads : (s : State) → (do_tick s).state.threads ≡ timeouts (length s.threads) (charged s)
unfolding do_tick
tick_threads s = settle_threads (with_threads (timeouts (length s.threads) (charged s)) s)

same_trans : (p : ℕ) (ts us ws : List Thread) → Same p ts us → Same p ts ws → Same p us ws
unfolding Same
same_trans p ts us ws f g i = g i ∙ sym (f i)

pub tick_fare : (p n : ℕ) (s : State) → Sound s → ((j : ℕ) → ready_at p s j ≡ true → j < n) → Same p s.threads (do_tick s).state.threads
    → (i : ℕ) → ready_at p s i ≡ true
    → Fare n i (view p s.threads) (view p (do_tick s).state.threads) (bit (eqb s.lock 0 && ready_at p s s.running)) (bit (eqb s.lock 0 && eqb s.running i))
unfolding charged
tick_fare p n s σ below h i e =
    let n = length s.threads in
    let us = charge s.running s.threads in
    elim (test (eqb s.lock 0)) [
      | isnt z ↦ rw z (still p _ i s.threads _ h (rw (tick_threads s, z) (keeps_timeouts p n s.threads)))
      | is z ↦ elim (test (ready_at p s s.running)) [
        | isnt m ↦ rw (z, m, ne_eqb s.running i (λ q. clash e (rw (← q) m)))
            (still p _ i s.threads _ h (rw (tick_threads s, z) (keeps_trans p _ _ _ (keeps_charge p s.running s.threads m) (keeps_timeouts p n us))))
        | is m ↦
            let l = eqb-true s.lock 0 z in
            let q : view p (do_tick s).state.threads ≡ view p us = view_eq p us (do_tick s).state.threads
            (same_trans p s.threads us (do_tick s).state.threads (charge_same p _ s σ below l m) h)
            (rw (tick_threads s, z) (keeps_timeouts p n us)) in
            rw (z, m, q) (charge_fare p _ s σ below l m i e)
      ]
    ]
