-- Operation 22's value: the least counter of a timed wait. Before that tick every wait goes on, with as much less; in it the wait whose counter
-- is then 1 ends, and no other thread's end gives it a wait again. Assumes nothing.
use mathlib.Core.Bool.{true, false, not, ◌||◌}
use mathlib.Core.Path.{◌≡◌, refl, ap, sym, ◌∙◌}
use mathlib.Core.Logic.{◌≢◌}
use mathlib.Core.List.{List, [], ◌∷◌}
use Prim.Native.Nat.{ℕ, zero, suc, pred, ◌≤◌, ◌<◌}
use native.Mathlib.Omega.{arith}
use native.Mathlib.Decide.{ℕ_discrete, dec_le}
use lib.Dec.{eqb}
use borrow.Author.Tests.{eq-eqb, ne_eqb}
use lib.ListN.{length}
use Rattle.rules.specs.State.{State, free, at, caller, counter_of, waiting, with_place, with_counter, with_threads}
use Rattle.rules.specs.Lines.{line, line_length, filled}
use Rattle.rules.specs.Sound.{Sound}
use Rattle.rules.specs.Waiting.{ended, end_wait}
use Rattle.rules.specs.Time.{timed_out, count_down, timeouts, charged, do_tick}
use Rattle.rules.specs.Sleep.{ticks, time_left, nearest}
use Rattle.rules.specs.declared.Thread.{Thread}
use Rattle.rules.specs.declared.Wait.{Wait}
use Rattle.rules.specs.declared.Outcome.{Outcome}
use Rattle.laws.proofs.Split.{is, isnt, test, if_case}
use Rattle.laws.proofs.Lines.{in_ready, waiting_out, filled_field}
use Rattle.laws.proofs.Members.{edit_other}
use Rattle.laws.proofs.Moves.{changed, move_up_field, move_other, move_self}
use Rattle.laws.proofs.Counts.{within}
use Rattle.preservation.proofs.Sleep.{sound_ticks}
use Rattle.fairness.proofs.Operations.{settle_threads}
use Rattle.leaps.specs.Ticks.{Quiet}
use Rattle.leaps.specs.Nearest.{Ends, NearestEnd}
use Rattle.leaps.proofs.Passing.{length_timeouts}
use Rattle.leaps.proofs.Leap.{later_waiting, later_counter}
use Rattle.leaps.proofs.Turned.{charge_rest, charge_long}
use Rattle.leaps.proofs.Rounds.{waits_later}
use Rattle.leaps.proofs.Leaps.{nearest_low}

-- WHO WAITS GOES ON

-- the thread that is nearest
nearest_at : (ts : List Thread) → 1 ≤ nearest ts → (i : ℕ) × (time_left (at ts i).wait ≡ nearest ts)
unfolding nearest
nearest_at [] h = absurd (omega arith)
nearest_at (t ∷ ts) h = elim (ℕ_discrete (time_left t.wait) 0) [
  | yes z ↦ let x = nearest_at ts (rw (eq-eqb (time_left t.wait) 0 z) at h) in (suc x.0, rw (eq-eqb (time_left t.wait) 0 z) x.1)
  | no z ↦ elim (ℕ_discrete (nearest ts) 0) [
    | yes y ↦ (0, rw (ne_eqb (time_left t.wait) 0 z, eq-eqb (nearest ts) 0 y))
    | no y ↦ elim (dec_le (time_left t.wait) (nearest ts)) [
      | yes l ↦ (0, rw (ne_eqb (time_left t.wait) 0 z, ne_eqb (nearest ts) 0 y) (omega arith))
      | no l ↦ let x = nearest_at ts (omega arith) in (suc x.0, rw (ne_eqb (time_left t.wait) 0 z, ne_eqb (nearest ts) 0 y) (omega (arith, x.1)))
    ]
  ]
]

-- THE TICK IN WHICH IT ENDS

-- another thread's wait counts down, or ends
count_wait : (j i : ℕ) (ts : List Thread) → i ≢ j → (at (count_down j ts) i).wait ≡ (at ts i).wait
unfolding count_down end_wait
count_wait j i ts k =
    let w = (at ts j).wait in
    if_case (λ (us : List Thread). (at us i).wait ≡ (at ts i).wait) (not (waiting w) || eqb (counter_of w) 0) (λ e. refl) (λ e.
    if_case (λ (us : List Thread). (at us i).wait ≡ (at ts i).wait) (eqb (counter_of w) 1)
    (λ e. ap (λ t. t.wait) (move_other j i (ended (timed_out w) 0) ts k) ∙ move_up_field (λ t. t.wait) (line (at ts j)) (at ts j).place (at ts i) refl)
    (λ e. ap (λ t. t.wait) (edit_other ts j i (with_counter (pred (counter_of w))) k)))

-- its own ends at 1
count_ends : (i : ℕ) (ts : List Thread) → i < length ts → waiting (at ts i).wait ≡ true → counter_of (at ts i).wait ≡ 1 → waiting (at (count_down i ts) i).wait ≡ false
unfolding count_down end_wait
count_ends i ts h w e =
    rw (w, ne_eqb (counter_of (at ts i).wait) 0 (omega arith), eq-eqb (counter_of (at ts i).wait) 1 e, move_self i (ended (timed_out (at ts i).wait) 0) ts h)
    (idle (line_length (line (ended (timed_out (at ts i).wait) 0 (with_place 0 (at ts i)))) (changed i (ended (timed_out (at ts i).wait) 0) ts)) (timed_out (at ts i).wait) (at ts i))
  where
    idle : (q : ℕ) (o : Outcome) (t : Thread) → waiting (filled (with_place q (ended o 0 (with_place 0 t)))).wait ≡ false
    idle q o t = filled_field (λ u. waiting u.wait) (with_place q (ended o 0 (with_place 0 t))) refl

-- the waits below n count down: the wait of thread i is as it was, until its turn, and then it has ended
record Comes (n i : ℕ) (ts us : List Thread) : Type 0 where
  before : n ≤ i → (at us i).wait ≡ (at ts i).wait
  after : i < n → waiting (at us i).wait ≡ false

comes_turn : (n i : ℕ) (ts us : List Thread) → length us ≡ length ts → i < length ts → waiting (at ts i).wait ≡ true → counter_of (at ts i).wait ≡ 1
    → Comes n i ts us → Comes (suc n) i ts (count_down n us)
comes_turn n i ts us l h w e c = elim (ℕ_discrete i n) [
  | yes q ↦
      let own : (at us i).wait ≡ (at ts i).wait = c.before (omega arith) in
      record { before = λ k. absurd (omega arith); after = λ k. rw (← q) (count_ends i us (rw l h) (rw own w) (rw own e)) }
  | no q ↦ record {
    before = λ k. count_wait n i us q ∙ c.before (omega arith);
    after = λ k. rw (count_wait n i us q) (c.after (omega arith));
  }
]

comes : (n i : ℕ) (ts : List Thread) → i < length ts → waiting (at ts i).wait ≡ true → counter_of (at ts i).wait ≡ 1 → Comes n i ts (timeouts n ts)
unfolding timeouts
comes zero i ts h w e = record { before = λ k. refl; after = λ k. absurd (omega arith) }
comes (suc n) i ts h w e = comes_turn n i ts (timeouts n ts) (length_timeouts n ts) h w e (comes n i ts h w e)

-- who waits is not charged
charged_wait : (s : State) → Sound s → (i : ℕ) → waiting (at s.threads i).wait ≡ true → at (charged s) i ≡ at s.threads i
unfolding charged
charged_wait s σ i w =
    let p = (caller s).priority in
    if_case (λ (us : List Thread). at us i ≡ at s.threads i) (eqb s.lock 0)
    (λ z. charge_rest p s.running s.threads ((in_ready p (caller s)).1 (σ.runs, refl)) i (waiting_out p (at s.threads i) w)) (λ z. refl)

charged_long : (s : State) → length (charged s) ≡ length s.threads
unfolding charged
charged_long s = if_case (λ (us : List Thread). length us ≡ length s.threads) (eqb s.lock 0) (λ z. charge_long s.running s.threads) (λ z. refl)

tick_ends : (s : State) → Sound s → (i : ℕ) → i < length s.threads → waiting (at s.threads i).wait ≡ true → counter_of (at s.threads i).wait ≡ 1
    → waiting (at (do_tick s).state.threads i).wait ≡ false
unfolding do_tick
tick_ends s σ i h w e =
    let own = charged_wait s σ i w in
    let c = comes (length s.threads) i (charged s) (rw (charged_long s) h) (rw own w) (rw own e) in
    rw (settle_threads (with_threads (timeouts (length s.threads) (charged s)) s)) (c.after h)

-- THE VALUE

quiet_before : (n : ℕ) (ts : List Thread) → suc n ≤ nearest ts → Quiet n ts
unfolding Quiet
quiet_before n ts h i w k = let l : time_left (at ts i).wait ≡ counter_of (at ts i).wait = rw w in omega (arith, l, nearest_low ts i (omega (arith, l)))

quiet_always : (n : ℕ) (ts : List Thread) → nearest ts ≡ 0 → Quiet n ts
unfolding Quiet
quiet_always n ts z i w k = let l : time_left (at ts i).wait ≡ counter_of (at ts i).wait = rw w in absurd (omega (arith, (nearest_low ts i (omega (arith, l))).0))

ticks_last : (n : ℕ) (s : State) → ticks (suc n) s ≡ (do_tick (ticks n s)).state
unfolding ticks
ticks_last zero s = refl
ticks_last (suc n) s = ticks_last n (do_tick s).state

timed_waits : (w : Wait) → 1 ≤ time_left w → waiting w ≡ true
timed_waits w h = elim (test (waiting w)) [
  | is e ↦ e
  | isnt e ↦ let z : time_left w ≡ 0 = rw e in absurd (omega (arith, z))
]

timed_counter : (w : Wait) → waiting w ≡ true → time_left w ≡ counter_of w
timed_counter w e = rw e

pub nearest_end : NearestEnd
nearest_end s σ = record {
  none = λ z n i w. goes n (quiet_always n s.threads z) i w;
  before = λ n h i w. goes n (quiet_before n s.threads h) i w;
  then = λ n h. ends n h (nearest_at s.threads (omega arith));
}
  where
    ends : (n : ℕ) → suc n ≡ nearest s.threads → (i : ℕ) × (time_left (at s.threads i).wait ≡ nearest s.threads) → Ends (suc n) s
    ends n h x =
        let i = x.0 in
        let w = timed_waits (at s.threads i).wait (omega (arith, x.1)) in
        let c : counter_of (at s.threads i).wait ≡ suc n = sym (timed_counter (at s.threads i).wait w) ∙ x.1 ∙ sym h in
        let e = waits_later n s σ (quiet_before n s.threads (omega arith)) i w in
        let v : waiting (at (ticks n s).threads i).wait ≡ true = rw e (later_waiting n (at s.threads i) ∙ w) in
        let one : counter_of (at (ticks n s).threads i).wait ≡ 1 = rw e (later_counter n (at s.threads i) w ∙ omega (arith, c)) in
        record {
          thread = i;
          waited = w;
          timed = omega (arith, c);
          ended = rw (ticks_last n s) (tick_ends (ticks n s) (sound_ticks n s σ) i (within (λ t. waiting t.wait) free refl (ticks n s).threads i v) v one);
        }

    goes : (n : ℕ) → Quiet n s.threads → (i : ℕ) → waiting (at s.threads i).wait ≡ true → waiting (at (ticks n s).threads i).wait ≡ true
    goes n q i w = rw (waits_later n s σ q i w) (later_waiting n (at s.threads i) ∙ w)
