-- Ticks with lock 0 in which no wait ends: the rank that runs goes on running, its threads keep all but place and counter, each due falls by what
-- the ticks charge, and every other thread only waits on. Assumes nothing.
use mathlib.Core.Bool.{true, false}
use mathlib.Core.Path.{◌≡◌, refl, ap, sym, ◌∙◌}
use mathlib.Core.Logic.{◌≢◌}
use mathlib.Core.List.{List, map}
use Prim.Native.Nat.{ℕ, zero, suc, pred, ◌+◌, ◌-◌, ◌<◌}
use native.Mathlib.Omega.{arith}
use native.Mathlib.Decide.{ℕ_discrete}
use lib.Dec.{eqb, leb}
use borrow.Author.Tests.{eq-eqb}
use lib.ListN.{length, length-map}
use Rattle.rules.specs.Basic.{bit, count}
use Rattle.rules.specs.State.{State, at, counter_of, is_ready, with_counter_of, with_place, with_counter, with_threads}
use Rattle.rules.specs.Lines.{ready, same, line, in_line, line_length, filled, settle}
use Rattle.rules.specs.Sound.{Sound}
use Rattle.rules.specs.Time.{charge, charged, timeouts, do_tick}
use Rattle.rules.specs.Sleep.{ticks}
use Rattle.rules.specs.declared.Thread.{Thread}
use Rattle.laws.proofs.Split.{clash, if_case}
use Rattle.laws.proofs.Lines.{same_eq, in_ready, waiting_out, line_counter, ready_counter, filled_field}
use Rattle.laws.proofs.Members.{edit_same, edit_other, length_edit, map_at, in_range}
use Rattle.laws.proofs.Moves.{changed, move_up_not, move_up_field, move_other, move_self, length_move}
use Rattle.laws.proofs.Top.{sound_top, sound_running}
use Rattle.fairness.specs.Run.{ready_at, charged_to}
use Rattle.fairness.proofs.Keeps.{Same}
use Rattle.fairness.proofs.Operations.{settle_threads}
use Rattle.fairness.proofs.Rank.{Fare, no_fare, fares}
use Rattle.fairness.proofs.View.{view}
use Rattle.fairness.proofs.Ticks.{tick_fare}
use Rattle.leaps.specs.Ticks.{later, Quiet}
use Rattle.leaps.specs.Charges.{tick_events}
use Rattle.leaps.proofs.Passing.{own_counter, two_counters, later_field, quiet_timeouts}
use Rattle.leaps.proofs.Leap.{later_later, later_none, quiet_next, quiet_sooner, sound_next}

-- A THREAD BUT FOR ITS PLACE AND COUNTER

abbrev pub bare : Thread → Thread
bare t = with_place 0 (with_counter 0 t)

bare_counter : (n : ℕ) (t : Thread) → bare (with_counter n t) ≡ bare t
bare_counter n t = rw (two_counters 0 n t.wait)

-- what neither bears on is the same
bare_field : {A : Type 0} (f : Thread → A) → ((n : ℕ) (t : Thread) → f (with_counter n t) ≡ f t) → ((n : ℕ) (t : Thread) → f (with_place n t) ≡ f t)
    → (t u : Thread) → bare t ≡ bare u → f t ≡ f u
bare_field f h k t u e = sym (k 0 (with_counter 0 t) ∙ h 0 t) ∙ ap f e ∙ k 0 (with_counter 0 u) ∙ h 0 u

pub rebuilt : (t u : Thread) → bare t ≡ bare u → t.place ≡ u.place → counter_of t.wait ≡ counter_of u.wait → t ≡ u
rebuilt t u e p c =
    let w : t.wait ≡ u.wait =
    sym (own_counter t.wait) ∙ sym (two_counters (counter_of t.wait) 0 t.wait)
    ∙ ap (λ x. with_counter_of (counter_of t.wait) x.wait) e ∙ ap (λ n. with_counter_of n (with_counter_of 0 u.wait)) c
    ∙ two_counters (counter_of u.wait) 0 u.wait ∙ own_counter u.wait in
    λ i. record {
      used = (e i).used;
      priority = (e i).priority;
      suspended = (e i).suspended;
      wait = w i;
      place = p i;
      full = (e i).full;
      outcome = (e i).outcome;
      turn = (e i).turn;
      value = (e i).value;
      parcel = (e i).parcel;
    }

-- A CHARGE

bare_filled : (q : ℕ) (t : Thread) → bare (filled (with_place q (with_place 0 t))) ≡ bare t
bare_filled q t = filled_field bare (with_place q (with_place 0 t)) (bare_counter t.turn (with_place q (with_place 0 t)))

charge_bare : (r : ℕ) (ts : List Thread) → r < length ts → (j : ℕ) → bare (at (charge r ts) j) ≡ bare (at ts j)
unfolding charge
charge_bare r ts h j =
    let c = counter_of (at ts r).wait in
    if_case (λ (us : List Thread). bare (at us j) ≡ bare (at ts j)) (leb c 1)
    (λ l. elim (ℕ_discrete j r) [
      | yes e ↦ rw (e, move_self r (λ t. t) ts h) (bare_filled (line_length (line (with_place 0 (at ts r))) (changed r (λ t. t) ts)) (at ts r))
      | no e ↦ rw (move_other r j (λ t. t) ts e) (move_up_field bare (line (at ts r)) (at ts r).place (at ts j) refl)
    ])
    (λ l. elim (ℕ_discrete j r) [
      | yes e ↦ rw (e, edit_same ts r (with_counter (pred c)) h) (bare_counter (pred c) (at ts r))
      | no e ↦ rw (edit_other ts r j (with_counter (pred c)) e)
    ])

pub charge_rest : (p r : ℕ) (ts : List Thread) → in_line (ready p) (at ts r) ≡ true → (j : ℕ) → in_line (ready p) (at ts j) ≡ false → at (charge r ts) j ≡ at ts j
unfolding charge
charge_rest p r ts m j o =
    let c = counter_of (at ts r).wait in
    let k : j ≢ r = λ q. clash m (rw q at o) in
    if_case (λ (us : List Thread). at us j ≡ at ts j) (leb c 1)
    (λ l. move_other r j (λ t. t) ts k ∙ move_up_not (line (at ts r)) (at ts r).place (at ts j) (rw (same_eq (line (at ts r)) (ready p) m) o))
    (λ l. edit_other ts r j (with_counter (pred c)) k)

pub charge_long : (r : ℕ) (ts : List Thread) → length (charge r ts) ≡ length ts
unfolding charge
charge_long r ts =
    let c = counter_of (at ts r).wait in
    if_case (λ (us : List Thread). length us ≡ length ts) (leb c 1) (λ l. length_move r (λ t. t) ts) (λ l. length_edit ts r (with_counter (pred c)))

-- TICKS IN WHICH NO WAIT ENDS

-- u is s after m ticks with lock 0 in which no wait ends, and rank p runs
pub record Turned (p m : ℕ) (s u : State) : Type 0 where
  pub sound : Sound u
  pub lock : u.lock ≡ 0
  pub sems : u.sems ≡ s.sems
  pub long : length u.threads ≡ length s.threads
  pub rank : ready_at p u u.running ≡ true
  pub rest : (j : ℕ) → ready_at p s j ≡ false → at u.threads j ≡ later m (at s.threads j)
  pub body : (j : ℕ) → bare (at u.threads j) ≡ bare (at s.threads j)
  pub fare : (i : ℕ) → ready_at p s i ≡ true → Fare (length s.threads) i (view p s.threads) (view p u.threads) m (count (charged_to i) (tick_events m s))

pub same_in : (p : ℕ) (ts us : List Thread) → ((j : ℕ) → bare (at us j) ≡ bare (at ts j)) → (j : ℕ) → in_line (ready p) (at us j) ≡ in_line (ready p) (at ts j)
same_in p ts us h j = bare_field (in_line (ready p)) (λ n t. ap (λ l. same l (ready p)) (line_counter n t)) (λ n t. refl) (at us j) (at ts j) (h j)

pub same_ready : (ts us : List Thread) → ((j : ℕ) → bare (at us j) ≡ bare (at ts j)) → (j : ℕ) → is_ready (at us j) ≡ is_ready (at ts j)
same_ready ts us h j = bare_field is_ready ready_counter (λ n t. refl) (at us j) (at ts j) (h j)

pub same_priority : (ts us : List Thread) → ((j : ℕ) → bare (at us j) ≡ bare (at ts j)) → (j : ℕ) → (at us j).priority ≡ (at ts j).priority
same_priority ts us h j = ap (λ t. t.priority) (h j)

-- the rank that runs goes on running
same_rank : (p : ℕ) (s u : State) → Sound s → Sound u → s.lock ≡ 0 → u.lock ≡ 0 → ((j : ℕ) → bare (at u.threads j) ≡ bare (at s.threads j))
    → ready_at p s s.running ≡ true → ready_at p u u.running ≡ true
same_rank p s u σ τ z y h m =
    let a = sound_top s σ z in
    let b = sound_top u τ y in
    let rd = same_ready s.threads u.threads h in
    let pr = same_priority s.threads u.threads h in
    let q = (in_ready p (at s.threads s.running)).0 m in
    (in_ready p (at u.threads u.running)).1 (
      b.ready,
      omega (arith, b.highest s.running (rd s.running ∙ a.ready), a.highest u.running (sym (rd u.running) ∙ b.ready), pr s.running, pr u.running, q.1),
    )

quiet_charge : (p r : ℕ) (ts : List Thread) → in_line (ready p) (at ts r) ≡ true → Quiet 1 ts → Quiet 1 (charge r ts)
unfolding Quiet
quiet_charge p r ts m q i w =
    let o : in_line (ready p) (at ts i) ≡ false = sym (same_in p ts (charge r ts) (charge_bare r ts (in_range ts r (ready p) m)) i) ∙ waiting_out p (at (charge r ts) i) w in
    rw (charge_rest p r ts m i o) (q i (rw (charge_rest p r ts m i o) at w))

settle_lock : (s : State) → (settle s).lock ≡ s.lock
unfolding settle
settle_lock s = if_case (λ (u : State). u.lock ≡ s.lock) (eqb s.lock 0) (λ e. refl) (λ e. refl)

settle_sems : (s : State) → (settle s).sems ≡ s.sems
unfolding settle
settle_sems s = if_case (λ (u : State). u.sems ≡ s.sems) (eqb s.lock 0) (λ e. refl) (λ e. refl)

module _ (p : ℕ) (s : State) (σ : Sound s) (z : s.lock ≡ 0) (m : ready_at p s s.running ≡ true) (q : Quiet 1 s.threads) where
  tick_threads : (do_tick s).state.threads ≡ map (later 1) (charge s.running s.threads)
  unfolding do_tick charged
  tick_threads =
      let ts = s.threads in
      let cs = charge s.running ts in
      let e : timeouts (length ts) cs ≡ map (later 1) cs = rw (← charge_long s.running ts) (quiet_timeouts cs (quiet_charge p s.running ts m q)) in
      settle_threads (with_threads (timeouts (length ts) (charged s)) s) ∙ rw (eq-eqb s.lock 0 z) e

  tick_at : (j : ℕ) → at (do_tick s).state.threads j ≡ later 1 (at (charge s.running s.threads) j)
  tick_at j = rw tick_threads (map_at (charge s.running s.threads) j (later 1) refl)

  tick_body : (j : ℕ) → bare (at (do_tick s).state.threads j) ≡ bare (at s.threads j)
  tick_body j =
      let t = at (charge s.running s.threads) j in
      ap bare (tick_at j) ∙ later_field bare 1 t (bare_counter (counter_of t.wait - 1) t) ∙ charge_bare s.running s.threads (sound_running s σ) j

  tick_lock : (do_tick s).state.lock ≡ 0
  unfolding do_tick
  tick_lock = settle_lock (with_threads (timeouts (length s.threads) (charged s)) s) ∙ z

  tick_sems : (do_tick s).state.sems ≡ s.sems
  unfolding do_tick
  tick_sems = settle_sems (with_threads (timeouts (length s.threads) (charged s)) s)

  tick_same : Same p s.threads (do_tick s).state.threads
  unfolding Same
  tick_same = same_in p s.threads (do_tick s).state.threads tick_body

  tick_sound : Sound (do_tick s).state
  tick_sound = sound_next s (do_tick s).state σ refl

  one_charged : (i : ℕ) → count (charged_to i) (tick_events 1 s) ≡ bit (eqb s.running i)
  unfolding tick_events
  one_charged i = rw (eq-eqb s.lock 0 z) (omega arith)

  tick_share : (i : ℕ) → ready_at p s i ≡ true → Fare (length s.threads) i (view p s.threads) (view p (do_tick s).state.threads) 1 (count (charged_to i) (tick_events 1 s))
  tick_share i k = rw (one_charged i) (rw (eq-eqb s.lock 0 z, m) at (tick_fare p (length s.threads) s σ (λ j l. in_range s.threads j (ready p) l) tick_same i k))

  turned_one : Turned p 1 s (do_tick s).state
  turned_one = record {
    sound = tick_sound;
    lock = tick_lock;
    sems = tick_sems;
    long = rw tick_threads (length-map (charge s.running s.threads) (later 1) ∙ charge_long s.running s.threads);
    rank = same_rank p s (do_tick s).state σ tick_sound z tick_lock tick_body m;
    rest = λ j o. tick_at j ∙ ap (later 1) (charge_rest p s.running s.threads m j o);
    body = tick_body;
    fare = tick_share;
  }

turned_none : (p : ℕ) (s : State) → Sound s → s.lock ≡ 0 → ready_at p s s.running ≡ true → Turned p 0 s s
unfolding tick_events
turned_none p s σ z m = record {
  sound = σ;
  lock = z;
  sems = refl;
  long = refl;
  rank = m;
  rest = λ j o. sym (later_none (at s.threads j));
  body = λ j. refl;
  fare = λ i k. no_fare (length s.threads) i (view p s.threads);
}

one_more : (i m : ℕ) (s : State) → count (charged_to i) (tick_events 1 s) + count (charged_to i) (tick_events m (do_tick s).state) ≡ count (charged_to i) (tick_events (suc m) s)
unfolding tick_events
one_more i m s = omega arith

turned_more : (p m : ℕ) (s w : State) → Turned p 1 s (do_tick s).state → Turned p m (do_tick s).state w → Turned p (suc m) s w
turned_more p m s w a b =
    let u = (do_tick s).state in
    let one : 1 + m ≡ suc m = omega arith in
    let set = same_in p s.threads u.threads a.body in
    record {
      sound = b.sound;
      lock = b.lock;
      sems = b.sems ∙ a.sems;
      long = b.long ∙ a.long;
      rank = b.rank;
      rest = λ j o. b.rest j (set j ∙ o) ∙ ap (later m) (a.rest j o) ∙ later_later 1 m (at s.threads j) ∙ ap (λ k. later k (at s.threads j)) one;
      body = λ j. b.body j ∙ a.body j;
      fare = λ i k. rw (one, one_more i m s) at (fares (length s.threads) i _ _ _ 1 _ m _ (a.fare i k) (rw a.long at (b.fare i (set i ∙ k))));
    }

quiet_turned : (p n : ℕ) (s u : State) → Turned p 1 s u → Quiet (suc n) s.threads → Quiet n u.threads
quiet_turned p n s u a q = quiet_next n s.threads u.threads (λ i w.
    a.rest i (sym (same_in p s.threads u.threads a.body i) ∙ waiting_out p (at u.threads i) w)) q

pub turned : (p n : ℕ) (s : State) → Sound s → s.lock ≡ 0 → ready_at p s s.running ≡ true → Quiet n s.threads → Turned p n s (ticks n s)
unfolding ticks
turned p zero s σ z m q = turned_none p s σ z m
turned p (suc n) s σ z m q =
    let a = turned_one p s σ z m (quiet_sooner 1 (suc n) s.threads (omega arith) q) in
    turned_more p n s (ticks n (do_tick s).state) a
    (turned p n (do_tick s).state a.sound a.lock a.rank (quiet_turned p n s (do_tick s).state a q))
