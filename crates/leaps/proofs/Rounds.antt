-- Whole rounds at once: where no wait ends, k times as many ticks as the turns of the running rank sum to bring the rank back to where it
-- was, since each due is then as it was; only the timed waits have less. Assumes nothing.
use mathlib.Core.Bool.{true}
use mathlib.Core.Path.{◌≡◌, refl, ap, sym, subst, ◌∙◌}
use mathlib.Core.List.{map}
use Prim.Native.Nat.{ℕ, ◌*◌, ◌≤◌}
use native.Mathlib.Decide.{ℕ_discrete}
use lib.ListN.{length, length-map}
use lib.Seq.{ext_get_or}
use Rattle.rules.specs.Basic.{count}
use Rattle.rules.specs.State.{State, free, at, caller, counter_of, waiting}
use Rattle.rules.specs.Lines.{ready, line_length}
use Rattle.rules.specs.Sound.{Sound}
use Rattle.rules.specs.Sleep.{ticks}
use Rattle.laws.proofs.Split.{is, isnt, test}
use Rattle.laws.proofs.Lines.{in_ready, waiting_out}
use Rattle.laws.proofs.Members.{map_at, in_range}
use Rattle.laws.proofs.Top.{top_one, sound_top}
use Rattle.fairness.specs.Run.{ready_at, sum_turns, charged_to}
use Rattle.fairness.proofs.Rank.{Good, due, Fare, whole_rounds}
use Rattle.fairness.proofs.View.{view, view_in, placed_in, member_place, good}
use Rattle.fairness.proofs.Fair.{sum_turns_lem}
use Rattle.leaps.specs.Ticks.{later, Quiet, passed}
use Rattle.leaps.specs.Charges.{tick_events}
use Rattle.leaps.proofs.Passing.{later_idle}
use Rattle.leaps.proofs.Leap.{locked_ticks, ready_idle}
use Rattle.leaps.proofs.Dues.{same_place, same_count}
use Rattle.leaps.proofs.Turned.{rebuilt, Turned, same_in, same_ready, same_priority, turned}

-- WHOLE ROUNDS

-- every place of a rank is taken
view_onto : (p : ℕ) (s : State) → Sound s → (q : ℕ) → 1 ≤ q → q ≤ line_length (ready p) s.threads → (j : ℕ) × ((view p s.threads j).place ≡ q)
view_onto p s σ q h l =
    let x = σ.lines.onto (ready p) q h l in
    (x.0, ap (λ c. c.place) (view_in p s.threads x.0 x.1) ∙ x.2)

module _ (p k : ℕ) (s u : State) (σ : Sound s) (a : Turned p (k * sum_turns p s.threads) s u) where
  set : (j : ℕ) → ready_at p u j ≡ ready_at p s j
  set = same_in p s.threads u.threads a.body

  good_s : Good (length s.threads) (line_length (ready p) s.threads) (view p s.threads)
  good_s = good p (length s.threads) s σ (λ j l. in_range s.threads j (ready p) l)

  good_u : Good (length s.threads) (line_length (ready p) u.threads) (view p u.threads)
  good_u = good p (length s.threads) u a.sound (λ j l. in_range s.threads j (ready p) (sym (set j) ∙ l))

  -- each thread of the rank is charged k times its turn, and its due is as it was
  come_round : (i : ℕ) → ready_at p s i ≡ true
      → (count (charged_to i) (tick_events (k * sum_turns p s.threads) s) ≡ k * (view p s.threads i).turn)
      × (due (length s.threads) (view p u.threads) (view p u.threads i).place ≡ due (length s.threads) (view p s.threads) (view p s.threads i).place)
  come_round i m =
      let v = view p s.threads in
      let v' = view p u.threads in
      let c = count (charged_to i) (tick_events (k * sum_turns p s.threads) s) in
      whole_rounds k (length s.threads) _ _ i c v v' good_s good_u (member_place p s σ i m) (member_place p u a.sound i (set i ∙ m))
      (subst (λ R. Fare (length s.threads) i v v' (k * R) c) (sum_turns_lem p s.threads) (a.fare i m))

  turn_same : (j : ℕ) → (view p u.threads j).turn ≡ (view p s.threads j).turn
  unfolding view
  turn_same j = elim (test (ready_at p s j)) [
    | is m ↦ rw (set j, m) (ap (λ t. t.turn) (a.body j))
    | isnt m ↦ rw (set j, m)
  ]

  there : (j : ℕ) → 1 ≤ (view p s.threads j).place → 1 ≤ (view p u.threads j).place
  there j h = member_place p u a.sound j (set j ∙ placed_in p s.threads j h)

  back : (j : ℕ) → 1 ≤ (view p u.threads j).place → 1 ≤ (view p s.threads j).place
  back j h = member_place p s σ j (sym (set j) ∙ placed_in p u.threads j h)

  dues : (j : ℕ) → 1 ≤ (view p s.threads j).place
      → due (length s.threads) (view p u.threads) (view p u.threads j).place ≡ due (length s.threads) (view p s.threads) (view p s.threads j).place
  dues j h = (come_round j (placed_in p s.threads j h)).1

  place_same : (i : ℕ) → ready_at p s i ≡ true → (at u.threads i).place ≡ (at s.threads i).place
  place_same i m =
      sym (ap (λ c. c.place) (view_in p u.threads i (set i ∙ m)))
      ∙ same_place good_s good_u (view_onto p s σ) (view_onto p u a.sound) there back dues turn_same i (member_place p s σ i m)
      ∙ ap (λ c. c.place) (view_in p s.threads i m)

  counter_same : (i : ℕ) → ready_at p s i ≡ true → counter_of (at u.threads i).wait ≡ counter_of (at s.threads i).wait
  counter_same i m =
      sym (ap (λ c. c.counter) (view_in p u.threads i (set i ∙ m)))
      ∙ same_count good_s good_u (view_onto p s σ) (view_onto p u a.sound) there back dues turn_same i (member_place p s σ i m)
      ∙ ap (λ c. c.counter) (view_in p s.threads i m)

  thread_same : (j : ℕ) → at u.threads j ≡ later (k * sum_turns p s.threads) (at s.threads j)
  thread_same j = elim (test (ready_at p s j)) [
    | isnt m ↦ a.rest j m
    | is m ↦
        rebuilt (at u.threads j) (at s.threads j) (a.body j) (place_same j m) (counter_same j m)
        ∙ sym (later_idle (k * sum_turns p s.threads) (at s.threads j) (ready_idle (at s.threads j) ((in_ready p (at s.threads j)).0 m).0))
  ]

  runs_same : s.lock ≡ 0 → ready_at p s s.running ≡ true → u.running ≡ s.running
  runs_same z m =
      let t = sound_top s σ z in
      let rd = same_ready s.threads u.threads a.body in
      let pr = same_priority s.threads u.threads a.body in
      top_one u.threads a.sound.lines u.running s.running (sound_top u a.sound a.lock) (record {
        ready = rd s.running ∙ t.ready;
        first = place_same s.running m ∙ t.first;
        highest = λ j e. rw (pr j, pr s.running) (t.highest j (sym (rd j) ∙ e));
      })

  whole : s.lock ≡ 0 → ready_at p s s.running ≡ true → u ≡ passed (k * sum_turns p s.threads) s
  unfolding passed
  whole z m =
      let m' = k * sum_turns p s.threads in
      let e : u.threads ≡ map (later m') s.threads =
      ext_get_or free u.threads (map (later m') s.threads) (a.long ∙ sym (length-map s.threads (later m'))) (λ j h. thread_same j ∙ sym (map_at s.threads j (later m') refl)) in
      λ i. record { threads = e i; sems = a.sems i; running = runs_same z m i; lock = (a.lock ∙ sym z) i }

-- k rounds of the rank that runs
pub round_ticks : (k : ℕ) (s : State) → Sound s → s.lock ≡ 0 → Quiet (k * sum_turns (caller s).priority s.threads) s.threads
    → ticks (k * sum_turns (caller s).priority s.threads) s ≡ passed (k * sum_turns (caller s).priority s.threads) s
round_ticks k s σ z q =
    let p = (caller s).priority in
    let m = (in_ready p (caller s)).1 (σ.runs, refl) in
    whole p k s (ticks (k * sum_turns p s.threads) s) σ (turned p (k * sum_turns p s.threads) s σ z m q) z m

-- they charge each thread of the rank k times its turn
pub round_charges : (k : ℕ) (s : State) → Sound s → s.lock ≡ 0 → Quiet (k * sum_turns (caller s).priority s.threads) s.threads
    → (i : ℕ) → ready_at (caller s).priority s i ≡ true
    → count (charged_to i) (tick_events (k * sum_turns (caller s).priority s.threads) s) ≡ k * (at s.threads i).turn
round_charges k s σ z q i m =
    let p = (caller s).priority in
    let n = k * sum_turns p s.threads in
    (come_round p k s (ticks n s) σ (turned p n s σ z ((in_ready p (caller s)).1 (σ.runs, refl)) q) i m).0 ∙ ap (λ c. k * c.turn) (view_in p s.threads i m)

-- who waits has as much less
pub waits_later : (n : ℕ) (s : State) → Sound s → Quiet n s.threads → (i : ℕ) → waiting (at s.threads i).wait ≡ true → at (ticks n s).threads i ≡ later n (at s.threads i)
unfolding passed
waits_later n s σ q i w = elim (ℕ_discrete s.lock 0) [
  | yes z ↦
      let p = (caller s).priority in
      (turned p n s σ z ((in_ready p (caller s)).1 (σ.runs, refl)) q).rest i (waiting_out p (at s.threads i) w)
  | no z ↦ rw (locked_ticks n s σ z q) (map_at s.threads i (later n) refl)
]
