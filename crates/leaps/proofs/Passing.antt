-- A tick in which no wait ends: every timed wait has 1 less, and who is first stays first. Assumes nothing.
use mathlib.Core.Bool.{true, false, not, ◌||◌}
use mathlib.Core.Path.{◌≡◌, refl, ap, sym, ◌∙◌}
use mathlib.Core.List.{List, map}
use Prim.Native.Nat.{ℕ, zero, suc, pred, ◌-◌, ◌≤◌, ◌<◌}
use native.Mathlib.Omega.{arith}
use native.Mathlib.Decide.{ℕ_discrete}
use lib.Dec.{eqb}
use borrow.Author.Tests.{eq-eqb, ne_eqb}
use lib.ListN.{length, set, length-set, length-map}
use lib.Seq.{ext_get_or, get_or-set_same, get_or-set_other}
use Rattle.rules.specs.State.{State, free, at, edit, counter_of, waiting, with_counter_of, with_counter, with_threads, with_running}
use Rattle.rules.specs.Lines.{top, settle}
use Rattle.rules.specs.Sound.{Sound}
use Rattle.rules.specs.Waiting.{ended, end_wait}
use Rattle.rules.specs.Time.{timed_out, count_down, timeouts, charged, do_tick}
use Rattle.rules.specs.Steps.{step}
use Rattle.rules.specs.declared.Thread.{Thread}
use Rattle.rules.specs.declared.Wait.{Wait}
use Rattle.rules.specs.declared.Wait.TheVariants.{Nothing, Delay, Receive, Send, Semaphore}
use Rattle.rules.specs.declared.Request.TheVariants as Ask
use Rattle.laws.proofs.Split.{is, isnt, test, if_case}
use Rattle.laws.proofs.Members.{edit_same, edit_other, length_edit, map_at}
use Rattle.laws.proofs.Moves.{length_move}
use Rattle.laws.proofs.Top.{Top, top_one, sound_top}
use Rattle.preservation.proofs.Steps.{kept}
use Rattle.leaps.specs.Ticks.{later, Quiet}

-- COUNTERS

pub own_counter : (w : Wait) → with_counter_of (counter_of w) w ≡ w
own_counter (Nothing n) = refl
own_counter (Delay n) = refl
own_counter (Receive n) = refl
own_counter (Send to n) = refl
own_counter (Semaphore on n) = refl

pub two_counters : (n m : ℕ) (w : Wait) → with_counter_of n (with_counter_of m w) ≡ with_counter_of n w
two_counters n m (Nothing k) = refl
two_counters n m (Delay k) = refl
two_counters n m (Receive k) = refl
two_counters n m (Send to k) = refl
two_counters n m (Semaphore on k) = refl

pub counter_is : (n : ℕ) (w : Wait) → counter_of (with_counter_of n w) ≡ n
counter_is n (Nothing k) = refl
counter_is n (Delay k) = refl
counter_is n (Receive k) = refl
counter_is n (Send to k) = refl
counter_is n (Semaphore on k) = refl

pub same_counter : (n : ℕ) (t : Thread) → n ≡ counter_of t.wait → with_counter n t ≡ t
same_counter n t e = rw (e, own_counter t.wait)

-- LATER

pub later_idle : (n : ℕ) (t : Thread) → waiting t.wait ≡ false → later n t ≡ t
later_idle n t e = rw e

pub later_field : {A : Type 0} (f : Thread → A) (n : ℕ) (t : Thread) → f (with_counter (counter_of t.wait - n) t) ≡ f t → f (later n t) ≡ f t
later_field f n t e = if_case (λ (u : Thread). f u ≡ f t) (waiting t.wait) (λ a. e) (λ a. refl)

-- ONE WAIT COUNTS DOWN

-- a thread is set to what it is
pub set_own : (ts : List Thread) (i : ℕ) (t : Thread) → t ≡ at ts i → set ts i t ≡ ts
set_own ts i t e = ext_get_or free (set ts i t) ts (length-set ts i t) (λ j k. elim (ℕ_discrete j i) [
  | yes q ↦ rw q (get_or-set_same ts i t free (rw (q, length-set ts i t) at k) ∙ e)
  | no q ↦ get_or-set_other ts i j t free q
])

counts : (i : ℕ) (ts : List Thread) → (waiting (at ts i).wait ≡ true → 1 ≤ counter_of (at ts i).wait → 1 < counter_of (at ts i).wait) → count_down i ts ≡ edit i (later 1) ts
unfolding count_down
counts i ts q =
    let t = at ts i in
    let c = counter_of t.wait in
    elim (test (waiting t.wait)) [
      | isnt w ↦ rw w (sym (set_own ts i t refl))
      | is w ↦ elim (ℕ_discrete c 0) [
        | yes z ↦ rw (w, eq-eqb c 0 z) (sym (set_own ts i (with_counter (c - 1) t) (same_counter (c - 1) t (omega arith))))
        | no z ↦ rw (w, ne_eqb c 0 z, ne_eqb c 1 (omega (arith, q w (omega arith)))) (ap (λ k. set ts i (with_counter k t)) (omega arith))
      ]
    ]

-- ALL WAITS COUNT DOWN

pub length_timeouts : (n : ℕ) (ts : List Thread) → length (timeouts n ts) ≡ length ts
unfolding timeouts count_down end_wait
length_timeouts zero ts = refl
length_timeouts (suc n) ts =
    let us = timeouts n ts in
    let w = (at us n).wait in
    if_case (λ (l : List Thread). length l ≡ length ts) (not (waiting w) || eqb (counter_of w) 0) (λ e. length_timeouts n ts) (λ e.
    if_case (λ (l : List Thread). length l ≡ length ts) (eqb (counter_of w) 1) (λ e. length_move n (ended (timed_out w) 0) us ∙ length_timeouts n ts) (λ e.
    length_edit us n (with_counter (pred (counter_of w))) ∙ length_timeouts n ts))

-- of ts, the first n have counted down in us, the others not
record Counted (n : ℕ) (ts us : List Thread) (j : ℕ) : Type 0 where
  below : j < n → at us j ≡ later 1 (at ts j)
  above : n ≤ j → at us j ≡ at ts j

count_turn : (n j : ℕ) (ts us : List Thread) → Quiet 1 ts → length us ≡ length ts → n < length ts → at us n ≡ at ts n → Counted n ts us j → Counted (suc n) ts (count_down n us) j
unfolding Quiet
count_turn n j ts us q l h own c =
    rw (counts n us (rw own (q n))) (elim (ℕ_discrete j n) [
      | yes e ↦ record { below = λ k. rw e (edit_same us n (later 1) (rw l h) ∙ ap (later 1) own); above = λ k. absurd (omega arith) }
      | no e ↦ record {
        below = λ k. edit_other us n j (later 1) e ∙ c.below (omega arith);
        above = λ k. edit_other us n j (later 1) e ∙ c.above (omega arith);
      }
    ])

counted : (n : ℕ) (ts : List Thread) → Quiet 1 ts → n ≤ length ts → (j : ℕ) → Counted n ts (timeouts n ts) j
unfolding timeouts
counted zero ts q h j = record { below = λ k. absurd (omega arith); above = λ k. refl }
counted (suc n) ts q h j = count_turn n j ts (timeouts n ts) q (length_timeouts n ts) (omega arith) ((counted n ts q (omega arith) n).above (omega arith)) (counted n ts q (omega arith) j)

pub quiet_timeouts : (ts : List Thread) → Quiet 1 ts → timeouts (length ts) ts ≡ map (later 1) ts
quiet_timeouts ts q = ext_get_or free (timeouts (length ts) ts) (map (later 1) ts) (length_timeouts (length ts) ts ∙ sym (length-map ts (later 1))) (λ j k.
    (counted (length ts) ts q (omega arith) j).below (rw (length_timeouts (length ts) ts) at k) ∙ sym (map_at ts j (later 1) refl))

-- WHO RUNS

pub settled_same : (s : State) → Sound (settle s) → (s.lock ≡ 0 → Top s.threads s.running) → settle s ≡ s
unfolding settle
settled_same s σ h = elim (ℕ_discrete s.lock 0) [
  | yes z ↦
      let τ : Sound (with_running (top s.threads) s) = rw (eq-eqb s.lock 0 z) at σ in
      rw (eq-eqb s.lock 0 z) (ap (λ r. with_running r s) (top_one s.threads τ.lines (top s.threads) s.running (sound_top _ τ z) (h z)))
  | no z ↦ rw (ne_eqb s.lock 0 z)
]

-- a tick in which no wait ends, where the one that runs stays first
pub quiet_tick : (s : State) → Sound s → Quiet 1 (charged s) → length (charged s) ≡ length s.threads
    → (s.lock ≡ 0 → Top (map (later 1) (charged s)) s.running) → (do_tick s).state ≡ with_threads (map (later 1) (charged s)) s
unfolding do_tick step
quiet_tick s σ q l h =
    let us = timeouts (length s.threads) (charged s) in
    let e : us ≡ map (later 1) (charged s) = rw (← l) (quiet_timeouts (charged s) q) in
    rw e (settled_same (with_threads (map (later 1) (charged s)) s) (rw e at (kept s Ask.Tick σ)) h)
