-- Soundness of a list of threads, said thread by thread: what the rest of the table asks is a fixed record of tests, so that a thread
-- can change its place, its wait or its mailbox without a word on any other thread. Assumes nothing.
use mathlib.Core.Bool.{Bool, true, false, not, ◌&&◌}
use mathlib.Core.Path.{◌≡◌, refl, ap, ◌∙◌}
use mathlib.Core.List.{List}
use Prim.Native.Nat.{ℕ, pred, ◌≤◌}
use native.Mathlib.Omega.{arith}
use native.Mathlib.Decide.{ℕ_discrete, dec_lt}
use lib.Dec.{eqb, ltb}
use lib.ListN.{length}
use Rattle.rules.specs.Board.{top_priority, most_ticks}
use Rattle.rules.specs.State.{free, at, edit, counter_of, with_counter_of, waiting, sending, is_ready, with_place, with_counter, with_wait}
use Rattle.rules.specs.Lines.{Line, nowhere, ready, waiters, senders, same, line, in_line, line_length, move_up, filled, move}
use Rattle.rules.specs.Sound.{Lines, SoundThread}
use Rattle.rules.specs.declared.Thread.{Thread}
use Rattle.rules.specs.declared.Wait.{Wait}
use Rattle.rules.specs.declared.Wait.TheVariants.{Nothing, Delay, Receive, Send, Semaphore}
use Rattle.rules.specs.declared.Outcome.TheVariants.{Done}
use Rattle.laws.proofs.Split.{is, isnt, test, clash, if_case}
use Rattle.laws.proofs.Lines.{line_counter, ready_counter}
use Rattle.laws.proofs.Reflect.{reflect}
use Rattle.laws.proofs.Members.{length_edit, set_each, count_ext}
use Rattle.laws.proofs.Moves.{move_other, move_self, move_out, changed}
use Rattle.laws.proofs.Placed.{moved, lines_ext, count_nowhere}

-- What a table asks of its threads: which mailboxes may have senders, which semaphores may have waiters, which mailboxes stay full,
-- and which threads stay ready.
pub record Asks : Type 0 where
  pub boxes : ℕ → Bool
  pub spent : ℕ → Bool
  pub full : ℕ → Bool
  pub bound : ℕ → Bool

-- may thread i stand in a line, where boxes may have senders and spent semaphores waiters
abbrev pub is_open : (ℕ → Bool) → (ℕ → Bool) → ℕ → Line → Bool
is_open boxes spent i nowhere = true
is_open boxes spent i (ready p) = true
is_open boxes spent i (waiters k) = spent k
is_open boxes spent i (senders to) = not (eqb i to) && boxes to

abbrev pub may_stand : Asks → ℕ → Line → Bool
may_stand a i l = is_open a.boxes a.spent i l

-- what is asked of thread i
pub record Fit (a : Asks) (i : ℕ) (t : Thread) : Type 0 where
  pub blank : t.used ≡ false → t ≡ free
  pub sound : t.used ≡ true → SoundThread t
  pub init : i ≡ 0 → t.priority ≡ 0
  pub ready : a.bound i ≡ true → is_ready t ≡ true
  pub stands : may_stand a i (line t) ≡ true
  pub full : a.full i ≡ true → t.full ≡ true

-- what is asked of all threads
pub record Meets (a : Asks) (ts : List Thread) : Type 0 where
  pub each : (i : ℕ) → Fit a i (at ts i)
  pub lines : Lines ts

-- a free record waits for nothing, and its mailbox is empty
pub waits_used : {a : Asks} {i : ℕ} {t : Thread} → Fit a i t → waiting t.wait ≡ true → t.used ≡ true
waits_used {t = t} f w = elim (test t.used) [
  | is u ↦ u
  | isnt u ↦ absurd (clash w (ap (λ x. waiting x.wait) (f.blank u)))
]

pub full_used : {a : Asks} {i : ℕ} {t : Thread} → Fit a i t → t.full ≡ true → t.used ≡ true
full_used {t = t} f b = elim (test t.used) [
  | is u ↦ u
  | isnt u ↦ absurd (clash b (ap (λ x. x.full) (f.blank u)))
]

-- AT REST

pub ready_parts : (t : Thread) → is_ready t ≡ true → (t.used ≡ true) × (t.suspended ≡ false) × (waiting t.wait ≡ false)
ready_parts t e = let x = simp reflect at e in (x.0.0, x.0.1, x.1)

pub rest_ready : (n : ℕ) (t : Thread) → is_ready t ≡ true → is_ready (with_wait (Nothing n) t) ≡ true
rest_ready n t e = let x = ready_parts t e in rw (x.0, x.1)

pub rest_counter : (n : ℕ) (w : Wait) → waiting w ≡ false → with_counter_of n w ≡ Nothing n
rest_counter n (Nothing m) e = refl
rest_counter n (Delay m) e = absurd (clash refl e)
rest_counter n (Receive m) e = absurd (clash refl e)
rest_counter n (Send k m) e = absurd (clash refl e)
rest_counter n (Semaphore k m) e = absurd (clash refl e)

pub rest_sending : (w : Wait) → waiting w ≡ false → sending w ≡ false
rest_sending (Nothing m) e = refl
rest_sending (Delay m) e = refl
rest_sending (Receive m) e = refl
rest_sending (Send k m) e = absurd (clash refl e)
rest_sending (Semaphore k m) e = refl

-- a thread that waits for nothing, with counter n
pub rest_sound : (t : Thread) (n : ℕ) → t.priority ≤ top_priority → (1 ≤ t.turn) × (t.turn ≤ most_ticks) → (t.full ≡ false → t.value ≡ 0)
    → ((t.outcome ≡ Done → ⊥) → t.parcel ≡ 0) → (is_ready (with_wait (Nothing n) t) ≡ true → t.place ≡ 1 → (1 ≤ n) × (n ≤ t.turn))
    → (is_ready (with_wait (Nothing n) t) ≡ true → 2 ≤ t.place → n ≡ t.turn) → (is_ready (with_wait (Nothing n) t) ≡ false → n ≡ 0)
    → SoundThread (with_wait (Nothing n) t)
rest_sound t n p q v x one two none = record {
  priority = p;
  turn = q;
  first = one;
  later = two;
  delay = λ e. absurd (clash e refl);
  timed = λ e. absurd (clash e refl);
  idle = λ e w. none e;
  receiver = λ e. absurd (clash e refl);
  empty = v;
  outcome = λ e. absurd (clash e refl);
  parcel = λ e. x;
}

-- MOVING UP, AND TAKING THE TAIL

-- at another place only the counter of a ready thread is asked for anew
pub sound_place : (q : ℕ) {t : Thread} → SoundThread t → (is_ready t ≡ true → q ≡ 1 → (1 ≤ counter_of t.wait) × (counter_of t.wait ≤ t.turn))
    → (is_ready t ≡ true → 2 ≤ q → counter_of t.wait ≡ t.turn) → SoundThread (with_place q t)
sound_place q {t} own one two = search

fit_up : (l : Line) (q : ℕ) {a : Asks} {i : ℕ} {t : Thread} → Fit a i t → Fit a i (move_up l q t)
fit_up l q {a} {i} {t} f = if_case (Fit a i) (in_line l t && ltb q t.place)
    (λ e. record {
      blank = λ u. ap (λ x. with_place (pred x.place) x) (f.blank u);
      sound = λ u. let own = f.sound u in sound_place (pred t.place) own
          (λ r p. let x = own.later r (omega arith) in (omega (arith, own.turn), omega arith)) (λ r p. own.later r (omega arith));
      init = f.init;
      ready = f.ready;
      stands = f.stands;
      full = f.full;
    })
    (λ e. f)

-- a ready thread has a full counter there
sound_tail : (q : ℕ) {t : Thread} → is_ready t ≡ true → SoundThread t → SoundThread (with_counter t.turn (with_place q t))
sound_tail q {t} r own =
    let w = (ready_parts t r).2 in
    rw (rest_counter t.turn t.wait w) (rest_sound (with_place q t) t.turn own.priority own.turn own.empty
    (own.parcel (rest_sending t.wait w)) (λ e p. (own.turn.0, omega arith)) (λ e p. refl) (λ e. absurd (clash (rest_ready t.turn t r) e)))

pub fit_tail : (q : ℕ) {a : Asks} {i : ℕ} {t : Thread} → (line t ≡ nowhere → q ≡ 0) → Fit a i t → Fit a i (filled (with_place q t))
fit_tail q {a} {i} {t} h f = if_case (Fit a i) (is_ready t)
    (λ r. record {
      blank = λ u. absurd (clash (ready_parts t r).0 u);
      sound = λ u. sound_tail q r (f.sound u);
      init = f.init;
      ready = λ e. ready_counter t.turn t ∙ r;
      stands = rw (line_counter t.turn t) f.stands;
      full = f.full;
    })
    (λ r. record {
      blank = λ u j. with_place (h (ap line (f.blank u)) j) (f.blank u j);
      sound = λ u. sound_place q (f.sound u) (λ e. absurd (clash e r)) (λ e. absurd (clash e r));
      init = f.init;
      ready = f.ready;
      stands = f.stands;
      full = f.full;
    })

-- LISTS

pub meets_move : (i : ℕ) (g : Thread → Thread) {a : Asks} {ts : List Thread} → Fit a i (g (with_place 0 (at ts i))) → Meets a ts → Meets a (move i g ts)
meets_move i g {a} {ts} f v = elim (dec_lt i (length ts)) [
  | no h ↦ rw (move_out i g ts (omega arith)) v
  | yes h ↦ record {
    each = λ j. elim (ℕ_discrete j i) [
      | yes q ↦ rw (q, move_self i g ts h) (fit_tail _ (λ e. rw e (count_nowhere (changed i g ts))) f)
      | no k ↦ rw (move_other i j g ts k) (fit_up (line (at ts i)) (at ts i).place (v.each j))
    ];
    lines = moved ts v.lines i h g;
  }
]

-- an edit that leaves a thread's line alone leaves all lines alone
edit_line : (i : ℕ) (g : Thread → Thread) (ts : List Thread) → line (g (at ts i)) ≡ line (at ts i) → (j : ℕ) → line (at (edit i g ts) j) ≡ line (at ts j)
edit_line i g ts e = set_each (λ j t. line t ≡ line (at ts j)) free ts i (g (at ts i)) e (λ j. refl)

pub edit_count : (l : Line) (i : ℕ) (g : Thread → Thread) (ts : List Thread) → line (g (at ts i)) ≡ line (at ts i) → line_length l (edit i g ts) ≡ line_length l ts
edit_count l i g ts e = count_ext (in_line l) ts (edit i g ts) (length_edit ts i g) (λ j. ap (λ k. same k l) (edit_line i g ts e j))

pub meets_edit : (i : ℕ) (g : Thread → Thread) {a : Asks} {ts : List Thread} → line (g (at ts i)) ≡ line (at ts i) → (g (at ts i)).place ≡ (at ts i).place
    → Fit a i (g (at ts i)) → Meets a ts → Meets a (edit i g ts)
meets_edit i g {a} {ts} e p f v = record {
  each = set_each (Fit a) free ts i (g (at ts i)) f v.each;
  lines = lines_ext ts (edit i g ts) (length_edit ts i g) (edit_line i g ts e)
      (set_each (λ j t. t.place ≡ (at ts j).place) free ts i (g (at ts i)) p (λ j. refl)) v.lines;
}
