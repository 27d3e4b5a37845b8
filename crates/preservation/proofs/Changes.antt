-- Which changes keep a thread what its table asks: each is a word on the one record that changes. A thread that moves has place 0 until
-- it joins its line, so that nothing is asked of a ready one's counter before. Assumes nothing.
use Rattle.std.specs.Prelude.{if◌then◌else◌}
use mathlib.Core.Bool.{Bool, true, false, not, ◌&&◌}
use mathlib.Core.Path.{◌≡◌, refl, ap, ◌∙◌}
use mathlib.Core.Logic.{◌≢◌}
use Prim.Native.Nat.{ℕ, ◌≤◌}
use native.Mathlib.Omega.{arith}
use Rattle.rules.specs.Board.{top_priority, most_ticks}
use Rattle.rules.specs.State.{free, counter_of, with_counter_of, waiting, delaying, receiving, sending, is_ready, with_place, with_counter, with_wait, with_suspended, with_mail, with_priority, with_turn}
use Rattle.rules.specs.Lines.{nowhere, ready, line, wait_line}
use Rattle.rules.specs.Waiting.{ended, begun}
use Rattle.rules.specs.Threads.{created, stopped}
use Rattle.rules.specs.Sound.{SoundThread}
use Rattle.rules.specs.declared.Thread.{Thread}
use Rattle.rules.specs.declared.Wait.{Wait}
use Rattle.rules.specs.declared.Wait.TheVariants.{Nothing, Delay, Receive, Send, Semaphore}
use Rattle.rules.specs.declared.Outcome.{Outcome}
use Rattle.rules.specs.declared.Outcome.TheVariants.{Done, NoneYet}
use Rattle.laws.proofs.Split.{clash, and_off}
use Rattle.laws.proofs.Lines.{line_counter, ready_counter}
use Rattle.preservation.proofs.Fit.{Asks, may_stand, Fit, full_used, ready_parts, rest_ready, rest_sending, rest_counter, rest_sound, sound_place}

pub fit_used : {a : Asks} {i : ℕ} {t : Thread} → t.used ≡ true → SoundThread t → (i ≡ 0 → t.priority ≡ 0) → (a.bound i ≡ true → is_ready t ≡ true)
    → may_stand a i (line t) ≡ true → (a.full i ≡ true → t.full ≡ true) → Fit a i t
fit_used u own p r l h = record { blank = λ e. absurd (clash u e); sound = λ e. own; init = p; ready = r; stands = l; full = h }

-- WHERE IT STANDS

-- no priority and no suspension keeps a thread from where it stands
restand : (a : Asks) (i : ℕ) (u s s' : Bool) (w : Wait) (p p' : ℕ) → may_stand a i (if u then wait_line w s p else nowhere) ≡ true
    → may_stand a i (if u then wait_line w s' p' else nowhere) ≡ true
restand a i false s s' w p p' e = refl
restand a i true s true (Nothing n) p p' e = refl
restand a i true s false (Nothing n) p p' e = refl
restand a i true s s' (Delay n) p p' e = refl
restand a i true s s' (Receive n) p p' e = refl
restand a i true s s' (Send k n) p p' e = e
restand a i true s s' (Semaphore k n) p p' e = e

-- a thread that waits for nothing may stand where it does
rest_stands : (a : Asks) (i n : ℕ) (t : Thread) → may_stand a i (line (with_wait (Nothing n) t)) ≡ true
rest_stands a i n t = go t.used t.suspended
  where
    go : (u s : Bool) → may_stand a i (if u then (if s then nowhere else ready t.priority) else nowhere) ≡ true
    go false s = refl
    go true true = refl
    go true false = refl

-- WHAT IS SAID OF ITS OWN RECORD

-- a thread that waits for nothing any more, on its way to its line
rest_anew : (t : Thread) → t.place ≡ 0 → t.priority ≤ top_priority → (1 ≤ t.turn) × (t.turn ≤ most_ticks) → (t.full ≡ false → t.value ≡ 0)
    → ((t.outcome ≡ Done → ⊥) → t.parcel ≡ 0) → SoundThread (with_wait (Nothing 0) t)
rest_anew t z p q v x = rest_sound t 0 p q v x (λ r e. absurd (omega arith)) (λ r e. absurd (omega arith)) (λ r. refl)

off_wait : (t : Thread) → waiting t.wait ≡ true → is_ready t ≡ false
off_wait t e = rw e (and_off (t.used && not t.suspended))

-- a thread that waits
wait_sound : (t : Thread) (w : Wait) → waiting w ≡ true → t.priority ≤ top_priority → (1 ≤ t.turn) × (t.turn ≤ most_ticks) → (t.full ≡ false → t.value ≡ 0)
    → (delaying w ≡ true → 1 ≤ counter_of w) → counter_of w ≤ most_ticks → (receiving w ≡ true → t.full ≡ false) → t.outcome ≡ NoneYet
    → (sending w ≡ false → (t.outcome ≡ Done → ⊥) → t.parcel ≡ 0) → SoundThread (with_wait w t)
wait_sound t w e p q v d c b y x = record {
  priority = p;
  turn = q;
  first = λ r. absurd (clash r (off_wait (with_wait w t) e));
  later = λ r. absurd (clash r (off_wait (with_wait w t) e));
  delay = d;
  timed = λ r. c;
  idle = λ r n. absurd (clash e n);
  receiver = b;
  empty = v;
  outcome = λ r. y;
  parcel = x;
}

-- the same wait with another counter
sound_counted : (n : ℕ) (w : Wait) (t : Thread) → waiting w ≡ true → 1 ≤ n → n ≤ most_ticks → SoundThread (with_wait w t) → SoundThread (with_wait (with_counter_of n w) t)
sound_counted n (Nothing m) t e l h own = absurd (clash e refl)
sound_counted n (Delay m) t e l h own = wait_sound t (Delay n) refl own.priority own.turn own.empty (λ q. l) h own.receiver (own.outcome refl) own.parcel
sound_counted n (Receive m) t e l h own = wait_sound t (Receive n) refl own.priority own.turn own.empty (λ q. l) h own.receiver (own.outcome refl) own.parcel
sound_counted n (Send k m) t e l h own = wait_sound t (Send k n) refl own.priority own.turn own.empty (λ q. l) h own.receiver (own.outcome refl) own.parcel
sound_counted n (Semaphore k m) t e l h own = wait_sound t (Semaphore k n) refl own.priority own.turn own.empty (λ q. l) h own.receiver (own.outcome refl) own.parcel

sound_resumed : {t : Thread} → (is_ready (with_suspended false t) ≡ true → t.place ≡ 1 → (1 ≤ counter_of t.wait) × (counter_of t.wait ≤ t.turn))
    → (is_ready (with_suspended false t) ≡ true → 2 ≤ t.place → counter_of t.wait ≡ t.turn) → (waiting t.wait ≡ false → counter_of t.wait ≡ 0)
    → SoundThread t → SoundThread (with_suspended false t)
sound_resumed {t} one two none own = search

sound_priority : (p : ℕ) {t : Thread} → p ≤ top_priority → SoundThread t → SoundThread (with_priority p t)
sound_priority p {t} h own = search

sound_turn : (n : ℕ) {t : Thread} → (1 ≤ n) × (n ≤ most_ticks)
    → (is_ready t ≡ true → t.place ≡ 1 → (1 ≤ counter_of t.wait) × (counter_of t.wait ≤ n)) → (is_ready t ≡ true → 2 ≤ t.place → counter_of t.wait ≡ n)
    → SoundThread t → SoundThread (with_turn n t)
sound_turn n {t} l one two own = search

sound_mail : (b : Bool) (x : ℕ) {t : Thread} → (receiving t.wait ≡ true → b ≡ false) → (b ≡ false → x ≡ 0) → SoundThread t → SoundThread (with_mail b x t)
sound_mail b x {t} p q own = search

-- THE CHANGES

-- what thread i's wait has to be like when it begins, with its parcel
pub record Begins (a : Asks) (i : ℕ) (t : Thread) (w : Wait) (x : ℕ) : Type 0 where
  pub waits : waiting w ≡ true
  pub delay : delaying w ≡ true → 1 ≤ counter_of w
  pub timed : counter_of w ≤ most_ticks
  pub receiver : receiving w ≡ true → t.full ≡ false
  pub parcel : sending w ≡ false → x ≡ 0
  pub stands : may_stand a i (wait_line w t.suspended t.priority) ≡ true

-- a record becomes free
pub fit_free : {a : Asks} {i : ℕ} → a.bound i ≡ false → a.full i ≡ false → Fit a i free
fit_free b h = record {
  blank = λ e. refl;
  sound = λ e. absurd (clash e refl);
  init = λ e. refl;
  ready = λ e. absurd (clash e b);
  stands = refl;
  full = λ e. absurd (clash e h);
}

module _ {a : Asks} {i : ℕ} {t : Thread} (f : Fit a i t) where
  -- a free record becomes a thread
  pub fit_created : t.used ≡ false → (p n : ℕ) → i ≢ 0 → p ≤ top_priority → (1 ≤ n) × (n ≤ most_ticks) → Fit a i (created p n)
  fit_created u p n k h l = fit_used refl (rest_anew (created p n) refl h l (λ e. refl) (λ e. refl))
      (λ e. absurd (k e)) (λ e. refl) refl (λ e. absurd (clash (full_used f (f.full e)) u))

  -- it is on its way to the tail of its line
  pub fit_lifted : Fit a i (with_place 0 t)
  fit_lifted = record {
    blank = λ u. ap (with_place 0) (f.blank u);
    sound = λ u. sound_place 0 (f.sound u) (λ r e. absurd (omega arith)) (λ r e. absurd (omega arith));
    init = f.init;
    ready = f.ready;
    stands = f.stands;
    full = f.full;
  }

module _ {a : Asks} {i : ℕ} {t : Thread} (f : Fit a i t) (u : t.used ≡ true) where
  own : SoundThread t
  own = f.sound u

  lifted : SoundThread (with_place 0 t)
  lifted = (fit_lifted f).sound u

  -- its wait ends
  pub fit_ended : (o : Outcome) (x : ℕ) → ((o ≡ Done → ⊥) → x ≡ 0) → Fit a i (ended o x (with_place 0 t))
  fit_ended o x h = fit_used u (rest_anew (ended o x (with_place 0 t)) refl own.priority own.turn own.empty h)
      f.init (λ e. rest_ready 0 t (f.ready e)) (rest_stands a i 0 (ended o x t)) f.full

  -- it was ready, and is suspended
  pub fit_stopped : waiting t.wait ≡ false → a.bound i ≡ false → Fit a i (stopped (with_place 0 t))
  fit_stopped w b = fit_used u (rest_anew (stopped (with_place 0 t)) refl own.priority own.turn own.empty (own.parcel (rest_sending t.wait w)))
      f.init (λ e. absurd (clash e b)) (rest_stands a i 0 (stopped t)) f.full

  -- it waits for nothing, and is suspended no longer
  pub fit_resumed : t.suspended ≡ true → waiting t.wait ≡ false → Fit a i (with_suspended false (with_place 0 t))
  fit_resumed p w = fit_used u (sound_resumed (λ r e. absurd (omega arith)) (λ r e. absurd (omega arith)) (own.idle (rw (p, and_off t.used))) lifted)
      f.init (λ e. absurd (clash p (ready_parts t (f.ready e)).1)) (restand a i t.used t.suspended false t.wait t.priority t.priority f.stands) f.full

  -- it waits, and is suspended or no longer
  pub fit_suspended : (b : Bool) → waiting t.wait ≡ true → Fit a i (with_suspended b t)
  fit_suspended b w = fit_used u
      (wait_sound (with_suspended b t) t.wait w own.priority own.turn own.empty own.delay (own.timed w) own.receiver (own.outcome w) own.parcel)
      f.init (λ e. absurd (clash w (ready_parts t (f.ready e)).2)) (restand a i t.used t.suspended b t.wait t.priority t.priority f.stands) f.full

  -- it has another priority
  pub fit_priority : (p : ℕ) → i ≢ 0 → p ≤ top_priority → Fit a i (with_priority p t)
  fit_priority p k h = fit_used u (sound_priority p h own)
      (λ e. absurd (k e)) f.ready (restand a i t.used t.suspended t.suspended t.wait t.priority p f.stands) f.full

  -- it has another turn
  pub fit_turn : (n : ℕ) → (1 ≤ n) × (n ≤ most_ticks) → Fit a i (with_turn n (with_place 0 t))
  fit_turn n l = fit_used u (sound_turn n l (λ r e. absurd (omega arith)) (λ r e. absurd (omega arith)) lifted) f.init f.ready f.stands f.full

  -- its mailbox is filled or emptied
  pub fit_mail : (b : Bool) (x : ℕ) → (receiving t.wait ≡ true → b ≡ false) → (b ≡ false → x ≡ 0) → (a.full i ≡ true → b ≡ true) → Fit a i (with_mail b x t)
  fit_mail b x p q h = fit_used u (sound_mail b x p q own) f.init f.ready f.stands h

  -- its wait begins
  pub fit_begun : (w : Wait) (x : ℕ) → a.bound i ≡ false → Begins a i t w x → Fit a i (begun w x (with_place 0 t))
  fit_begun w x b g = fit_used u
      (wait_sound (begun w x (with_place 0 t)) w g.waits own.priority own.turn own.empty g.delay g.timed g.receiver refl (λ e n. g.parcel e))
      f.init (λ e. absurd (clash e b)) (rw u g.stands) f.full

  -- a tick less is left of its wait
  pub fit_counted : (n : ℕ) → waiting t.wait ≡ true → 1 ≤ n → n ≤ most_ticks → Fit a i (with_counter n t)
  fit_counted n w l h = fit_used u (sound_counted n t.wait t w l h own)
      f.init (λ e. ready_counter n t ∙ f.ready e) (rw (line_counter n t) f.stands) f.full

  -- a tick less is left of its turn
  pub fit_charged : (n : ℕ) → is_ready t ≡ true → t.place ≡ 1 → 1 ≤ n → n ≤ t.turn → Fit a i (with_counter n t)
  fit_charged n r p l h =
      let w = (ready_parts t r).2 in
      fit_used u (rw (rest_counter n t.wait w) (rest_sound t n own.priority own.turn own.empty (own.parcel (rest_sending t.wait w))
      (λ e q. (l, h)) (λ e q. absurd (omega arith)) (λ e. absurd (clash (rest_ready n t r) e))))
      f.init (λ e. ready_counter n t ∙ f.ready e) (rw (line_counter n t) f.stands) f.full
