-- A sound state asks of its threads what it is sound by, and a state whose threads are what it asks is sound once it is settled: the
-- running thread is then the top, or under lock the one that it asks to stay ready. Assumes nothing.
use Rattle.std.specs.Prelude.{if◌then◌else◌}
use mathlib.Core.Bool.{Bool, true, false, not, ◌&&◌}
use mathlib.Core.Path.{◌≡◌, refl, ap}
use mathlib.Core.Logic.{◌≢◌}
use mathlib.Core.List.{List}
use Prim.Native.Nat.{ℕ, ◌≤◌}
use native.Mathlib.Omega.{arith}
use native.Mathlib.Decide.{ℕ_discrete}
use borrow.Author.Tests.{eqb-false, eq-eqb}
use lib.Dec.{eqb}
use lib.ListN.{set}
use Rattle.rules.specs.Board.{most_count, most_lock}
use Rattle.rules.specs.State.{State, free, free_sem, at, sem_at, waiting, is_ready, with_threads, with_sems, with_lock, with_running}
use Rattle.rules.specs.Lines.{Line, nowhere, ready, waiters, senders, same, line, wait_line, in_line, line_length, top, settle}
use Rattle.rules.specs.Threads.{bound}
use Rattle.rules.specs.Sound.{Sound}
use Rattle.rules.specs.declared.Thread.{Thread}
use Rattle.rules.specs.declared.Sem.{Sem}
use Rattle.rules.specs.declared.Wait.{Wait}
use Rattle.rules.specs.declared.Wait.TheVariants.{Nothing, Delay, Receive, Send, Semaphore}
use Rattle.laws.proofs.Split.{and_true, and_both, if_case}
use Rattle.laws.proofs.Reflect.{reflect}
use Rattle.laws.proofs.Lines.{ready_used}
use Rattle.laws.proofs.Members.{set_each}
use Rattle.laws.proofs.Counts.{count_in}
use Rattle.laws.proofs.Top.{Top, top_highest}
use Rattle.preservation.proofs.Fit.{Asks, may_stand, Meets, waits_used, full_used}

-- in use with count 0
abbrev pub is_spent : Sem → Bool
is_spent e = e.used && eqb e.count 0

-- what a state asks of its threads
abbrev pub asks : State → Asks
asks s = record { boxes = λ i. (at s.threads i).full; spent = λ k. is_spent (sem_at s.sems k); full = λ i. (at s.threads i).full; bound = bound s }

-- the same, but mailbox i need not stay full
abbrev pub without : ℕ → Asks → Asks
without i a = record { boxes = a.boxes; spent = a.spent; full = λ j. not (eqb j i) && a.full j; bound = a.bound }

pub without_self : (i : ℕ) (a : Asks) → (without i a).full i ≡ false
without_self i a = rw (eq-eqb i i refl)

pub meets_without : (i : ℕ) {a : Asks} {ts : List Thread} → Meets a ts → Meets (without i a) ts
meets_without i {a} v = record {
  each = λ j. let f = v.each j in record {
    blank = f.blank;
    sound = f.sound;
    init = f.init;
    ready = f.ready;
    stands = f.stands;
    full = λ e. f.full (and_true (not (eqb j i)) (a.full j) e).1;
  };
  lines = v.lines;
}

pub record SoundSem (e : Sem) : Type 0 where
  pub blank : e.used ≡ false → e ≡ free_sem
  pub most : e.count ≤ most_count

-- sound but for who runs
pub record Unsettled (s : State) : Type 0 where
  pub threads : Meets (asks s) s.threads
  pub sems : (k : ℕ) → SoundSem (sem_at s.sems k)
  pub lock : s.lock ≤ most_lock

-- FROM A SOUND STATE

may_stand_lem : (a : Asks) (i : ℕ) (u s : Bool) (w : Wait) (p : ℕ) → ((to n : ℕ) → w ≡ Send to n → not (eqb i to) && a.boxes to ≡ true)
    → ((k n : ℕ) → w ≡ Semaphore k n → a.spent k ≡ true) → may_stand a i (if u then wait_line w s p else nowhere) ≡ true
may_stand_lem a i false s w p f g = refl
may_stand_lem a i true true (Nothing n) p f g = refl
may_stand_lem a i true false (Nothing n) p f g = refl
may_stand_lem a i true s (Delay n) p f g = refl
may_stand_lem a i true s (Receive n) p f g = refl
may_stand_lem a i true s (Send to n) p f g = f to n refl
may_stand_lem a i true s (Semaphore k n) p f g = g k n refl

-- whatever its lock becomes
pub sound_relocked : {s : State} (n : ℕ) → Sound s → Meets (asks (with_lock n s)) s.threads
sound_relocked {s} n σ = record {
  each = λ i. let t = at s.threads i in record {
    blank = σ.free_thread i;
    sound = σ.threads i;
    init = λ e. rw e σ.init.1;
    ready = λ e. elim (ℕ_discrete i 0) [ yes q ↦ rw q σ.init.0 | no q ↦ let x = simp reflect at e in rw (x q).0 σ.runs ];
    stands = may_stand_lem (asks (with_lock n s)) i t.used t.suspended t.wait t.priority
        (λ to n e. let x = σ.sends i to n e in simp reflect (x.0, x.2)) (λ k n e. simp reflect (σ.pends i k n e));
    full = λ e. e;
  };
  lines = σ.lines;
}

pub sound_meets : {s : State} → Sound s → Meets (asks s) s.threads
sound_meets {s} σ = sound_relocked s.lock σ

pub sound_sems : {s : State} → Sound s → (k : ℕ) → SoundSem (sem_at s.sems k)
sound_sems σ k = record { blank = σ.free_semaphore k; most = σ.counts k }

pub sound_unsettled : {s : State} → Sound s → Unsettled s
sound_unsettled σ = record { threads = sound_meets σ; sems = sound_sems σ; lock = σ.lock }

-- TO A SOUND STATE

module _ {s : State} (h : Unsettled s) where
  sends : (i to n : ℕ) → (at s.threads i).wait ≡ Send to n → (i ≢ to) × ((at s.threads to).used ≡ true) × ((at s.threads to).full ≡ true)
  sends i to n e =
      let f = h.threads.each i in
      let x = simp reflect at (rw (waits_used f (ap waiting e), e) at f.stands) in
      (x.0, full_used (h.threads.each to) x.1, x.1)

  pends : (i k n : ℕ) → (at s.threads i).wait ≡ Semaphore k n → ((sem_at s.sems k).used ≡ true) × ((sem_at s.sems k).count ≡ 0)
  pends i k n e = let f = h.threads.each i in simp reflect at (rw (waits_used f (ap waiting e), e) at f.stands)

  running : (r : ℕ) → is_ready (at s.threads r) ≡ true → (s.lock ≡ 0 → Top s.threads r) → Sound (with_running r s)
  running r e t = record {
    free_thread = λ i. (h.threads.each i).blank;
    free_semaphore = λ k. (h.sems k).blank;
    threads = λ i. (h.threads.each i).sound;
    counts = λ k. (h.sems k).most;
    lock = h.lock;
    init = ((h.threads.each 0).ready refl, (h.threads.each 0).init refl);
    lines = h.threads.lines;
    sends = sends;
    pends = pends;
    runs = e;
    leads = λ z. (t z).first;
    highest = λ z. (t z).highest;
  }

  on_top : Top s.threads (top s.threads)
  on_top = top_highest s.threads h.threads.lines ((h.threads.each 0).ready refl)
      (λ i r. ((h.threads.each i).sound (ready_used (at s.threads i) r)).priority)

  pub settled : Sound (settle s)
  unfolding settle
  settled = if_case Sound (eqb s.lock 0) (λ e. running (top s.threads) on_top.ready (λ z. on_top)) (λ e.
      let n : s.lock ≢ 0 = eqb-false s.lock 0 e in
      running s.running ((h.threads.each s.running).ready (simp reflect (λ q. (refl, omega arith)))) (λ z. absurd (n z)))

-- OTHER THREADS IN A SOUND STATE

-- what a asks, a state asks of its threads where the lines that have members are open to them still
pub renewed : (a : Asks) (s : State) → ((i : ℕ) → bound s i ≡ true → a.bound i ≡ true)
    → ((i : ℕ) → 1 ≤ line_length (senders i) s.threads → a.boxes i ≡ true → (at s.threads i).full ≡ true)
    → ((k : ℕ) → 1 ≤ line_length (waiters k) s.threads → a.spent k ≡ true → is_spent (sem_at s.sems k) ≡ true)
    → Meets a s.threads → Meets (asks s) s.threads
renewed a s b m e v = record {
  each = λ i. let f = v.each i in record {
    blank = f.blank;
    sound = f.sound;
    init = f.init;
    ready = λ q. f.ready (b i q);
    stands = again i (line (at s.threads i)) (λ l q. q) f.stands;
    full = λ q. q;
  };
  lines = v.lines;
}
  where
    member : (l : Line) (i : ℕ) → in_line l (at s.threads i) ≡ true → 1 ≤ line_length l s.threads
    member l i q = count_in (in_line l) free refl s.threads i q

    again : (i : ℕ) (l : Line) → ((k : Line) → same l k ≡ true → in_line k (at s.threads i) ≡ true) → may_stand a i l ≡ true → may_stand (asks s) i l ≡ true
    again i nowhere q h = refl
    again i (ready p) q h = refl
    again i (waiters k) q h = e k (member (waiters k) i (q (waiters k) (eq-eqb k k refl))) h
    again i (senders j) q h =
        let x = and_true (not (eqb i j)) (a.boxes j) h in
        and_both (not (eqb i j)) (at s.threads j).full x.0 (m j (member (senders j) i (q (senders j) (eq-eqb j j refl))) x.1)

module _ {s : State} (us : List Thread) (σ : Sound s) where
  pub kept_threads : Meets (asks s) us → Unsettled (with_threads us s)
  kept_threads v = record {
    threads = renewed (asks s) (with_threads us s) (λ i q. q) (λ i n. (v.each i).full) (λ k n q. q) v;
    sems = sound_sems σ;
    lock = σ.lock;
  }

  -- where nobody sends to mailbox i, it need not stay full
  pub kept_emptied : (i : ℕ) → Meets (without i (asks s)) us → line_length (senders i) us ≡ 0 → Unsettled (with_threads us s)
  kept_emptied i v z = record {
    threads = renewed (without i (asks s)) (with_threads us s) (λ j q. q)
        (λ j n q. (v.each j).full (simp reflect (λ e. absurd (omega (arith, z, ap (λ k. line_length (senders k) us) e)), q)))
        (λ k n q. q) v;
    sems = sound_sems σ;
    lock = σ.lock;
  }

  -- where somebody waits on semaphore k still, it stays in use with count 0
  pub kept_sem : (k : ℕ) (e : Sem) → Meets (asks s) us → SoundSem e → (1 ≤ line_length (waiters k) us → is_spent (sem_at s.sems k) ≡ true → is_spent e ≡ true)
      → Unsettled (with_sems (set s.sems k e) (with_threads us s))
  kept_sem k e v o h = record {
    threads = renewed (asks s) (with_sems (set s.sems k e) (with_threads us s)) (λ i q. q) (λ i n. (v.each i).full)
        (set_each (λ j x. 1 ≤ line_length (waiters j) us → is_spent (sem_at s.sems j) ≡ true → is_spent x ≡ true) free_sem s.sems k e h (λ j n q. q)) v;
    sems = set_each (λ j x. SoundSem x) free_sem s.sems k e o (sound_sems σ);
    lock = σ.lock;
  }
