-- What the tests of one record say: of its counter, of its wait object, of a record in use and of a free one. Each is a split on the
-- kinds of waits, and what the tests say one by one. Assumes nothing.
use mathlib.Core.Bool.{Bool, true, false, true≢false, false≢true}
use mathlib.Core.Path.{◌≡◌, refl, ap}
use mathlib.Core.Logic.{◌↔◌}
use Prim.Native.Nat.{ℕ, ◌≤◌}
use native.Mathlib.Omega.{arith}
use borrow.Author.Tests.{leb-true, le-leb}
use Rattle.rules.specs.Board.{most_ticks}
use Rattle.rules.specs.State.{State, free, at, sem_at, counter_of, waiting, delaying, receiving, is_ready}
use Rattle.rules.specs.Sound.{SoundThread}
use Rattle.rules.specs.Test.{counter_ok, object_ok, free_ok, used_ok}
use Rattle.rules.specs.declared.Thread.{Thread}
use Rattle.rules.specs.declared.Wait.{Wait}
use Rattle.rules.specs.declared.Wait.TheVariants.{Nothing, Delay, Receive, Send, Semaphore}
use Rattle.laws.proofs.Split.{is, isnt, test, clash}
use Rattle.laws.proofs.Reflect.{reflect}

-- THE COUNTER

-- what the test of a counter says: of the wait, whether its thread is suspended, the place and the turn
record Counter (w : Wait) (s : Bool) (q n : ℕ) : Type 0 where
  first : waiting w ≡ false → s ≡ false → q ≡ 1 → (1 ≤ counter_of w) × (counter_of w ≤ n)
  later : waiting w ≡ false → s ≡ false → (q ≡ 1 → ⊥) → counter_of w ≡ n
  delay : delaying w ≡ true → 1 ≤ counter_of w
  timed : waiting w ≡ true → counter_of w ≤ most_ticks
  idle : waiting w ≡ false → s ≡ true → counter_of w ≡ 0

counter_says : (w : Wait) (s : Bool) (q n : ℕ) → counter_ok w s q n ≡ true ↔ Counter w s q n
counter_says w s q n = (there w, back w)
  where
    there : (w : Wait) → counter_ok w s q n ≡ true → Counter w s q n
    there (Nothing c) e = let x = simp reflect at e in record {
      first = λ w k. (x.1 k).0;
      later = λ w k. (x.1 k).1;
      delay = λ d. absurd (false≢true d);
      timed = λ d. absurd (false≢true d);
      idle = λ w. x.0;
    }
    there (Delay c) e = let x = simp reflect at e in omega (arith, x, true≢false)
    there (Receive c) e = omega (arith, true≢false, false≢true, leb-true)
    there (Send to c) e = omega (arith, true≢false, false≢true, leb-true)
    there (Semaphore on c) e = omega (arith, true≢false, false≢true, leb-true)

    back : (w : Wait) → Counter w s q n → counter_ok w s q n ≡ true
    back (Nothing c) h = simp reflect (h.idle refl, λ e. (h.first refl e, h.later refl e))
    back (Delay c) h = simp reflect (h.delay refl, h.timed refl)
    back (Receive c) h = le-leb c most_ticks (h.timed refl)
    back (Send to c) h = le-leb c most_ticks (h.timed refl)
    back (Semaphore on c) h = le-leb c most_ticks (h.timed refl)

-- THE WAIT OBJECT

pub record Object (s : State) (i : ℕ) (w : Wait) (full : Bool) : Type 0 where
  pub receiver : receiving w ≡ true → full ≡ false
  pub sends : (to n : ℕ) → w ≡ Send to n → (i ≡ to → ⊥) × ((at s.threads to).used ≡ true) × ((at s.threads to).full ≡ true)
  pub pends : (on n : ℕ) → w ≡ Semaphore on n → ((sem_at s.sems on).used ≡ true) × ((sem_at s.sems on).count ≡ 0)

pub object_says : (s : State) (i : ℕ) (w : Wait) (full : Bool) → object_ok s i w full ≡ true ↔ Object s i w full
object_says s i w full = (there, back w)
  where
    receiver : (w : Wait) → object_ok s i w full ≡ true → receiving w ≡ true → full ≡ false
    receiver (Nothing c) e r = absurd (false≢true r)
    receiver (Delay c) e r = absurd (false≢true r)
    receiver (Receive c) e r = simp reflect at e
    receiver (Send to c) e r = absurd (false≢true r)
    receiver (Semaphore on c) e r = absurd (false≢true r)

    there : object_ok s i w full ≡ true → Object s i w full
    there e = record {
      receiver = receiver w e;
      sends = λ to n q. let x = simp reflect at (rw q at e) in (x.0.0, x.0.1, x.1);
      pends = λ on n q. simp reflect at (rw q at e);
    }

    back : (w : Wait) → Object s i w full → object_ok s i w full ≡ true
    back (Nothing c) h = refl
    back (Delay c) h = refl
    back (Receive c) h = simp reflect (h.receiver refl)
    back (Send to c) h = let x = h.sends to c refl in simp reflect ((x.0, x.1), x.2)
    back (Semaphore on c) h = simp reflect (h.pends on c refl)

-- A RECORD

module _ (t : Thread) (u : t.used ≡ true) where
  is_ready_lem : waiting t.wait ≡ false → t.suspended ≡ false → is_ready t ≡ true
  is_ready_lem w k = simp reflect ((u, k), w)

  stopped : is_ready t ≡ false → waiting t.wait ≡ false → t.suspended ≡ true
  stopped r w = elim (test t.suspended) [ is k ↦ k | isnt k ↦ absurd (clash (is_ready_lem w k) r) ]

  pub used_says : (s : State) (i : ℕ) → (is_ready t ≡ true → 1 ≤ t.place) → used_ok s i t ≡ true ↔ (SoundThread t × Object s i t.wait t.full)
  unfolding used_ok
  used_says s i low = (there, back)
    where
      there : used_ok s i t ≡ true → SoundThread t × Object s i t.wait t.full
      there e =
          let x = simp (reflect, counter_says, object_says) at e in
          let c : Counter t.wait t.suspended t.place t.turn = x.0.0.0.0.1 in (
            record {
              priority = x.0.0.0.0.0.0;
              turn = x.0.0.0.0.0.1;
              first = λ r. let v = simp reflect at r in c.first v.1 v.0.1;
              later = λ r p. let v = simp reflect at r in c.later v.1 v.0.1 (omega arith);
              delay = c.delay;
              timed = c.timed;
              idle = λ r w. c.idle w (stopped r w);
              receiver = x.0.0.0.1.receiver;
              empty = x.0.0.1;
              outcome = x.0.1;
              parcel = λ p q. x.1 (p, q);
            },
            x.0.0.0.1,
          )

      back : SoundThread t × Object s i t.wait t.full → used_ok s i t ≡ true
      back h =
          let σ = h.0 in
          let c : Counter t.wait t.suspended t.place t.turn = record {
            first = λ w k. σ.first (is_ready_lem w k);
            later = λ w k q. σ.later (is_ready_lem w k) (omega (arith, low (is_ready_lem w k)));
            delay = σ.delay;
            timed = σ.timed;
            idle = λ w k. σ.idle (rw (u, k)) w;
          } in
          simp (reflect, counter_says, object_says) ((((((σ.priority, σ.turn), c), h.1), σ.empty), σ.outcome), λ p. σ.parcel p.0 p.1)

no_wait : (w : Wait) → waiting w ≡ false → counter_of w ≡ 0 → w ≡ Nothing 0
no_wait (Nothing c) e z = ap Nothing z
no_wait (Delay c) e z = absurd (true≢false e)
no_wait (Receive c) e z = absurd (true≢false e)
no_wait (Send to c) e z = absurd (true≢false e)
no_wait (Semaphore on c) e z = absurd (true≢false e)

pub free_says : (t : Thread) → t.used ≡ false → free_ok t ≡ true ↔ (t ≡ free)
unfolding free_ok
free_says t u = (there, ap free_ok)
  where
    there : free_ok t ≡ true → t ≡ free
    there e = let x = simp reflect at e in λ j. record {
      used = u j;
      priority = x.0.0.0.0.0.0.0.0.0 j;
      suspended = x.0.0.0.0.0.0.0.0.1 j;
      wait = no_wait t.wait x.0.0.0.0.0.0.0.1 x.0.0.0.0.0.0.1 j;
      place = x.0.0.0.0.0.1 j;
      full = x.0.0.0.0.1 j;
      outcome = x.0.0.0.1 j;
      turn = x.0.0.1 j;
      value = x.0.1 j;
      parcel = x.1 j;
    }
