-- A step answers the refusal that document 01's two tables name, and a refusal leaves the state as it was: each operation is a
-- ladder of tests in the order of the first table, and each test is the second table's condition. Assumes nothing.
use Rattle.std.specs.Prelude.{if◌then◌else◌, Option, None, Some}
use mathlib.Core.Bool.{Bool, true, false, not, ◌&&◌, ◌||◌}
use mathlib.Core.Path.{◌≡◌, refl}
use Prim.Native.Nat.{ℕ, ◌-◌}
use native.Mathlib.Omega.{arith}
use native.Mathlib.Decide.{ℕ_discrete}
use lib.Dec.{eqb, leb, ltb}
use borrow.Author.Tests.{leb-true, ne_eqb, lt-ltb}
use lib.ListN.{length, get_or-eq_default}
use Rattle.rules.specs.State.{State, free, free_sem, at, sem_at}
use Rattle.rules.specs.Lines.{waiters, same, wait_line, in_line}
use Rattle.rules.specs.Waiting.{Step, refuse, accept, block, may_not_wait, never_wait, must_wait}
use Rattle.rules.specs.Threads.{bound, do_yield, do_create, do_delete, do_suspend, do_resume, do_delay, break_off, do_cancel, do_set_priority, do_set_turn}
use Rattle.rules.specs.Mail.{do_send, do_send_from_interrupt, do_receive}
use Rattle.rules.specs.Semaphores.{no_sem, served_by, too_many, posted, do_make, do_drop, do_pend, do_abort, do_post, do_post_from_interrupt}
use Rattle.rules.specs.Time.{do_lock, do_unlock, do_tick, outcome_answer, do_outcome}
use Rattle.rules.specs.Sleep.{do_ticks, do_nearest}
use Rattle.rules.specs.Steps.{step}
use Rattle.rules.specs.declared.Thread.{Thread}
use Rattle.rules.specs.declared.Wait.{Wait}
use Rattle.rules.specs.declared.Wait.TheVariants.{Nothing, Delay, Receive, Send, Semaphore}
use Rattle.rules.specs.declared.Outcome as Outcome
use Rattle.rules.specs.declared.Refusal.{Refusal}
use Rattle.rules.specs.declared.Refusal.TheVariants.{BadOperation, BadSemaphore}
use Rattle.rules.specs.declared.Request.{Request}
use Rattle.rules.specs.declared.Request.TheVariants as Ask
use Rattle.laws.proofs.Split.{is, isnt, test, if_case}
use Rattle.laws.proofs.Counts.{count_as}
use Rattle.promises.specs.Refusals.{first_given, refusal, refusal_in, locked, cannot_wait, on_semaphore, waits_on, units_over, minus5}

-- a step answers one refusal or none, and leaves the state where it refuses
pub record Says (s : State) (why : Option Refusal) (r : Step) : Type 0 where
  pub answer : refusal_in r.answer ≡ why
  pub state : (w : Refusal) → why ≡ Some w → r.state ≡ s

never : {A : Type 0} (w : A) → ◌≡◌ {A = Option A} None (Some w) → ⊥
never w e = let z : ◌≡◌ {A = ℕ} 0 1 = cc in omega arith

refuses : (s : State) (why : Refusal) → Says s (Some why) (refuse s why)
refuses s why = record { answer = refl; state = λ w e. refl }

accepts : (s : State) (r : Step) → refusal_in r.answer ≡ None → Says s None r
accepts s r e = record { answer = e; state = λ w e. absurd (never w e) }

-- a rung: the test is the condition
rung : (s : State) (a b : Bool) (why : Refusal) (behind : Option Refusal) (r : Step) → a ≡ b → Says s behind r → Says s (if a then Some why else behind) (if b then refuse s why else r)
rung s a true why behind r e h = rw e (refuses s why)
rung s a false why behind r e h = rw e h

-- a branch that refuses nothing
split : (s : State) (b : Bool) (x y : Step) → refusal_in x.answer ≡ None → refusal_in y.answer ≡ None → Says s None (if b then x else y)
split s true x y e f = accepts s x e
split s false x y e f = accepts s y f

-- a number out of range reads as free
thread_free : (s : State) (i : ℕ) → (leb (length s.threads) i || not (at s.threads i).used) ≡ not (at s.threads i).used
thread_free s i = elim (test (leb (length s.threads) i)) [
  | is e ↦ rw (e, get_or-eq_default s.threads free (leb-true (length s.threads) i e))
  | isnt e ↦ rw e
]

sem_free : (s : State) (k : ℕ) → (leb (length s.sems) k || not (sem_at s.sems k).used) ≡ not (sem_at s.sems k).used
sem_free s k = elim (test (leb (length s.sems) k)) [
  | is e ↦ rw (e, get_or-eq_default s.sems free_sem (leb-true (length s.sems) k e))
  | isnt e ↦ rw e
]

-- the lock is on when its count is above 0
above_zero : (n : ℕ) → not (eqb n 0) ≡ ltb 0 n
above_zero n = elim (ℕ_discrete n 0) [
  | yes e ↦ rw e
  | no e ↦ rw (ne_eqb n 0 e, lt-ltb 0 n (omega arith))
]

zero_is : (n : ℕ) → eqb n 0 ≡ not (ltb 0 n)
zero_is n = elim (ℕ_discrete n 0) [
  | yes e ↦ rw e
  | no e ↦ rw (ne_eqb n 0 e, lt-ltb 0 n (omega arith))
]

bound_is : (s : State) (i : ℕ) → (eqb i 0 || (eqb i s.running && locked s)) ≡ bound s i
bound_is s i = rw (above_zero s.lock)

may_not : (s : State) → (eqb s.running 0 || locked s) ≡ may_not_wait s
may_not s = rw (above_zero s.lock)

cannot : (s : State) (n : ℕ) → cannot_wait s n ≡ (never_wait n || may_not_wait s)
cannot s n = go (eqb n 0) (eqb s.running 0)
  where
    go : (a b : Bool) → (a || b || locked s) ≡ (a || (b || ltb 0 s.lock))
    go true b = refl
    go false true = refl
    go false false = above_zero s.lock

locked_or : (s : State) (b : Bool) → (locked s || b) ≡ (ltb 0 s.lock || b)
locked_or s b = rw (above_zero s.lock)

-- who waits on semaphore k stands in its line
on_line : (k : ℕ) (w : Wait) (suspended : Bool) (p : ℕ) → on_semaphore k w ≡ same (wait_line w suspended p) (waiters k)
on_line k (Nothing c) true p = refl
on_line k (Nothing c) false p = refl
on_line k (Delay c) suspended p = refl
on_line k (Receive c) suspended p = refl
on_line k (Send to c) suspended p = refl
on_line k (Semaphore on c) suspended p = refl

stands : (k : ℕ) (t : Thread) → waits_on k t ≡ in_line (waiters k) t
stands k t = elim (test t.used) [
  | is e ↦ rw (e, on_line k t.wait t.suspended t.priority)
  | isnt e ↦ rw e
]

over_is : (s : State) (k n : ℕ) → units_over s k n ≡ n - served_by s k n
over_is s k n = omega (arith, count_as (waits_on k) (in_line (waiters k)) free s.threads (λ i. stands k (at s.threads i)))

too_many_is : (s : State) (k n : ℕ) → minus5 s (Ask.Post k n) ≡ too_many s k n
too_many_is s k n = rw (over_is s k n)

-- a call that must wait, in one of two branches
must : (s : State) (n : ℕ) (w : ℕ → Wait) (x : ℕ) → Says s (if cannot_wait s n then Some BadOperation else None) (must_wait s n w x)
unfolding must_wait block
must s n w x = rung s (cannot_wait s n) (never_wait n || may_not_wait s) BadOperation None _ (cannot s n) (accepts s _ refl)

must_if : (s : State) (b : Bool) (n : ℕ) (w : ℕ → Wait) (x : ℕ) (r : Step) → refusal_in r.answer ≡ None
    → Says s (if b && cannot_wait s n then Some BadOperation else None) (if b then must_wait s n w x else r)
must_if s true n w x r e = must s n w x
must_if s false n w x r e = accepts s r e

must_unless : (s : State) (b c : Bool) (n : ℕ) (w : ℕ → Wait) (x : ℕ) (r : Step) → c ≡ not b → refusal_in r.answer ≡ None
    → Says s (if c && cannot_wait s n then Some BadOperation else None) (if b then r else must_wait s n w x)
must_unless s true c n w x r q e = rw q (accepts s r e)
must_unless s false c n w x r q e = rw q (must s n w x)

-- two rungs of one refusal
either : (s : State) (a b : Bool) (why : Refusal) (behind : Option Refusal) (r : Step)
    → Says s (if a then Some why else (if b then Some why else behind)) r → Says s (if a || b then Some why else behind) r
either s true b why behind r h = h
either s false b why behind r h = h

outcome_none : (o : Outcome.Outcome) (x : ℕ) → refusal_in (outcome_answer o x) ≡ None
outcome_none Outcome.TheVariants.Done x = refl
outcome_none Outcome.TheVariants.NoneYet x = refl
outcome_none Outcome.TheVariants.Failed x = refl

-- EACH OPERATION

posts : (s : State) (k n : ℕ) → Says s (refusal s (Ask.PostFromInterrupt k n)) (do_post_from_interrupt s k n)
unfolding refusal first_given do_post_from_interrupt do_post
posts s k n = elim (test (no_sem s k)) [
  | is e ↦ rw (sem_free s k, e) (refuses s BadSemaphore)
  | isnt e ↦ rw (sem_free s k, e, over_is s k n, above_zero s.lock) (last (ltb 0 s.lock) (too_many s k n))
]
  where
    last : (a b : Bool) → Says s (if b || a then Some BadOperation else None) (if a then refuse s BadOperation else (if b then refuse s BadOperation else accept (posted s k n) 0))
    last true true = refuses s BadOperation
    last true false = refuses s BadOperation
    last false true = refuses s BadOperation
    last false false = accepts s _ refl

pub says : (s : State) (q : Request) → Says s (refusal s q) (step s q)
unfolding refusal first_given step do_yield do_create do_delete do_suspend do_resume do_delay do_cancel do_set_priority do_set_turn break_off do_send do_send_from_interrupt do_receive do_make do_drop do_pend do_abort do_post do_post_from_interrupt do_lock do_unlock do_tick do_outcome do_ticks do_nearest block
says s Ask.Yield = if_case (Says s None) (ltb 0 s.lock) (λ e. accepts s _ refl) (λ e. accepts s _ refl)
says s (Ask.Create i p n) = search (rung, accepts) depth 8
says s (Ask.Delete i) = search (rung, accepts, thread_free, bound_is) depth 8
says s (Ask.Suspend i) = search (rung, split, accepts, thread_free, bound_is) depth 8
says s (Ask.Resume i) = search (rung, split, accepts, thread_free) depth 8
says s (Ask.Delay n) = search (rung, accepts, may_not) depth 8
says s (Ask.Cancel i) = search (rung, accepts, thread_free) depth 8
says s (Ask.Send i n x) = search (rung, either, must_if, thread_free) depth 8
says s (Ask.SendFromInterrupt i x) = search (rung, accepts, thread_free, locked_or) depth 8
says s (Ask.Receive n) = search must_unless depth 8
says s (Ask.Make k n) = search (rung, accepts) depth 8
says s (Ask.Drop k) = search (rung, accepts, sem_free) depth 8
says s (Ask.Pend k n) = search (rung, must_unless, sem_free, zero_is) depth 8
says s (Ask.Abort i) = search (rung, accepts, thread_free) depth 8
says s (Ask.Post k n) = search (rung, accepts, sem_free, too_many_is) depth 8
says s (Ask.PostFromInterrupt k n) = posts s k n
says s Ask.Lock = search (rung, accepts) depth 8
says s Ask.Unlock = search (rung, accepts) depth 8
says s Ask.Tick = accepts s _ refl
says s (Ask.Outcome i) = search (rung, accepts, thread_free, outcome_none) depth 8
says s (Ask.Ticks n) = search (rung, accepts) depth 8
says s Ask.Nearest = accepts s _ refl
says s (Ask.SetPriority i p) = search (rung, split, accepts, thread_free) depth 8
says s (Ask.SetTurn i n) = search (rung, accepts, thread_free) depth 8
