-- What the tests of lines say, and which changes of a record leave its line alone: by cases on the wait. Assumes nothing.
use Rattle.std.specs.Prelude.{if◌then◌else◌}
use mathlib.Core.Bool.{Bool, true, false, not, ◌&&◌}
use mathlib.Core.Path.{◌≡◌, refl, ap, sym}
use mathlib.Core.Logic.{◌↔◌}
use Prim.Native.Nat.{ℕ}
use lib.Dec.{eqb}
use borrow.Author.Tests.{eqb-true, eq-eqb, not-false}
use Rattle.rules.specs.State.{waiting, is_ready, with_counter, with_counter_of, with_suspended, with_priority}
use Rattle.rules.specs.Test.{is_nowhere}
use Rattle.rules.specs.Lines.{Line, nowhere, ready, waiters, senders, same, wait_line, line, in_line, filled}
use Rattle.rules.specs.declared.Thread.{Thread}
use Rattle.rules.specs.declared.Wait.{Wait}
use Rattle.rules.specs.declared.Wait.TheVariants.{Nothing, Delay, Receive, Send, Semaphore}
use Rattle.laws.proofs.Split.{is, isnt, test, clash, pass_together, and_true, and_both, if_case}
use Rattle.laws.proofs.Reflect.{reflect}

pub same_eq : (a b : Line) → same a b ≡ true → a ≡ b
same_eq nowhere b e = absurd (clash e refl)
same_eq (ready p) nowhere e = absurd (clash e refl)
same_eq (ready p) (ready q) e = ap ready (eqb-true p q e)
same_eq (ready p) (waiters q) e = absurd (clash e refl)
same_eq (ready p) (senders q) e = absurd (clash e refl)
same_eq (waiters p) nowhere e = absurd (clash e refl)
same_eq (waiters p) (ready q) e = absurd (clash e refl)
same_eq (waiters p) (waiters q) e = ap waiters (eqb-true p q e)
same_eq (waiters p) (senders q) e = absurd (clash e refl)
same_eq (senders p) nowhere e = absurd (clash e refl)
same_eq (senders p) (ready q) e = absurd (clash e refl)
same_eq (senders p) (waiters q) e = absurd (clash e refl)
same_eq (senders p) (senders q) e = ap senders (eqb-true p q e)

pub same_nowhere : (a : Line) → same a nowhere ≡ false
same_nowhere nowhere = refl
same_nowhere (ready p) = refl
same_nowhere (waiters p) = refl
same_nowhere (senders p) = refl

-- a line is itself, and who is in it is somewhere
pub same_self : (a : Line) → is_nowhere a ≡ false → same a a ≡ true
same_self nowhere e = absurd (clash refl e)
same_self (ready p) e = eq-eqb p p refl
same_self (waiters k) e = eq-eqb k k refl
same_self (senders i) e = eq-eqb i i refl

pub same_somewhere : (a b : Line) → same a b ≡ true → is_nowhere a ≡ false
same_somewhere nowhere b e = absurd (clash e refl)
same_somewhere (ready p) b e = refl
same_somewhere (waiters k) b e = refl
same_somewhere (senders i) b e = refl

pub is_nowhere_lem : (a : Line) → is_nowhere a ≡ true → a ≡ nowhere
is_nowhere_lem nowhere e = refl
is_nowhere_lem (ready p) e = absurd (clash e refl)
is_nowhere_lem (waiters k) e = absurd (clash e refl)
is_nowhere_lem (senders i) e = absurd (clash e refl)

pub lines_apart : (a b c : Line) → same a c ≡ true → same b c ≡ false → same a b ≡ false
lines_apart a b c p q = elim (test (same a b)) [
  | is e ↦ absurd (clash p (rw (same_eq a b e) q))
  | isnt e ↦ e
]

-- WHO IS IN A READY LINE

wait_out : (p : ℕ) (u s : Bool) (w : Wait) (q : ℕ) → waiting w ≡ true → same (if u then wait_line w s q else nowhere) (ready p) ≡ false
wait_out p false s w q e = refl
wait_out p true s (Nothing n) q e = absurd (clash e refl)
wait_out p true s (Delay n) q e = refl
wait_out p true s (Receive n) q e = refl
wait_out p true s (Send k n) q e = refl
wait_out p true s (Semaphore k n) q e = refl

pub waiting_out : (p : ℕ) (t : Thread) → waiting t.wait ≡ true → in_line (ready p) t ≡ false
waiting_out p t e = wait_out p t.used t.suspended t.wait t.priority e

-- the members of a ready line are the ready threads of its priority
pub in_ready : (p : ℕ) (t : Thread) → in_line (ready p) t ≡ true ↔ ((is_ready t ≡ true) × (t.priority ≡ p))
in_ready p t = go t.used t.suspended t.wait t.priority
  where
    go : (u s : Bool) (w : Wait) (q : ℕ) → same (if u then wait_line w s q else nowhere) (ready p) ≡ true ↔ ((u && not s && not (waiting w) ≡ true) × (q ≡ p))
    go false s w q = (λ e. absurd (clash e refl), λ h. h.0)
    go true true (Nothing n) q = (λ e. absurd (clash e refl), λ h. h.0)
    go true false (Nothing n) q = (λ e. (refl, eqb-true q p e), λ h. eq-eqb q p h.1)
    go true s (Delay n) q = (λ e. absurd (clash e refl), λ h. (and_true (not s) false h.0).1)
    go true s (Receive n) q = (λ e. absurd (clash e refl), λ h. (and_true (not s) false h.0).1)
    go true s (Send to n) q = (λ e. absurd (clash e refl), λ h. (and_true (not s) false h.0).1)
    go true s (Semaphore on n) q = (λ e. absurd (clash e refl), λ h. (and_true (not s) false h.0).1)

-- who stands in the ready line is ready and of its priority
pub in_rank : (p : ℕ) (t : Thread) → is_ready t && eqb t.priority p ≡ in_line (ready p) t
in_rank p t = pass_together _ _ (
  λ e. let a = and_true (is_ready t) (eqb t.priority p) e in (in_ready p t).1 (a.0, eqb-true t.priority p a.1),
  λ e. let a = (in_ready p t).0 e in and_both _ _ a.0 (eq-eqb t.priority p a.1),
)

pub ready_used : (t : Thread) → is_ready t ≡ true → t.used ≡ true
ready_used t r = let x = simp reflect at r in x.0.0

pub unready_out : (p : ℕ) (t : Thread) → is_ready t ≡ false → in_line (ready p) t ≡ false
unready_out p t e = elim (test (in_line (ready p) t)) [
  | is m ↦ absurd (clash ((in_ready p t).0 m).0 e)
  | isnt m ↦ m
]

pub free_out : (l : Line) (t : Thread) → t.used ≡ false → in_line l t ≡ false
free_out l t e = rw e

suspend_out : (p : ℕ) (u : Bool) (w : Wait) (q : ℕ) → same (if u then wait_line w true q else nowhere) (ready p) ≡ false
suspend_out p false w q = refl
suspend_out p true (Nothing n) q = refl
suspend_out p true (Delay n) q = refl
suspend_out p true (Receive n) q = refl
suspend_out p true (Send k n) q = refl
suspend_out p true (Semaphore k n) q = refl

pub suspended_out : (p : ℕ) (t : Thread) → t.suspended ≡ true → in_line (ready p) t ≡ false
suspended_out p t e = rw e (suspend_out p t.used t.wait t.priority)

-- WHAT LEAVES THE LINE ALONE

pub waiting_counter : (n : ℕ) (w : Wait) → waiting (with_counter_of n w) ≡ waiting w
waiting_counter n (Nothing m) = refl
waiting_counter n (Delay m) = refl
waiting_counter n (Receive m) = refl
waiting_counter n (Send k m) = refl
waiting_counter n (Semaphore k m) = refl

wait_line_counter : (n : ℕ) (w : Wait) (s : Bool) (p : ℕ) → wait_line (with_counter_of n w) s p ≡ wait_line w s p
wait_line_counter n (Nothing m) s p = refl
wait_line_counter n (Delay m) s p = refl
wait_line_counter n (Receive m) s p = refl
wait_line_counter n (Send k m) s p = refl
wait_line_counter n (Semaphore k m) s p = refl

pub line_counter : (n : ℕ) (t : Thread) → line (with_counter n t) ≡ line t
line_counter n t = ap (λ l. if t.used then l else nowhere) (wait_line_counter n t.wait t.suspended t.priority)

pub ready_counter : (n : ℕ) (t : Thread) → is_ready (with_counter n t) ≡ is_ready t
ready_counter n t = ap (λ b. t.used && not t.suspended && not b) (waiting_counter n t.wait)

-- what a counter does not bear on is the same of a filled thread
pub filled_field : {A : Type 0} (f : Thread → A) (t : Thread) → f (with_counter t.turn t) ≡ f t → f (filled t) ≡ f t
filled_field f t e = if_case (λ (u : Thread). f u ≡ f t) (is_ready t) (λ a. e) (λ a. refl)

pub line_filled : (t : Thread) → line (filled t) ≡ line t
line_filled t = filled_field line t (line_counter t.turn t)

-- a priority, unless a ready thread gets another one
pub line_priority : (p : ℕ) (t : Thread) → is_ready t && not (eqb t.priority p) ≡ false → line (with_priority p t) ≡ line t
line_priority p t e = go t.used t.suspended t.wait t.priority e
  where
    go : (u s : Bool) (w : Wait) (q : ℕ) → u && not s && not (waiting w) && not (eqb q p) ≡ false → ◌≡◌ {A = Line} (if u then wait_line w s p else nowhere) (if u then wait_line w s q else nowhere)
    go false s w q e = refl
    go true true (Nothing n) q e = refl
    go true false (Nothing n) q e = ap ready (sym (eqb-true q p (not-false (eqb q p) e)))
    go true s (Delay n) q e = refl
    go true s (Receive n) q e = refl
    go true s (Send k n) q e = refl
    go true s (Semaphore k n) q e = refl

-- a suspension, where the thread waits
pub line_suspended : (b : Bool) (t : Thread) → waiting t.wait ≡ true → line (with_suspended b t) ≡ line t
line_suspended b t e = go t.used t.suspended t.wait e
  where
    go : (u s : Bool) (w : Wait) → waiting w ≡ true → ◌≡◌ {A = Line} (if u then wait_line w b t.priority else nowhere) (if u then wait_line w s t.priority else nowhere)
    go false s w e = refl
    go true s (Nothing n) e = absurd (clash e refl)
    go true s (Delay n) e = refl
    go true s (Receive n) e = refl
    go true s (Send k n) e = refl
    go true s (Semaphore k n) e = refl

-- a thread in use that is neither suspended nor ready waits
pub unready_waits : (t : Thread) → t.used ≡ true → t.suspended ≡ false → is_ready t ≡ false → waiting t.wait ≡ true
unready_waits t u n e = elim (test (waiting t.wait)) [
  | is w ↦ w
  | isnt w ↦ absurd (clash (rw (u, n, w)) e)
]
