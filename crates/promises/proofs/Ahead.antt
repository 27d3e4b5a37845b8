-- The value beside code 1 is what the bytes say: only Delay, Send, Receive, Pend and Outcome answer 1, a call that waits says how many
-- threads stand in its line, and a thread stands in a line of senders or of waiters exactly when its record says so. Assumes nothing.
use Rattle.std.specs.Prelude.{if◌then◌else◌, Ok}
use mathlib.Core.Bool.{Bool, true, false, ◌&&◌, ◌||◌}
use mathlib.Core.Path.{◌≡◌, refl, ap, sym, ◌∙◌}
use mathlib.Core.List.{List, [], ◌∷◌, map}
use Prim.Native.Nat.{ℕ}
use native.Mathlib.Omega.{arith}
use lib.Dec.{eqb}
use lib.IntN.{pos, negsuc}
use lib.ListN.{length}
use Rattle.rules.specs.Basic.{bit, count}
use Rattle.rules.specs.Board.{Board}
use Rattle.rules.specs.State.{State, caller}
use Rattle.rules.specs.Lines.{Line, nowhere, waiters, senders, same, wait_line, in_line, line_length}
use Rattle.rules.specs.Table.{kind_of, object_of, thread_row, encode_with, encode, rows, decode}
use Rattle.rules.specs.Answers.{code_of, value_of}
use Rattle.rules.specs.Waiting.{Step, refuse, ahead, block, may_not_wait, never_wait, wait_counter, must_wait}
use Rattle.rules.specs.Threads.{do_yield, do_create, do_delete, do_suspend, do_resume, do_delay, break_off, do_cancel, do_set_priority, do_set_turn}
use Rattle.rules.specs.Mail.{do_send, do_send_from_interrupt, do_receive}
use Rattle.rules.specs.Semaphores.{do_make, do_drop, do_pend, do_abort, do_post, do_post_from_interrupt}
use Rattle.rules.specs.Time.{do_lock, do_unlock, do_tick, outcome_answer, do_outcome}
use Rattle.rules.specs.Sleep.{do_ticks, do_nearest}
use Rattle.rules.specs.Steps.{step}
use Rattle.rules.specs.Sound.{SoundTable}
use Rattle.rules.specs.declared.Thread.{Thread}
use Rattle.rules.specs.declared.Wait.{Wait}
use Rattle.rules.specs.declared.Wait.TheVariants.{Nothing, Delay, Receive, Send, Semaphore}
use Rattle.rules.specs.declared.Outcome as Outcome
use Rattle.rules.specs.declared.Reply.TheVariants.{Done}
use Rattle.rules.specs.declared.Refusal.{Refusal}
use Rattle.rules.specs.declared.Refusal.TheVariants.{BadOperation}
use Rattle.rules.specs.declared.Request.{Request}
use Rattle.rules.specs.declared.Request.TheVariants as Ask
use Rattle.laws.proofs.Lines.{ready_used}
use Rattle.laws.proofs.Placed.{count_nowhere}
use Rattle.layout.proofs.Records.{thread_wide}
use Rattle.layout.proofs.RoundTrip.{on_decode, rows_flat}
use Rattle.request.specs.Written.{fields_of}
use Rattle.promises.specs.Ahead.{waits_for, already, told}
use Rattle.promises.proofs.Exactly.{below_zero}

-- WHAT THE BYTES SAY

-- a thread's record says that it waits to send, or on a semaphore, exactly when it stands in that line
row_says : (n : ℕ) (u s : Bool) (w : Wait) (p : ℕ) → let own = if u then wait_line w s p else nowhere in
    ((eqb (bit u) 1 && eqb (kind_of w) 3 && eqb (object_of w) n) ≡ same own (senders n)) × ((eqb (bit u) 1 && eqb (kind_of w) 4 && eqb (object_of w) n) ≡ same own (waiters n))
row_says n false s w p = (refl, refl)
row_says n true true (Nothing c) p = (refl, refl)
row_says n true false (Nothing c) p = (refl, refl)
row_says n true s (Delay c) p = (refl, refl)
row_says n true s (Receive c) p = (refl, refl)
row_says n true s (Send to c) p = (refl, refl)
row_says n true s (Semaphore on c) p = (refl, refl)

says : (n : ℕ) (t : Thread) → (waits_for 3 n (thread_row t) ≡ in_line (senders n) t) × (waits_for 4 n (thread_row t) ≡ in_line (waiters n) t)
unfolding thread_row
says n t = row_says n t.used t.suspended t.wait t.priority

-- the records of the threads, and who stands in a line
module _ (kind object : ℕ) (l : Line) (same_test : (t : Thread) → waits_for kind object (thread_row t) ≡ in_line l t) where
  counted : (ts : List Thread) → count (waits_for kind object) (map thread_row ts) ≡ line_length l ts
  counted [] = refl
  counted (t ∷ ts) = omega (arith, ap bit (same_test t), counted ts)

  in_line_lem : (b : Board) (t : List ℕ) → SoundTable b t → line_length l (decode b t).threads ≡ already b t kind object
  unfolding encode_with encode
  in_line_lem b t σ =
      let ts = (decode b t).threads in
      let all : rows (length ts) t ≡ map thread_row ts = ap (rows (length ts)) σ.meaning ∙ rows_flat thread_row thread_wide ts _ in
      sym (ap (λ n. count (waits_for kind object) (rows n t)) (sym (on_decode b t).threads) ∙ ap (count (waits_for kind object)) all ∙ counted ts)

-- WHAT A STEP SAYS BESIDE CODE 1

-- where a step answers 1, its value is n
pub record Tells (n : ℕ) (x : Step) : Type 0 where
  pub value : code_of x.answer ≡ pos 1 → value_of x.answer ≡ n

refuses : (n : ℕ) (s : State) (why : Refusal) → Tells n (refuse s why)
refuses n s why = record { value = λ e. let x = below_zero why in let c : negsuc x.0 ≡ pos 1 = rw x.1 at e in let z : ◌≡◌ {A = ℕ} 0 1 = cc in absurd (omega arith) }

accepts : (n : ℕ) (s : State) (v : ℕ) → Tells n (record { state = s; answer = Ok (Done v) })
accepts n s v = record { value = λ e. let z : ◌≡◌ {A = ℕ} 0 1 = cc in absurd (omega arith) }

branch : (n : ℕ) (b : Bool) (x y : Step) → Tells n x → Tells n y → Tells n (if b then x else y)
branch n true x y p q = p
branch n false x y p q = q

waits : (s : State) (w : Wait) (x n : ℕ) → ahead s w ≡ n → Tells n (block s w x)
unfolding block
waits s w x n h = record { value = λ e. h }

must : (s : State) (m : ℕ) (w : ℕ → Wait) (x n : ℕ) → ((c : ℕ) → ahead s (w c) ≡ n) → Tells n (must_wait s m w x)
unfolding must_wait
must s m w x n h = branch n (never_wait m || may_not_wait s) _ _ (refuses n s BadOperation) (waits s (w (wait_counter m)) x n (h (wait_counter m)))

outcome : (s : State) (o : Outcome.Outcome) (x : ℕ) → Tells 0 (record { state = s; answer = outcome_answer o x })
outcome s Outcome.TheVariants.Done x = record { value = λ e. let z : ◌≡◌ {A = ℕ} 0 1 = cc in absurd (omega arith) }
outcome s Outcome.TheVariants.NoneYet x = record { value = λ e. refl }
outcome s Outcome.TheVariants.Failed x = record { value = λ e. refl }

-- EACH OPERATION

module _ (b : Board) (t : List ℕ) (σ : SoundTable b t) where
  abbrev s : State
  s = decode b t

  running_used : (caller s).used ≡ true
  running_used = ready_used (caller s) σ.state.runs

  -- who is ahead in each kind of wait
  ahead_send : (i c : ℕ) → ahead s (Send i c) ≡ already b t 3 i
  ahead_send i c = rw running_used (in_line_lem 3 i (senders i) (λ x. (says i x).0) b t σ)

  ahead_pend : (k c : ℕ) → ahead s (Semaphore k c) ≡ already b t 4 k
  ahead_pend k c = rw running_used (in_line_lem 4 k (waiters k) (λ x. (says k x).1) b t σ)

  ahead_delay : (c : ℕ) → ahead s (Delay c) ≡ 0
  ahead_delay c = rw running_used (count_nowhere s.threads)

  ahead_receive : (c : ℕ) → ahead s (Receive c) ≡ 0
  ahead_receive c = rw running_used (count_nowhere s.threads)

  pub tells : (q : Request) → Tells (told b t (fields_of q).0 (fields_of q).1) (step s q)
  unfolding step do_yield do_create do_delete do_suspend do_resume do_delay do_cancel do_set_priority do_set_turn break_off do_send do_send_from_interrupt do_receive do_make do_drop do_pend do_abort do_post do_post_from_interrupt do_lock do_unlock do_tick do_outcome do_ticks do_nearest
  tells Ask.Yield = search (branch, accepts) depth 8
  tells (Ask.Create i p n) = search (branch, refuses, accepts) depth 8
  tells (Ask.Delete i) = search (branch, refuses, accepts) depth 8
  tells (Ask.Suspend i) = search (branch, refuses, accepts) depth 8
  tells (Ask.Resume i) = search (branch, refuses, accepts) depth 8
  tells (Ask.Delay n) = search (branch, refuses, waits, ahead_delay) depth 8
  tells (Ask.Cancel i) = search (branch, refuses, accepts) depth 8
  tells (Ask.Send i n x) = search (branch, refuses, accepts, must, ahead_send) depth 8
  tells (Ask.SendFromInterrupt i x) = search (branch, refuses, accepts) depth 8
  tells (Ask.Receive n) = search (branch, accepts, must, ahead_receive) depth 8
  tells (Ask.Make k n) = search (branch, refuses, accepts) depth 8
  tells (Ask.Drop k) = search (branch, refuses, accepts) depth 8
  tells (Ask.Pend k n) = search (branch, refuses, accepts, must, ahead_pend) depth 8
  tells (Ask.Abort i) = search (branch, refuses, accepts) depth 8
  tells (Ask.Post k n) = search (branch, refuses, accepts) depth 8
  tells (Ask.PostFromInterrupt k n) = search (branch, refuses, accepts) depth 8
  tells Ask.Lock = search (branch, refuses, accepts) depth 8
  tells Ask.Unlock = search (branch, refuses, accepts) depth 8
  tells Ask.Tick = search accepts depth 8
  tells (Ask.Outcome i) = search (branch, refuses, outcome) depth 8
  tells (Ask.Ticks n) = search (branch, refuses, accepts) depth 8
  tells Ask.Nearest = search accepts depth 8
  tells (Ask.SetPriority i p) = search (branch, refuses, accepts) depth 8
  tells (Ask.SetTurn i n) = search (branch, refuses, accepts) depth 8
