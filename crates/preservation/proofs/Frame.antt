-- A step neither adds nor takes away a record, and with lock above 0 after it the running thread is the one before: every operation
-- is moves and edits, and only settling with lock 0 says anew who runs. Assumes nothing.
use Rattle.std.specs.Prelude.{if◌then◌else◌}
use mathlib.Core.Bool.{Bool, true, false}
use mathlib.Core.Path.{◌≡◌, refl, sym, ◌∙◌}
use mathlib.Core.List.{List}
use Prim.Native.Nat.{ℕ, zero, suc}
use borrow.Author.Tests.{eqb-true}
use lib.Dec.{eqb}
use lib.ListN.{length, set, length-set}
use Rattle.rules.specs.Board.{Board}
use Rattle.rules.specs.State.{State, On, with_threads, with_sems, with_lock, edit}
use Rattle.rules.specs.Lines.{Line, first, move, settle}
use Rattle.rules.specs.Waiting.{Step, end_wait, serve, block, must_wait}
use Rattle.rules.specs.Threads.{do_yield, do_create, deleted, do_delete, do_suspend, do_resume, do_delay, break_off, do_cancel, do_set_priority, do_set_turn}
use Rattle.rules.specs.Mail.{delivered, do_send, do_send_from_interrupt, emptied, do_receive}
use Rattle.rules.specs.Semaphores.{do_make, do_drop, do_pend, do_abort, posted, do_post, do_post_from_interrupt}
use Rattle.rules.specs.Time.{charge, charged, count_down, timeouts, do_lock, do_unlock, do_tick, do_outcome}
use Rattle.rules.specs.Sleep.{ticks, do_ticks, do_nearest}
use Rattle.rules.specs.Steps.{step}
use Rattle.rules.specs.declared.Thread.{Thread}
use Rattle.rules.specs.declared.Sem.{Sem}
use Rattle.rules.specs.declared.Outcome as Outcomes
use Rattle.rules.specs.Answers.{Answer}
use Rattle.rules.specs.declared.Request.{Request}
use Rattle.rules.specs.declared.Request.TheVariants as Ask
use Rattle.laws.proofs.Split.{if_case}
use Rattle.laws.proofs.Members.{length_edit}
use Rattle.laws.proofs.Moves.{length_move}

-- THREADS

Long : List Thread → List Thread → Type 0
Long ts us = length us ≡ length ts

long_same : (ts : List Thread) → Long ts ts
unfolding Long
long_same ts = refl

long_if : (ts : List Thread) (b : Bool) (us vs : List Thread) → Long ts us → Long ts vs → Long ts (if b then us else vs)
long_if ts true us vs p q = p
long_if ts false us vs p q = q

long_move : (ts us : List Thread) (i : ℕ) (g : Thread → Thread) → Long ts us → Long ts (move i g us)
unfolding Long
long_move ts us i g p = length_move i g us ∙ p

long_edit : (ts us : List Thread) (i : ℕ) (g : Thread → Thread) → Long ts us → Long ts (edit i g us)
unfolding Long
long_edit ts us i g p = length_edit us i g ∙ p

long_serve : (ts us : List Thread) (n : ℕ) (l : Line) (o : Outcomes.Outcome) → Long ts us → Long ts (serve n l o us)
unfolding serve end_wait
long_serve ts us zero l o p = p
long_serve ts us (suc n) l o p = long_serve ts (end_wait (first l us) o 0 us) n l o (long_move ts us _ _ p)

long_timeouts : (ts us : List Thread) (n : ℕ) → Long ts us → Long ts (timeouts n us)
unfolding timeouts count_down end_wait
long_timeouts ts us zero p = p
long_timeouts ts us (suc n) p = let q = long_timeouts ts us n p in search (long_if, long_move, long_edit)

-- STATES

record Framed (s s' : State) : Type 0 where
  pub threads : Long s.threads s'.threads
  pub sems : length s'.sems ≡ length s.sems
  pub running : (s'.lock ≡ 0 → ⊥) → s'.running ≡ s.running

framed_threads : (s : State) (us : List Thread) → Long s.threads us → Framed s (with_threads us s)
framed_threads s us h = record { threads = h; sems = refl; running = λ n. refl }

framed_sem : (s : State) (us : List Thread) (k : ℕ) (e : Sem) → Long s.threads us → Framed s (with_sems (set s.sems k e) (with_threads us s))
framed_sem s us k e h = record { threads = h; sems = length-set s.sems k e; running = λ n. refl }

framed_count : (s : State) (k : ℕ) (e : Sem) → Framed s (with_sems (set s.sems k e) s)
framed_count s k e = framed_sem s s.threads k e (long_same s.threads)

framed_lock : (s : State) (n : ℕ) → Framed s (with_lock n s)
unfolding Long
framed_lock s n = record { threads = refl; sems = refl; running = λ n. refl }

framed_settle : (s s' : State) → Framed s s' → Framed s (settle s')
unfolding settle
framed_settle s s' f = if_case (Framed s) (eqb s'.lock 0)
    (λ e. record { threads = f.threads; sems = f.sems; running = λ n. absurd (n (eqb-true s'.lock 0 e)) })
    (λ e. f)

-- STEPS

Firm : State → Step → Type 0
Firm s r = Framed s r.state

firm_if : (s : State) (b : Bool) (x y : Step) → Firm s x → Firm s y → Firm s (if b then x else y)
firm_if s true x y f g = f
firm_if s false x y f g = g

firm_same : (s : State) (a : Answer) → Firm s (record { state = s; answer = a })
unfolding Firm Long
firm_same s a = record { threads = refl; sems = refl; running = λ n. refl }

firm_settle : (s s' : State) (a : Answer) → Framed s s' → Firm s (record { state = settle s'; answer = a })
unfolding Firm
firm_settle s s' a f = framed_settle s s' f

ruleset firm = (long_same, long_if, long_move, long_edit, long_serve, long_timeouts, framed_threads, framed_sem, framed_count, framed_lock, firm_if, firm_same, firm_settle)

-- TICKS

framed_trans : (s u w : State) → Framed s u → Framed u w → u.lock ≡ w.lock → Framed s w
unfolding Long
framed_trans s u w f g e = record { threads = g.threads ∙ f.threads; sems = g.sems ∙ f.sems; running = λ n. g.running n ∙ f.running (λ z. n (sym e ∙ z)) }

tick_lock : (s : State) → (do_tick s).state.lock ≡ s.lock
unfolding do_tick settle
tick_lock s = if_case (λ (u : State). u.lock ≡ s.lock) (eqb s.lock 0) (λ e. refl) (λ e. refl)

pub ticks_lock : (n : ℕ) (s : State) → (ticks n s).lock ≡ s.lock
unfolding ticks
ticks_lock zero s = refl
ticks_lock (suc n) s = ticks_lock n (do_tick s).state ∙ tick_lock s

firm_tick : (s : State) → Firm s (do_tick s)
unfolding do_tick charge charged
firm_tick s = search firm depth 10

framed_ticks : (n : ℕ) (s : State) → Framed s (ticks n s)
unfolding ticks Long Firm
framed_ticks zero s = record { threads = refl; sems = refl; running = λ n. refl }
framed_ticks (suc n) s = framed_trans s (do_tick s).state (ticks n (do_tick s).state) (firm_tick s) (framed_ticks n (do_tick s).state) (sym (ticks_lock n (do_tick s).state))

firm_ticks : (s : State) (n : ℕ) (a : Answer) → Firm s (record { state = ticks n s; answer = a })
unfolding Firm
firm_ticks s n a = framed_ticks n s

-- EVERY STEP

firm_step : (s : State) (q : Request) → Firm s (step s q)
unfolding step end_wait block must_wait do_yield do_create deleted do_delete do_suspend do_resume do_delay break_off do_cancel do_set_priority do_set_turn delivered do_send do_send_from_interrupt emptied do_receive do_make do_drop do_pend do_abort posted do_post do_post_from_interrupt charge charged do_lock do_unlock do_tick do_outcome do_ticks do_nearest
firm_step s Ask.Yield = search firm depth 10
firm_step s (Ask.Create i p n) = search firm depth 10
firm_step s (Ask.Delete i) = search firm depth 10
firm_step s (Ask.Suspend i) = search firm depth 10
firm_step s (Ask.Resume i) = search firm depth 10
firm_step s (Ask.Delay n) = search firm depth 10
firm_step s (Ask.Cancel i) = search firm depth 10
firm_step s (Ask.Send i n x) = search firm depth 10
firm_step s (Ask.SendFromInterrupt i x) = search firm depth 10
firm_step s (Ask.Receive n) = search firm depth 10
firm_step s (Ask.Make k n) = search firm depth 10
firm_step s (Ask.Drop k) = search firm depth 10
firm_step s (Ask.Pend k n) = search firm depth 10
firm_step s (Ask.Abort i) = search firm depth 10
firm_step s (Ask.Post k n) = search firm depth 10
firm_step s (Ask.PostFromInterrupt k n) = search firm depth 10
firm_step s Ask.Lock = search firm depth 10
firm_step s Ask.Unlock = search firm depth 10
firm_step s Ask.Tick = search firm depth 10
firm_step s (Ask.Outcome i) = search firm depth 10
firm_step s (Ask.Ticks n) = search (firm, firm_ticks) depth 10
firm_step s Ask.Nearest = search firm depth 10
firm_step s (Ask.SetPriority i p) = search firm depth 10
firm_step s (Ask.SetTurn i n) = search firm depth 10

-- a step neither adds nor takes away a record
pub on_kept : (b : Board) (s : State) (q : Request) → On b s → On b (step s q).state
unfolding Firm Long
on_kept b s q o = let f = firm_step s q in record { threads = f.threads ∙ o.threads; sems = f.sems ∙ o.sems }

-- "With lock above 0 it doesn't change."
pub running_kept : (s : State) (q : Request) → ((step s q).state.lock ≡ 0 → ⊥) → (step s q).state.running ≡ s.running
unfolding Firm
running_kept s q n = (firm_step s q).running n

-- nor do ticks
pub on_ticks : (b : Board) (s : State) (n : ℕ) → On b s → On b (ticks n s)
unfolding Long
on_ticks b s n o = let f = framed_ticks n s in record { threads = f.threads ∙ o.threads; sems = f.sems ∙ o.sems }
