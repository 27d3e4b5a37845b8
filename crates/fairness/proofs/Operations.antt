-- Every operation but a tick's charge keeps the rank, where the rank's ready set comes out the same: whom it moves is no member, or has
-- left the set. Assumes nothing.
use Rattle.std.specs.Prelude.{if◌then◌else◌, Err}
use mathlib.Core.Bool.{Bool, true, false, true≢false, not, ◌&&◌, ◌||◌}
use mathlib.Core.Path.{◌≡◌, refl, ap, sym, ◌∙◌}
use mathlib.Core.List.{List}
use Prim.Native.Nat.{ℕ, zero, suc, pred, ◌<◌}
use native.Mathlib.Omega.{arith}
use native.Mathlib.Decide.{ℕ_discrete, dec_lt}
use lib.Dec.{eqb, ltb}
use borrow.Author.Tests.{eq-eqb, ltb-false, not-false, not-true}
use lib.ListN.{length, get_or-eq_default}
use Rattle.rules.specs.State.{State, free, at, caller, counter_of, waiting, delaying, receiving, pending, is_ready, with_place, with_counter, with_mail, with_priority, with_turn, with_threads, edit}
use Rattle.rules.specs.Lines.{Line, senders, ready, same, line, in_line, line_length, is_first, first, filled, move, settle}
use Rattle.rules.specs.Answers.{code_of}
use Rattle.rules.specs.Waiting.{Step, accept_threads, ended, end_wait, serve, begun, block, must_wait}
use Rattle.rules.specs.Threads.{bad_ticks, no_thread, do_yield, do_create, deleted, do_delete, stopped, do_suspend, do_resume, do_delay, break_off, do_cancel, do_set_priority, do_set_turn}
use Rattle.rules.specs.Mail.{delivered, do_send, do_send_from_interrupt, emptied, do_receive}
use Rattle.rules.specs.Semaphores.{do_make, do_drop, do_pend, do_abort, posted, do_post, do_post_from_interrupt}
use Rattle.rules.specs.Time.{do_lock, do_unlock, timed_out, count_down, timeouts, do_outcome}
use Rattle.rules.specs.Sleep.{do_ticks, do_nearest}
use Rattle.rules.specs.declared.Thread.{Thread}
use Rattle.rules.specs.declared.Wait.{Wait}
use Rattle.rules.specs.declared.Wait.TheVariants as Waits
use Rattle.rules.specs.declared.Outcome as Outcomes
use Rattle.rules.specs.declared.Outcome.TheVariants.{Done, Failed}
use Rattle.rules.specs.Steps.{step}
use Rattle.rules.specs.declared.Request.{Request}
use Rattle.rules.specs.declared.Request.TheVariants as Ask
use Rattle.rules.specs.Answers.{Answer}
use Rattle.rules.specs.declared.Refusal.TheVariants.{BadTicks}
use Rattle.laws.proofs.Split.{is, isnt, test, clash, and_true, or_false, if_case}
use Rattle.laws.proofs.Lines.{same_eq, line_filled, line_priority, in_ready, waiting_out, unready_out, free_out, suspended_out}
use Rattle.laws.proofs.Members.{in_range}
use Rattle.laws.proofs.Counts.{find_hit}
use Rattle.laws.proofs.Moves.{move_up_field, move_other, move_self, length_move}
use Rattle.fairness.specs.Run.{is_tick, deed_of, is_zero}
use Rattle.fairness.specs.Fair.{moves}
use Rattle.fairness.proofs.Keeps.{Keeps, Same, keeps_refl, keeps_trans, keeps_off, keeps_edit, keeps_move}

-- THE FIRST OF A LINE

-- the first of a line that is no ready line of rank p is no member of the rank
first_out : (p : ℕ) (l : Line) (ts : List Thread) → same l (ready p) ≡ false → in_line (ready p) (at ts (first l ts)) ≡ false
first_out p l ts e = elim (dec_lt (first l ts) (length ts)) [
  | yes h ↦ rw (same_eq (line (at ts (first l ts))) l (and_true _ _ (find_hit (is_first l) free refl ts h)).0) e
  | no h ↦ ap (in_line (ready p)) (get_or-eq_default ts free (omega arith))
]

keeps_serve : (p n : ℕ) (l : Line) (o : Outcomes.Outcome) (ts : List Thread) → same l (ready p) ≡ false → Keeps p ts (serve n l o ts)
unfolding serve end_wait
keeps_serve p zero l o ts e = keeps_refl p ts
keeps_serve p (suc n) l o ts e = keeps_trans p _ _ _ (keeps_move p (first l ts) (ended o 0) ts (first_out p l ts e)) (keeps_serve p n l o (end_wait (first l ts) o 0 ts) e)

-- a free record stays free while a line is served
serve_free : (n : ℕ) (l : Line) (o : Outcomes.Outcome) (ts : List Thread) (i : ℕ) → i < length ts → (at ts i).used ≡ false → (at (serve n l o ts) i).used ≡ false
unfolding serve end_wait
serve_free zero l o ts i h e = e
serve_free (suc n) l o ts i h e = serve_free n l o (end_wait (first l ts) o 0 ts) i (rw (length_move (first l ts) (ended o 0) ts) h) (elim (ℕ_discrete i (first l ts)) [
  | yes q ↦ absurd (clash (and_true _ _ (rw (← q) at (find_hit (is_first l) free refl ts (rw (← q) h)))).0 (free_out l (at ts i) e))
  | no q ↦ rw (move_other (first l ts) i (ended o 0) ts q) (move_up_field (λ t. t.used) (line (at ts (first l ts))) (at ts (first l ts)).place (at ts i) refl ∙ e)
])

-- TIMEOUTS

keeps_count : (p i : ℕ) (ts : List Thread) → Keeps p ts (count_down i ts)
unfolding count_down end_wait
keeps_count p i ts =
    let w = (at ts i).wait in
    if_case (Keeps p ts) (not (waiting w) || eqb (counter_of w) 0) (λ a. keeps_refl p ts) (λ a.
    let out = waiting_out p (at ts i) (not-false _ (or_false _ _ a).0) in
    if_case (Keeps p ts) (eqb (counter_of w) 1) (λ b. keeps_move p i (ended (timed_out w) 0) ts out) (λ b.
    keeps_off p i (with_counter (pred (counter_of w))) ts out))

pub keeps_timeouts : (p n : ℕ) (ts : List Thread) → Keeps p ts (timeouts n ts)
unfolding timeouts
keeps_timeouts p zero ts = keeps_refl p ts
keeps_timeouts p (suc n) ts = keeps_trans p _ _ _ (keeps_timeouts p n ts) (keeps_count p n (timeouts n ts))

-- THE OPERATIONS

unfoldable pub Effect : ℕ → State → Step → Type 0
Effect p s r = Same p s.threads r.state.threads → Keeps p s.threads r.state.threads

pub settle_threads : (s : State) → (settle s).threads ≡ s.threads
unfolding settle
settle_threads s = if_case (λ (u : State). u.threads ≡ s.threads) (eqb s.lock 0) (λ e. refl) (λ e. refl)

or_right : (a b : Bool) → a || b ≡ false → b ≡ false
or_right a b e = (or_false a b e).1

effect_if : (p : ℕ) (s : State) (b : Bool) (x y : Step) → (b ≡ true → Effect p s x) → (b ≡ false → Effect p s y) → Effect p s (if b then x else y)
effect_if p s true x y f g = f refl
effect_if p s false x y f g = g refl

untouched : (p : ℕ) (s : State) (a : Answer) → Effect p s (record { state = s; answer = a })
unfolding Effect
untouched p s a h = keeps_refl p s.threads

settled : (p : ℕ) (s u : State) (a : Answer) → Keeps p s.threads u.threads → Effect p s (record { state = settle u; answer = a })
unfolding Effect
settled p s u a k h = rw (settle_threads u) k

-- the line of a thread that has moved
moved_in : (l : Line) (i : ℕ) (g : Thread → Thread) (ts : List Thread) → i < length ts → in_line l (at (move i g ts) i) ≡ in_line l (g (with_place 0 (at ts i)))
moved_in l i g ts h = rw (move_self i g ts h, line_filled)

-- thread i leaves its ready line for good: it is no member, or the set is not the same
left : (p : ℕ) (s : State) (a : Answer) (i : ℕ) (g : Thread → Thread)
    → (in_line (ready p) (at s.threads i) ≡ true → in_line (ready p) (g (with_place 0 (at s.threads i))) ≡ false)
    → Effect p s (record { state = settle (with_threads (move i g s.threads) s); answer = a })
unfolding Same Effect
left p s a i g h k =
    let u = with_threads (move i g s.threads) s in
    rw (settle_threads u) (elim (test (in_line (ready p) (at s.threads i))) [
      | is m ↦ absurd (clash m (sym (rw (settle_threads u) at (k i)) ∙ moved_in (ready p) i g s.threads (in_range s.threads i (ready p) m) ∙ h m))
      | isnt m ↦ keeps_move p i g s.threads m
    ])

-- a yield with lock 0 is by no member
unlocked : (n : ℕ) (b : Bool) → eqb n 0 && b ≡ false → ltb 0 n ≡ false → b ≡ false
unlocked zero b e z = e
unlocked (suc n) b e z = absurd (omega (arith, ltb-false 0 (suc n) z))

-- a delay, and a wait on a semaphore or for data, is a wait: a thread that waits for nothing is in none of them
waits_in : (kind : Wait → Bool) → ((n : ℕ) → kind (Waits.Nothing n) ≡ false) → (w : Wait) → kind w ≡ true → waiting w ≡ true
waits_in kind h (Waits.Nothing n) e = absurd (clash e (h n))
waits_in kind h (Waits.Delay n) e = refl
waits_in kind h (Waits.Receive n) e = refl
waits_in kind h (Waits.Send to n) e = refl
waits_in kind h (Waits.Semaphore on n) e = refl

delaying_waits : (w : Wait) → delaying w ≡ true → waiting w ≡ true
delaying_waits = waits_in delaying (λ n. refl)

pending_waits : (w : Wait) → pending w ≡ true → waiting w ≡ true
pending_waits = waits_in pending (λ n. refl)

receiving_waits : (w : Wait) → receiving w ≡ true → waiting w ≡ true
receiving_waits = waits_in receiving (λ n. refl)

keeps_mail : (p i : ℕ) (b : Bool) (x : ℕ) (ts : List Thread) → Keeps p ts (edit i (with_mail b x) ts)
keeps_mail p i b x ts = keeps_edit p i (with_mail b x) ts (λ m. record { member = m; place = refl; counter = refl; turn = refl })

keeps_delivered : (p i x : ℕ) (ts : List Thread) → Keeps p ts (delivered i x ts)
unfolding delivered end_wait
keeps_delivered p i x ts =
    if_case (Keeps p ts) (receiving (at ts i).wait)
    (λ e. keeps_move p i (ended Done x) ts (waiting_out p (at ts i) (receiving_waits (at ts i).wait e)))
    (λ e. keeps_mail p i true x ts)

keeps_emptied : (p r : ℕ) (ts : List Thread) → Keeps p ts (emptied r ts)
unfolding emptied end_wait
keeps_emptied p r ts =
    let i = first (senders r) ts in
    if_case (Keeps p ts) (eqb (line_length (senders r) ts) 0) (λ a. keeps_mail p r false 0 ts) (λ a.
    keeps_trans p _ _ _ (keeps_move p i (ended Done 0) ts (first_out p (senders r) ts refl)) (keeps_mail p r true (at ts i).parcel _))

gone : (p : ℕ) (s : State) (i : ℕ) → Effect p s (accept_threads s (deleted i s.threads))
unfolding deleted Effect Same
gone p s i k =
    let ts = s.threads in
    let us = move i (λ t. free) ts in
    let n = line_length (senders i) ts in
    rw (settle_threads (with_threads (deleted i ts) s)) (elim (test (in_line (ready p) (at ts i))) [
      | is m ↦
          let h = in_range ts i (ready p) m in
          absurd (clash m (sym (rw (settle_threads (with_threads (deleted i ts) s)) at (k i)) ∙ free_out (ready p) (at (deleted i ts) i)
          (serve_free n (senders i) Failed us i (rw (length_move i (λ t. free) ts) h) (rw (move_self i (λ t. free) ts h)))))
      | isnt m ↦ keeps_trans p ts us _ (keeps_move p i (λ t. free) ts m) (keeps_serve p n (senders i) Failed us refl)
    ])

-- a priority that a ready thread does not have yet takes it out of its rank
other_rank : (p q : ℕ) (t : Thread) → in_line (ready p) t ≡ true → not (eqb t.priority q) ≡ true → in_line (ready p) (with_priority q t) ≡ false
other_rank p q t m e = elim (test (in_line (ready p) (with_priority q t))) [
  | is n ↦
      let a = ((in_ready p t).0 m).1 in
      let b = ((in_ready p (with_priority q t)).0 n).1 in
      absurd (clash (eq-eqb t.priority q (a ∙ sym b)) (not-true _ e))
  | isnt n ↦ n
]

-- a ready thread is given another priority
moves_priority : (p : ℕ) (s : State) (i q : ℕ) → is_ready (at s.threads i) && not (eqb (at s.threads i).priority q) ≡ true
    → Effect p s (accept_threads s (move i (with_priority q) s.threads))
moves_priority p s i q e =
    let t = at s.threads i in
    left p s _ i (with_priority q) (λ m. other_rank p q (with_place 0 t) m (and_true (is_ready t) _ e).1)

-- a thread is given a priority that leaves it in its line
edits_priority : (p : ℕ) (s : State) (i q : ℕ) → is_ready (at s.threads i) && not (eqb (at s.threads i).priority q) ≡ false
    → Effect p s (accept_threads s (edit i (with_priority q) s.threads))
edits_priority p s i q e = settled p s _ _ (keeps_edit p i (with_priority q) s.threads (λ m. record { member = rw (line_priority q (at s.threads i) e) m; place = refl; counter = refl; turn = refl }))

sets_priority : (p : ℕ) (s : State) (i q : ℕ) → Effect p s (do_set_priority s i q)
unfolding do_set_priority
sets_priority p s i q = search (effect_if, untouched, moves_priority, edits_priority) depth 10

sets_turn : (p : ℕ) (s : State) (i n : ℕ) → is_zero (code_of (do_set_turn s i n).answer) && in_line (ready p) (at s.threads i) ≡ false → Effect p s (do_set_turn s i n)
unfolding do_set_turn
sets_turn p s i n =
    let P : Step → Type 0 = λ r. is_zero (code_of r.answer) && in_line (ready p) (at s.threads i) ≡ false → Effect p s r in
    if_case P (bad_ticks n) (λ a h. untouched p s _) (λ a.
    if_case P (no_thread s i) (λ b h. untouched p s _) (λ b.
    if_case P (eqb i 0) (λ c h. untouched p s _)
    (λ c h. settled p s _ _ (keeps_off p i (λ t. filled (with_turn n t)) s.threads h))))

stops : (p : ℕ) (s : State) (i : ℕ) → Effect p s (accept_threads s (move i stopped s.threads))
stops p s i = left p s _ i stopped (λ m. suspended_out p (stopped (with_place 0 (at s.threads i))) refl)

blocks : (p : ℕ) (s : State) (w : Wait) (x : ℕ) → waiting w ≡ true → Effect p s (block s w x)
unfolding block
blocks p s w x e = left p s _ s.running (begun w x) (λ m. waiting_out p (begun w x (with_place 0 (caller s))) e)

-- ANY REQUEST

yield_done : (s : State) → is_zero (code_of (do_yield s).answer) ≡ true
unfolding do_yield
yield_done s = if_case (λ (r : Step). is_zero (code_of r.answer) ≡ true) (ltb 0 s.lock) (λ e. refl) (λ e. refl)

-- a request is a tick, or keeps the rank
pub data Does (p : ℕ) (s : State) (q : Request) : Type 0 where
  ticks : q ≡ Ask.Tick → Does p s q
  keeps : is_tick (deed_of q) ≡ false → Effect p s (step s q) → Does p s q

ruleset ranks = (effect_if, untouched, settled, gone, stops, blocks, keeps_refl, keeps_move, keeps_off, keeps_serve, keeps_delivered, keeps_emptied, free_out, unready_out, waiting_out, suspended_out, delaying_waits, pending_waits, unlocked, or_right, not-false)

-- many ticks at once are refused here: accepted ones are counted as single ticks
slept : (p : ℕ) (s : State) (n : ℕ) → is_zero (code_of (do_ticks s n).answer) && true ≡ false → Effect p s (do_ticks s n)
unfolding do_ticks
slept p s n = if_case (λ (r : Step). is_zero (code_of r.answer) && true ≡ false → Effect p s r) (bad_ticks n) (λ e h. untouched p s (Err BadTicks)) (λ e h. absurd (true≢false h))

pub does : (p : ℕ) (s : State) (q : Request) → is_zero (code_of (step s q).answer) && moves p s (deed_of q) ≡ false → Does p s q
unfolding step do_yield do_create do_delete do_suspend do_resume do_delay break_off do_cancel end_wait block must_wait do_send do_send_from_interrupt do_receive do_make do_drop do_pend do_abort posted do_post
    do_post_from_interrupt do_lock do_unlock do_outcome do_nearest
does p s Ask.Yield h = let o : eqb s.lock 0 && in_line (ready p) (caller s) ≡ false = rw (yield_done s) at h in keeps refl (search ranks depth 12)
does p s (Ask.Create i r n) h = keeps refl (search ranks depth 12)
does p s (Ask.Delete i) h = keeps refl (search ranks depth 12)
does p s (Ask.Suspend i) h = keeps refl (search ranks depth 12)
does p s (Ask.Resume i) h = keeps refl (search ranks depth 12)
does p s (Ask.Delay n) h = keeps refl (search ranks depth 12)
does p s (Ask.Cancel i) h = keeps refl (search ranks depth 12)
does p s (Ask.Send i n x) h = keeps refl (search ranks depth 12)
does p s (Ask.SendFromInterrupt i x) h = keeps refl (search ranks depth 12)
does p s (Ask.Receive n) h = keeps refl (search ranks depth 12)
does p s (Ask.Make k n) h = keeps refl (search ranks depth 12)
does p s (Ask.Drop k) h = keeps refl (search ranks depth 12)
does p s (Ask.Pend k n) h = keeps refl (search ranks depth 12)
does p s (Ask.Abort i) h = keeps refl (search ranks depth 12)
does p s (Ask.Post k n) h = keeps refl (search ranks depth 12)
does p s (Ask.PostFromInterrupt k n) h = keeps refl (search ranks depth 12)
does p s Ask.Lock h = keeps refl (search ranks depth 12)
does p s Ask.Unlock h = keeps refl (search ranks depth 12)
does p s Ask.Tick h = ticks refl
does p s (Ask.Outcome i) h = keeps refl (search ranks depth 12)
does p s (Ask.Ticks n) h = keeps refl (slept p s n h)
does p s Ask.Nearest h = keeps refl (search ranks depth 12)
does p s (Ask.SetPriority i q) h = keeps refl (sets_priority p s i q)
does p s (Ask.SetTurn i n) h = keeps refl (sets_turn p s i n h)
