-- Soundness is kept by the operations on threads: Yield, Create, Delete, Suspend, Resume, Delay, Cancel, Set priority, Set turn. Assumes
-- nothing.
use mathlib.Core.Bool.{Bool, true, false, not, ◌&&◌, ◌||◌}
use mathlib.Core.Path.{◌≡◌, refl}
use mathlib.Core.Logic.{◌≢◌}
use Prim.Native.Nat.{ℕ}
use native.Mathlib.Omega.{arith}
use lib.Dec.{eqb, leb}
use lib.ListN.{length}
use Rattle.rules.specs.State.{State, free, at, caller, is_ready, waiting, with_suspended, with_priority, with_turn, with_threads, edit}
use Rattle.rules.specs.Lines.{senders, line_length, filled, move}
use Rattle.rules.specs.Waiting.{end_wait}
use Rattle.rules.specs.Threads.{no_thread, bad_priority, bad_ticks, bound, created, stopped, do_yield, do_create, do_suspend, do_resume, do_delay, deleted, do_delete, break_off, do_set_priority, do_set_turn}
use Rattle.rules.specs.Sound.{Sound}
use Rattle.rules.specs.declared.Wait.{Wait}
use Rattle.rules.specs.declared.Wait.TheVariants.{Delay}
use Rattle.rules.specs.declared.Outcome.TheVariants.{Failed}
use Rattle.laws.proofs.Split.{clash}
use Rattle.laws.proofs.Members.{used_range}
use Rattle.laws.proofs.Placed.{move_count}
use Rattle.laws.proofs.Reflect.{reflect}
use Rattle.laws.proofs.Lines.{ready_used, filled_field, line_filled, line_priority, line_suspended}
use Rattle.preservation.proofs.Fit.{Meets, ready_parts, fit_tail, meets_move, meets_edit}
use Rattle.preservation.proofs.Changes.{Begins, fit_lifted, fit_created, fit_free, fit_priority, fit_turn, fit_stopped, fit_suspended, fit_resumed}
use Rattle.preservation.proofs.Waits.{meets_end, meets_serve, mailbox, serve_count}
use Rattle.preservation.proofs.Settled.{asks, without, without_self, meets_without, Unsettled, sound_meets, sound_unsettled, kept_emptied}
use Rattle.preservation.proofs.Safe.{Safe, ladder, safe_block, priority_ok, ticks_ok}

module _ (s : State) (σ : Sound s) where
  v : Meets (asks s) s.threads
  v = sound_meets σ

  yields : Meets (asks s) (move s.running (λ t. t) s.threads)
  yields = meets_move s.running (λ t. t) (fit_lifted (v.each s.running)) v

  pub safe_yield : Safe (do_yield s)
  unfolding do_yield
  safe_yield = search (ladder, sound_unsettled, yields)

  creates : (i p n : ℕ) → bad_priority p ≡ false → bad_ticks n ≡ false → leb (length s.threads) i || (at s.threads i).used ≡ false
      → Meets (asks s) (move i (λ t. created p n) s.threads)
  creates i p n a b c =
      let x = simp reflect at c in
      let k : i ≢ 0 = λ q. clash (ready_used (at s.threads 0) σ.init.0) (rw q at x.1) in
      meets_move i (λ t. created p n) (fit_created (v.each i) x.1 p n k (priority_ok p a) (ticks_ok n b)) v

  pub safe_create : (i p n : ℕ) → Safe (do_create s i p n)
  unfolding do_create
  safe_create i p n = search (ladder, creates) depth 9

  -- the record is freed, and then the waits of its senders end, so that nobody sends to it
  deletes : (i : ℕ) → no_thread s i ≡ false → bound s i ≡ false → Unsettled (with_threads (deleted i s.threads) s)
  unfolding deleted
  deletes i a b =
      let ts = s.threads in
      let l = senders i in
      let us = move i (λ t. free) ts in
      let freed : Meets (without i (asks s)) us = meets_move i (λ t. free) (fit_free b (without_self i (asks s))) (meets_without i v) in
      kept_emptied (deleted i ts) σ i (meets_serve (line_length l ts) l Failed freed) (omega (
        arith,
        serve_count (line_length l ts) l (mailbox i) Failed us freed,
        move_count ts σ.lines i (used_range ts i (simp reflect at a)) (λ t. free) l,
      ))

  pub safe_delete : (i : ℕ) → Safe (do_delete s i)
  unfolding do_delete
  safe_delete i = search (ladder, deletes) depth 8

  stops : (i : ℕ) → no_thread s i ≡ false → bound s i ≡ false → is_ready (at s.threads i) ≡ true → Meets (asks s) (move i stopped s.threads)
  stops i a b r = meets_move i stopped (fit_stopped (v.each i) (simp reflect at a) (ready_parts (at s.threads i) r).2 b) v

  suspends : (i : ℕ) (b : Bool) → no_thread s i ≡ false → waiting (at s.threads i).wait ≡ true → Meets (asks s) (edit i (with_suspended b) s.threads)
  suspends i b a w = meets_edit i (with_suspended b) (line_suspended b (at s.threads i) w) refl (fit_suspended (v.each i) (simp reflect at a) b w) v

  -- in use, not suspended, not ready: it waits
  waits : (i : ℕ) → no_thread s i ≡ false → (at s.threads i).suspended ≡ false → is_ready (at s.threads i) ≡ false → waiting (at s.threads i).wait ≡ true
  waits i a b r = let u : (at s.threads i).used ≡ true = simp reflect at a in simp reflect at (rw (u, b) at r)

  pub safe_suspend : (i : ℕ) → Safe (do_suspend s i)
  unfolding do_suspend
  safe_suspend i = search (ladder, stops, suspends, waits) depth 10

  resumes : (i : ℕ) → no_thread s i ≡ false → not (at s.threads i).suspended ≡ false → waiting (at s.threads i).wait ≡ false
      → Meets (asks s) (move i (with_suspended false) s.threads)
  resumes i a b w = meets_move i (with_suspended false) (fit_resumed (v.each i) (simp reflect at a) (simp reflect at b) w) v

  pub safe_resume : (i : ℕ) → Safe (do_resume s i)
  unfolding do_resume
  safe_resume i = search (ladder, suspends, resumes) depth 10

  delays : (n : ℕ) → bad_ticks n ≡ false → Begins (asks s) s.running (caller s) (Delay n) 0
  delays n e =
      let x = ticks_ok n e in
      record { waits = refl; delay = λ q. x.0; timed = x.1; receiver = λ q. absurd (clash q refl); parcel = λ q. refl; stands = refl }

  pub safe_delay : (n : ℕ) → Safe (do_delay s n)
  unfolding do_delay
  safe_delay n = search (ladder, safe_block, delays) depth 8

  breaks : (i : ℕ) → no_thread s i ≡ false → Meets (asks s) (end_wait i Failed 0 s.threads)
  breaks i a = meets_end i Failed 0 (simp reflect at a) (λ q. refl) v

  -- Cancel, and Abort too
  pub safe_break : (kind : Wait → Bool) (i : ℕ) → Safe (break_off kind s i)
  unfolding break_off
  safe_break kind i = search (ladder, breaks) depth 8

  moves_priority : (i p : ℕ) → bad_priority p ≡ false → no_thread s i ≡ false → eqb i 0 ≡ false → Meets (asks s) (move i (with_priority p) s.threads)
  moves_priority i p a b c = meets_move i (with_priority p) (fit_priority (fit_lifted (v.each i)) (simp reflect at b) p (simp reflect at c) (priority_ok p a)) v

  edits_priority : (i p : ℕ) → bad_priority p ≡ false → no_thread s i ≡ false → eqb i 0 ≡ false
      → is_ready (at s.threads i) && not (eqb (at s.threads i).priority p) ≡ false → Meets (asks s) (edit i (with_priority p) s.threads)
  edits_priority i p a b c e =
      meets_edit i (with_priority p) (line_priority p (at s.threads i) e) refl (fit_priority (v.each i) (simp reflect at b) p (simp reflect at c) (priority_ok p a)) v

  pub safe_set_priority : (i p : ℕ) → Safe (do_set_priority s i p)
  unfolding do_set_priority
  safe_set_priority i p = search (ladder, moves_priority, edits_priority) depth 10

  edits_turn : (i n : ℕ) → bad_ticks n ≡ false → no_thread s i ≡ false → Meets (asks s) (edit i (λ t. filled (with_turn n t)) s.threads)
  edits_turn i n a b =
      let t = at s.threads i in
      meets_edit i (λ t. filled (with_turn n t)) (line_filled (with_turn n t)) (filled_field (λ t. t.place) (with_turn n t) refl)
      (fit_tail t.place (σ.lines.out i) (fit_turn (v.each i) (simp reflect at b) n (ticks_ok n a))) v

  pub safe_set_turn : (i n : ℕ) → Safe (do_set_turn s i n)
  unfolding do_set_turn
  safe_set_turn i n = search (ladder, edits_turn) depth 10
