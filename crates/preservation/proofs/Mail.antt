-- Soundness is kept by the operations on mailboxes: Send, Send from interrupt, Receive. A mailbox is emptied only where nobody sends to
-- it. Assumes nothing.
use mathlib.Core.Bool.{true, false}
use mathlib.Core.Path.{◌≡◌, refl, sym, ◌∙◌}
use Prim.Native.Nat.{ℕ, ◌≤◌}
use native.Mathlib.Omega.{arith}
use borrow.Author.Tests.{eqb-false}
use lib.Dec.{eqb}
use Rattle.rules.specs.Board.{most_ticks}
use Rattle.rules.specs.State.{State, at, caller, receiving, with_mail, with_threads, edit}
use Rattle.rules.specs.Lines.{senders, line_length, first}
use Rattle.rules.specs.Waiting.{end_wait}
use Rattle.rules.specs.Threads.{no_thread}
use Rattle.rules.specs.Mail.{delivered, do_send, do_send_from_interrupt, emptied, do_receive}
use Rattle.rules.specs.Sound.{Sound}
use Rattle.rules.specs.declared.Wait.TheVariants.{Receive, Send}
use Rattle.rules.specs.declared.Outcome.TheVariants.{Done}
use Rattle.laws.proofs.Split.{clash, if_case}
use Rattle.laws.proofs.Reflect.{reflect}
use Rattle.laws.proofs.Places.{first_there}
use Rattle.preservation.proofs.Fit.{Meets, full_used, edit_count, meets_edit}
use Rattle.preservation.proofs.Changes.{Begins, fit_mail}
use Rattle.preservation.proofs.Waits.{meets_end, first_used}
use Rattle.preservation.proofs.Settled.{asks, without_self, meets_without, Unsettled, sound_meets, kept_threads, kept_emptied}
use Rattle.preservation.proofs.Safe.{Safe, ladder, safe_wait}

module _ (s : State) (σ : Sound s) where
  v : Meets (asks s) s.threads
  v = sound_meets σ

  delivers : (i x : ℕ) → no_thread s i ≡ false → Meets (asks s) (delivered i x s.threads)
  unfolding delivered
  delivers i x a =
      let u : (at s.threads i).used ≡ true = simp reflect at a in
      if_case (Meets (asks s)) (receiving (at s.threads i).wait)
      (λ e. meets_end i Done x u (λ n. absurd (n refl)) v)
      (λ e. meets_edit i (with_mail true x) refl refl (fit_mail (v.each i) u true x (λ q. absurd (clash q e)) (λ q. absurd (clash refl q)) (λ q. refl)) v)

  sends : (i x : ℕ) → eqb i s.running ≡ false → (at s.threads i).full ≡ true → (c : ℕ) → c ≤ most_ticks → Begins (asks s) s.running (caller s) (Send i c) x
  sends i x e b c h = record {
    waits = refl;
    delay = λ q. absurd (clash q refl);
    timed = h;
    receiver = λ q. absurd (clash q refl);
    parcel = λ q. absurd (clash refl q);
    stands = let n = simp reflect at e in simp reflect (λ q. n (sym q), b);
  }

  pub safe_send : (i n x : ℕ) → Safe (do_send s i n x)
  unfolding do_send
  safe_send i n x = search (ladder, safe_wait, delivers, sends) depth 9

  pub safe_send_from_interrupt : (i x : ℕ) → Safe (do_send_from_interrupt s i x)
  unfolding do_send_from_interrupt
  safe_send_from_interrupt i x = search (ladder, delivers) depth 8

  -- with no sender the mailbox is empty
  empties : (caller s).full ≡ true → line_length (senders s.running) s.threads ≡ 0 → Unsettled (with_threads (edit s.running (with_mail false 0) s.threads) s)
  empties b z =
      let r = s.running in
      let w = meets_without r v in
      let fit = fit_mail (w.each r) (full_used (v.each r) b) false 0 (λ q. refl) (λ q. refl) (λ q. absurd (clash q (without_self r (asks s)))) in
      kept_emptied _ σ r (meets_edit r (with_mail false 0) refl refl fit w) (edit_count (senders r) r (with_mail false 0) s.threads refl ∙ z)

  -- the first sender's parcel moves in
  refills : (caller s).full ≡ true → 1 ≤ line_length (senders s.running) s.threads → (x : ℕ)
      → Meets (asks s) (edit s.running (with_mail true x) (end_wait (first (senders s.running) s.threads) Done 0 s.threads))
  refills b n x =
      let r = s.running in
      let l = senders r in
      let w = meets_end (first l s.threads) Done 0 (first_used l s.threads (first_there s.threads σ.lines l n)) (λ q. refl) v in
      let f = w.each r in
      let u = full_used f (f.full b) in
      meets_edit r (with_mail true x) refl refl (fit_mail f u true x (λ q. absurd (clash (f.full b) ((f.sound u).receiver q))) (λ q. absurd (clash refl q)) (λ q. refl)) w

  receives : (caller s).full ≡ true → Unsettled (with_threads (emptied s.running s.threads) s)
  unfolding emptied
  receives b =
      let n = line_length (senders s.running) s.threads in
      if_case (λ us. Unsettled (with_threads us s)) (eqb n 0) (λ e. empties b (simp reflect at e)) (λ e.
      let k = eqb-false n 0 e in
      kept_threads _ σ (refills b (omega arith) _))

  awaits : (caller s).full ≡ false → (c : ℕ) → c ≤ most_ticks → Begins (asks s) s.running (caller s) (Receive c) 0
  awaits b c h = record { waits = refl; delay = λ q. absurd (clash q refl); timed = h; receiver = λ q. b; parcel = λ q. refl; stands = refl }

  pub safe_receive : (n : ℕ) → Safe (do_receive s n)
  unfolding do_receive
  safe_receive n = search (ladder, safe_wait, receives, awaits) depth 8
