-- Who runs is ready, and with lock 0 the first of the highest line: that line's bit is the highest of the ready word, which is tested
-- besides. Assumes nothing.
use mathlib.Core.Bool.{Bool, true}
use mathlib.Core.Path.{◌≡◌, refl, ap, ◌∙◌}
use mathlib.Core.List.{List}
use Prim.Native.Nat.{ℕ, suc, ◌+◌, ◌^◌, ◌≤◌, ◌<◌}
use native.Mathlib.Numerals.{add-one}
use native.Mathlib.Omega.{arith}
use borrow.Author.Tests.{lt-ltb, ltb-true}
use Rattle.rules.specs.Board.{top_priority, most_lock}
use Rattle.rules.specs.State.{State, free, at, caller, is_ready}
use Rattle.rules.specs.Lines.{ready, in_line, line_length, has_member, bits_below, ready_word}
use Rattle.rules.specs.Test.{place_ok, thread_ok, kernel_ok}
use Rattle.rules.specs.declared.Thread.{Thread}
use Rattle.laws.proofs.Split.{is, isnt, test, and_true}
use Rattle.laws.proofs.Reflect.{if_says}
use Rattle.laws.proofs.Counts.{within, count_in, count_some}
use Rattle.laws.proofs.Lines.{in_ready, ready_used}
use Rattle.laws.proofs.Tested.{kernel_says}
use Rattle.laws.proofs.Word.{power_low, bits_least, bits_top}
use Rattle.layout.specs.Held.{Long, said}
use Rattle.layout.proofs.Boards.{sized}
use Rattle.sound.specs.Tested.{Decides, Threads}
use Rattle.sound.proofs.Threads.{used_within}

-- the running thread, as it was read
pub caller_read : (s : State) {th : Thread} {i : ℕ} → th ≡ at s.threads i → i ≡ s.running → th ≡ caller s
caller_read s p q = p ∙ ap (at s.threads) q

-- the priority whose bit is the highest of a word
abbrev pub Top : ℕ → ℕ → Type 0
Top word p = (2 ^ p ≤ word) × (word < 2 ^ (p + 1))

module _ (t : List ℕ) (long : Long t) (s : State) (e : said t ≡ s) where
  -- a ready thread's priority is that of a line, and its bit is set
  ranked : Threads t s → (i : ℕ) → is_ready (at s.threads i) ≡ true → (at s.threads i).priority ≤ top_priority
  unfolding thread_ok
  ranked h i x =
      let l = within is_ready free refl s.threads i x in
      let own = (and_true (place_ok s.threads (at s.threads i)) _ (h.each i (omega (arith, (sized long e).threads)))).1 in
      (used_within s i (at s.threads i) (((if_says _ _ _).0 own).0 (ready_used (at s.threads i) x))).0

  member : (i : ℕ) → is_ready (at s.threads i) ≡ true → has_member s.threads (at s.threads i).priority ≡ true
  member i x =
      let p = (at s.threads i).priority in
      lt-ltb 0 (line_length (ready p) s.threads) (count_in (in_line (ready p)) free refl s.threads i ((in_ready p (at s.threads i)).1 (x, refl)))

  -- no ready thread is above the word's highest bit
  pub top_highest : Threads t s → {p : ℕ} → Top (ready_word s.threads) p → (i : ℕ) → is_ready (at s.threads i) ≡ true → (at s.threads i).priority ≤ p
  unfolding ready_word
  top_highest h {p} top i x =
      let q = (at s.threads i).priority in
      power_low (bits_below (suc top_priority) (has_member s.threads)) q p (bits_least (suc top_priority) q (has_member s.threads) (omega (arith, ranked h i x)) (member i x)) top.1

  -- and the highest of them has it
  pub highest_top : Threads t s → is_ready (caller s) ≡ true → ((i : ℕ) → is_ready (at s.threads i) ≡ true → (at s.threads i).priority ≤ (caller s).priority)
      → Top (ready_word s.threads) (caller s).priority
  unfolding ready_word
  highest_top h x most =
      let p = (caller s).priority in
      let b = bits_top (suc top_priority) p (has_member s.threads) (omega (arith, ranked h s.running x)) (member s.running x)
      (λ q a l. elim (test (has_member s.threads q)) [
        | is m ↦
            let k = count_some (in_line (ready q)) free refl s.threads (ltb-true 0 (line_length (ready q) s.threads) m) in
            let v = (in_ready q (at s.threads k.0)).0 k.1 in
            absurd (omega (arith, most k.0 v.0, v.1))
        | isnt m ↦ m
      ]) in
      (b.0, rw add-one b.1)

  module _ (low : s.lock ≤ most_lock) (ready : is_ready (caller s) ≡ true) {r : Bool} (d : Decides r t (Threads t s)) where
    pub locked_runs : (s.lock ≡ 0 → ⊥) → Decides r t (Threads t s × (kernel_ok s ≡ true))
    locked_runs lock = record {
      passed = λ q. (d.passed q, (kernel_says s).1 ((low, ready), λ z. absurd (lock (omega arith))));
      passes = λ w h. d.passes w h.0;
    }

    pub first_runs_lem : (caller s).place ≡ 1 → (Threads t s → Top (ready_word s.threads) (caller s).priority) → Decides r t (Threads t s × (kernel_ok s ≡ true))
    first_runs_lem place top = record {
      passed = λ q. let h = d.passed q in (h, (kernel_says s).1 ((low, ready), λ z. (place, top_highest h (top h))));
      passes = λ w h. d.passes w h.0;
    }
