-- The ready word says what it is said to say: it is the sum of the powers of 2 of the lines that have a member, so each bit is one line's, and the
-- highest of them stands right below the leading zeros. A sound table is the one that its state is encoded to. Assumes nothing.
use mathlib.Core.Bool.{Bool, true, false}
use mathlib.Core.Path.{◌≡◌, refl, ap, sym, subst, ◌∙◌}
use mathlib.Core.Logic.{◌↔◌}
use mathlib.Core.List.{List}
use Prim.Native.Nat.{ℕ, suc, ◌+◌, ◌^◌, ◌≤◌, ◌<◌}
use native.Mathlib.Numerals.{add-one}
use native.Mathlib.Omega.{arith}
use borrow.Author.Tests.{lt-ltb, ltb-true}
use lib.Count.{count_leading_zeros, leading_top}
use Rattle.rules.specs.Basic.{bit}
use Rattle.rules.specs.Board.{Board, top_priority}
use Rattle.rules.specs.State.{State, free, at, caller}
use Rattle.rules.specs.Lines.{ready, in_line, line_length, has_member, ready_word}
use Rattle.rules.specs.Table.{encode, decode}
use Rattle.rules.specs.Sound.{Sound, SoundTable}
use Rattle.rules.proofs.Computing.{behind_the_door}
use Rattle.laws.proofs.Split.{is, isnt, test}
use Rattle.laws.proofs.Counts.{count_in, count_some}
use Rattle.laws.proofs.Lines.{in_ready, ready_used}
use Rattle.laws.proofs.Word.{power_low, bits_less, bits_least, bits_top, bits_at}
use Rattle.layout.proofs.Canonical.{encoded_canon}
use Rattle.promises.specs.Word.{ready_word_in, bit_of, Ready, WordSays, ReadyWord}
use Rattle.promises.proofs.First.{first}
use Rattle.promises.proofs.Second.{second}

-- a line that has a member is that of a ready thread
member_ready : (s : State) (p : ℕ) → has_member s.threads p ≡ true → Ready s p
member_ready s p e =
    let k = count_some (in_line (ready p)) free refl s.threads (ltb-true 0 (line_length (ready p) s.threads) e) in
    let v = (in_ready p (at s.threads k.0)).0 k.1 in
    (k.0, v.0, v.1)

ready_member : (s : State) (p : ℕ) → Ready s p → has_member s.threads p ≡ true
ready_member s p r = lt-ltb 0 (line_length (ready p) s.threads) (count_in (in_line (ready p)) free refl s.threads r.0 ((in_ready p (at s.threads r.0)).1 (r.1, r.2)))

one_bit : (b : Bool) → (bit b ≡ 1) ↔ (b ≡ true)
one_bit true = (λ e. refl, λ e. refl)
one_bit false = (λ e. absurd (omega arith), λ e. absurd (let z : ◌≡◌ {A = ℕ} 0 1 = cc in omega arith))

module _ (s : State) (σ : Sound s) where
  word_bits : (p : ℕ) → p ≤ top_priority → (bit_of (ready_word s.threads) p ≡ 1) ↔ Ready s p
  unfolding ready_word
  word_bits p h =
      let is-bit = bits_at (suc top_priority) p (has_member s.threads) (omega arith) in (
        λ e. member_ready s p ((one_bit (has_member s.threads p)).0 (sym is-bit ∙ e)),
        λ r. is-bit ∙ (one_bit (has_member s.threads p)).1 (ready_member s p r),
      )

  word_some : 1 ≤ ready_word s.threads
  unfolding ready_word
  word_some = bits_least (suc top_priority) 0 (has_member s.threads) (omega arith) (ready_member s 0 (0, σ.init.0, σ.init.1))

  -- the highest line is the running thread's
  word_top : s.lock ≡ 0 → (2 ^ (caller s).priority ≤ ready_word s.threads) × (ready_word s.threads < 2 ^ suc (caller s).priority)
  unfolding ready_word
  word_top z =
      let low = (σ.threads s.running (ready_used (caller s) σ.runs)).priority in
      bits_top (suc top_priority) (caller s).priority (has_member s.threads) (omega (arith, low)) (ready_member s (caller s).priority (s.running, σ.runs, refl))
      (λ q a l. elim (test (has_member s.threads q)) [
        | is e ↦ let r = member_ready s q e in absurd (omega (arith, σ.highest z r.0 r.1, r.2))
        | isnt e ↦ e
      ])

  word_zeros : s.lock ≡ 0 → ready_word s.threads < 2 ^ 32 → (caller s).priority + count_leading_zeros 32 (ready_word s.threads) ≡ top_priority
  word_zeros z wide =
      let w = ready_word s.threads in
      let p = (caller s).priority in
      let top = word_top z in
      let x = leading_top 32 w word_some wide in
      let above : w < 2 ^ (p + 1) = rw add-one top.1 in
      let next : w < 2 ^ (x.0 + 1) = rw add-one x.3 in
      omega (arith, x.1, power_low w p x.0 top.0 next, power_low w x.0 p x.2 above)

says : (b : Board) (t : List ℕ) → SoundTable b t → WordSays b t
unfolding ready_word
says b t σ =
    let s = decode b t in
    let e : ready_word_in b t ≡ ready_word s.threads = (encoded_canon {b = b} σ.meaning).1 in
    let wide : ready_word s.threads < 2 ^ 32 = bits_less (suc top_priority) (has_member s.threads) in
    record {
      bits = λ p h. subst (λ w. (bit_of w p ≡ 1) ↔ Ready s p) (sym e) (word_bits s σ.state p h);
      wide = subst (λ w. w < 2 ^ 32) (sym e) wide;
      top = λ z. subst (λ w. (caller s).priority + count_leading_zeros 32 w ≡ top_priority) (sym e) (word_zeros s σ.state z wide);
      some = subst (λ w. 1 ≤ w) (sym e) (word_some s σ.state);
    }

pub ready_word_lem : ReadyWord
unfolding behind_the_door
ready_word_lem = record {
  sound = says;
  one = λ b t t' σ σ' e. σ.meaning ∙ ap encode e ∙ sym σ'.meaning;
  kept = λ b t hs σ. says b _ (second.stays b t hs σ);
  fresh = refl;
  earlier = λ b t r a e. (first b t r a).unsound (λ h. let w = (says b t h.0).some in omega (arith, e));
}
