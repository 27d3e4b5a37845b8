-- The word of a list of threads in which one is changed: the others' word, with that thread's own bit. The others' word is the old one less the
-- bit that goes with the thread, since only the line that it stood in can have lost its last member. Assumes nothing.
use Rattle.std.specs.Prelude.{if◌then◌else◌}
use mathlib.Core.Bool.{Bool, true, false, ◌&&◌, ◌||◌}
use mathlib.Core.Path.{◌≡◌, refl, ap, sym, subst, ◌∙◌}
use mathlib.Core.Logic.{◌≢◌}
use mathlib.Core.List.{List}
use Prim.Native.Nat.{ℕ, suc, ◌+◌, ◌-◌, ◌^◌, ◌≤◌, ◌<◌}
use native.Mathlib.Omega.{arith}
use native.Mathlib.Decide.{ℕ_discrete}
use borrow.Author.Tests.{eq-eqb, ne_eqb, lt-ltb, le-ltb, ltb-true, ltb-false, le-leb, leb-true}
use lib.Bits.{bit_or, or_zero_r}
use lib.Count.{count_leading_zeros, leading_top}
use lib.Dec.{eqb, leb, ltb}
use lib.ListN.{length, set, take, length-set}
use lib.Seq.{get_or-set_same, get_or-set_other, set-get_or}
use Rattle.rules.specs.Basic.{bit}
use Rattle.rules.specs.Board.{top_priority}
use Rattle.rules.specs.State.{State, free, at, is_ready, edit}
use Rattle.rules.specs.Lines.{ready, line, in_line, line_length, leave, tail_place, join, has_member, bits_below, ready_word}
use Rattle.rules.specs.declared.Thread.{Thread}
use Rattle.laws.proofs.Split.{is, isnt, test, clash, and_true, and_both}
use Rattle.laws.proofs.Lines.{same_eq, in_ready}
use Rattle.laws.proofs.Moves.{join_place}
use Rattle.laws.proofs.Members.{edit_same, count_change}
use Rattle.laws.proofs.Turns.{count_turn}
use Rattle.laws.proofs.Word.{bits_ext, bits_set, bits_or}
use Rattle.layout.specs.Held.{said, Holds, Whole, Becomes, Shows, Changes, on_threads}
use Rattle.layout.specs.Boards.{HasThread}
use Rattle.layout.proofs.Held.{whole_holds, becomes, holds_shows, shows_word}
use Rattle.lines.proofs.Standing.{tail_left}
use Rattle.layout.proofs.Boards.{sized}
use Rattle.ready.specs.Word.{ready_bit, last_bit, Mends}

-- THE HIGHEST BIT

pub top_bit : (word : ℕ) → 1 ≤ word → word < 2 ^ 32
    → (count_leading_zeros 32 word ≤ top_priority) × (2 ^ (top_priority - count_leading_zeros 32 word) ≤ word) × (word < 2 ^ (top_priority - count_leading_zeros 32 word + 1))
top_bit word h l =
    let x = leading_top 32 word h l in
    let e : top_priority - count_leading_zeros 32 word ≡ x.0 = omega (arith, x.1) in
    let f : top_priority - count_leading_zeros 32 word + 1 ≡ suc x.0 = omega (arith, x.1) in
    (omega (arith, x.1), subst (λ k. 2 ^ k ≤ word) (sym e) x.2, subst (λ k. word < 2 ^ k) (sym f) x.3)

-- ONE MORE

-- a line has a member where it had one, or has one now
more_members : (n : ℕ) (b : Bool) → ltb 0 (n + bit b) ≡ (ltb 0 n || b)
more_members n b = elim (test (ltb 0 n)) [
  | is e ↦ rw e (lt-ltb 0 (n + bit b) (omega (arith, ltb-true 0 n e)))
  | isnt e ↦ rw e (last b (ltb-false 0 n e))
]
  where
    last : (b : Bool) → n ≤ 0 → ltb 0 (n + bit b) ≡ b
    last true h = lt-ltb 0 (n + 1) (omega arith)
    last false h = le-ltb 0 (n + 0) (omega arith)

-- a thread that stands in no ready line of the word
no_bit : (x : Thread) → (is_ready x && leb x.priority top_priority) ≡ false → (p : ℕ) → p < suc top_priority → in_line (ready p) x ≡ false
no_bit x e p h = elim (test (in_line (ready p) x)) [
  | is q ↦ let v = (in_ready p x).0 q in absurd (clash (and_both (is_ready x) (leb x.priority top_priority) v.0 (le-leb x.priority top_priority (omega (arith, v.1)))) e)
  | isnt q ↦ q
]

pub word_or : (ts us : List Thread) (x : Thread) → ((p : ℕ) → line_length (ready p) us ≡ line_length (ready p) ts + bit (in_line (ready p) x))
    → ready_word us ≡ bit_or (ready_word ts) (ready_bit x)
unfolding ready_word
word_or ts us x h =
    let each : (p : ℕ) → has_member us p ≡ (has_member ts p || in_line (ready p) x) = λ p. ap (ltb 0) (h p) ∙ more_members (line_length (ready p) ts) (in_line (ready p) x) in
    elim (test (is_ready x && leb x.priority top_priority)) [
      | is e ↦
          let v = and_true (is_ready x) (leb x.priority top_priority) e in
          rw e (bits_or (suc top_priority) x.priority (has_member ts) (has_member us) (omega (arith, leb-true x.priority top_priority v.1))
          (each x.priority ∙ ap (λ b. has_member ts x.priority || b) ((in_ready x.priority x).1 (v.0, refl)) ∙ or_on (has_member ts x.priority))
          (λ q n. each q ∙ ap (λ b. has_member ts q || b) (elsewhere q n) ∙ or_off (has_member ts q)))
      | isnt e ↦
          rw e (bits_ext (suc top_priority) (has_member ts) (has_member us) (λ p l. each p ∙ ap (λ b. has_member ts p || b) (no_bit x e p l) ∙ or_off (has_member ts p))
          ∙ sym (or_zero_r (bits_below (suc top_priority) (has_member ts))))
    ]
  where
    or_on : (a : Bool) → (a || true) ≡ true
    or_on true = refl
    or_on false = refl

    or_off : (a : Bool) → (a || false) ≡ a
    or_off true = refl
    or_off false = refl

    elsewhere : (q : ℕ) → q ≢ x.priority → in_line (ready q) x ≡ false
    elsewhere q n = elim (test (in_line (ready q) x)) [
      | is e ↦ absurd (n (sym ((in_ready q x).0 e).1))
      | isnt e ↦ e
    ]

-- nobody, and then one thread more at a time
pub word_none : (ts : List Thread) → 0 ≡ ready_word (take 0 ts)
unfolding ready_word bits_below
word_none ts = refl

pub word_turn : (ts : List Thread) (i : ℕ) → i < length ts → bit_or (ready_word (take i ts)) (ready_bit (at ts i)) ≡ ready_word (take (i + 1) ts)
word_turn ts i h = sym (word_or (take i ts) (take (i + 1) ts) (at ts i) (λ p. count_turn (in_line (ready p)) free ts i h))

-- ONE CHANGES

module _ (ts : List Thread) (i : ℕ) (h : i < length ts) where
  -- the others, with nobody in thread i's stead
  abbrev others : List Thread
  others = set ts i free

  -- of the others, and of thread i
  with_own : (x : Thread) (p : ℕ) → line_length (ready p) (set ts i x) ≡ line_length (ready p) others + bit (in_line (ready p) x)
  with_own x p =
      let e = count_change (in_line (ready p)) others (set ts i x) i (omega (arith, length-set ts i free)) (length-set ts i x ∙ sym (length-set ts i free))
      (λ j n. ap (in_line (ready p)) (get_or-set_other ts i j x free n ∙ sym (get_or-set_other ts i j free free n))) in
      omega (arith, e, ap (λ y. bit (in_line (ready p) y)) (get_or-set_same ts i free free h), ap (λ y. bit (in_line (ready p) y)) (get_or-set_same ts i x free h))

  with_bit : (x : Thread) → ready_word (set ts i x) ≡ bit_or (ready_word others) (ready_bit x)
  with_bit x = word_or others (set ts i x) x (with_own x)

  -- the word as it is, of the others and the bit that goes with thread i
  old_word : ready_word ts ≡ ready_word others + last_bit i ts
  unfolding ready_word
  old_word =
      let x = at ts i in
      let same : set ts i x ≡ ts = set-get_or ts i free in
      let count : (p : ℕ) → line_length (ready p) ts ≡ line_length (ready p) others + bit (in_line (ready p) x) = λ p. ap (line_length (ready p)) (sym same) ∙ with_own x p in
      elim (test (is_ready x && leb x.priority top_priority)) [
        | is e ↦
            let v = and_true (is_ready x) (leb x.priority top_priority) e in
            let p = x.priority in
            let own = (in_ready p x).1 (v.0, refl) in
            let low : p < suc top_priority = omega (arith, leb-true p top_priority v.1) in
            let length : tail_place i ts ≡ line_length (ready p) others + 1 = ap (λ l. line_length l ts) (same_eq (line x) (ready p) own) ∙ count p ∙ ap (λ b. line_length (ready p) others + bit b) own in
            let elsewhere : (q : ℕ) → q ≢ p → has_member ts q ≡ has_member others q =
            λ q n. let kept : line_length (ready q) ts ≡ line_length (ready q) others = omega (arith, count q, ap bit (apart q n)) in ap (ltb 0) kept in
            elim (ℕ_discrete (line_length (ready p) others) 0) [
              | yes z ↦
                  let one : tail_place i ts ≡ 1 = omega (arith, length) in
                  rw (eq-eqb (tail_place i ts) 1 one, e)
                  (bits_set (suc top_priority) p (has_member others) (has_member ts) low (le-ltb 0 (line_length (ready p) others) (omega arith))
                  (lt-ltb 0 (line_length (ready p) ts) (omega (arith, count p, ap bit own))) elsewhere)
              | no z ↦
                  let many : tail_place i ts ≡ 1 → ⊥ = λ d. z (omega (arith, length)) in
                  rw (ne_eqb (tail_place i ts) 1 many) (bits_ext (suc top_priority) (has_member others) (has_member ts)
                  (λ q l. elim (ℕ_discrete q p) [
                    | yes d ↦ rw d (lt-ltb 0 (line_length (ready p) ts) (omega (arith, count p, ap bit own)) ∙ sym (lt-ltb 0 (line_length (ready p) others) (omega arith)))
                    | no d ↦ elsewhere q d
                  ]) ∙ omega arith)
            ]
        | isnt e ↦
            let none : last_bit i ts ≡ 0 = rw e (zero (eqb (tail_place i ts) 1)) in
            bits_ext (suc top_priority) (has_member others) (has_member ts) (λ q l. let kept : line_length (ready q) ts ≡ line_length (ready q) others = omega (arith, count q, ap bit (no_bit x e q l)) in ap (ltb 0) kept) ∙ omega (arith, none)
      ]
    where
      zero : (b : Bool) → ◌≡◌ {A = ℕ} (if b then 0 else 0) 0
      zero true = refl
      zero false = refl

      apart : (q : ℕ) → q ≢ (at ts i).priority → in_line (ready q) (at ts i) ≡ false
      apart q n = elim (test (in_line (ready q) (at ts i))) [
        | is e ↦ absurd (n (sym ((in_ready q (at ts i)).0 e).1))
        | isnt e ↦ e
      ]

  pub last_enough : last_bit i ts ≤ ready_word ts
  last_enough = omega (arith, old_word)

  pub word_moves : (x : Thread) → bit_or (ready_word ts - last_bit i ts) (ready_bit x) ≡ ready_word (set ts i x)
  word_moves x = let e : ready_word ts - last_bit i ts ≡ ready_word others = omega (arith, old_word) in ap (λ w. bit_or w (ready_bit x)) e ∙ sym (with_bit x)

-- THE TABLE

-- how many stood in the line that a thread has left, itself among them
pub stood_there : {t t' : List ℕ} (i : ℕ) → HasThread t i → Whole t → Becomes t t' (on_threads (leave i)) → {n : ℕ}
    → ((s : State) → said t ≡ s → n ≡ tail_place i s.threads) → (s : State) → said t' ≡ s → tail_place i s.threads ≡ n
stood_there {t} {t'} i inside w left stood s e =
    let before = said t in
    ap (λ z. tail_place i z.threads) (sym e ∙ (left.holds before (whole_holds w)).says)
    ∙ tail_left i before.threads (omega (arith, (sized w.long refl).threads)) ∙ sym (stood before refl)

-- a table of which one record is changed has its word mended
module _ {t t' : List ℕ} (w : Whole t) (i : ℕ) (inside : HasThread t i) (g : Thread → Thread) (changed : Changes t t' (on_threads (edit i g)))
    {left : ℕ} (last : (s : State) → said t ≡ s → left ≡ last_bit i s.threads) where
  pub mends : Mends t' i left
  mends =
      let s = said t in
      let ts = s.threads in
      let shown = changed.shows s (ready_word ts) (holds_shows (whole_holds w)) in
      let word = shows_word shown in
      let e = last s refl in
      let range : i < length ts = omega (arith, (sized w.long refl).threads) in
      record {
        enough = omega (arith, word, e, last_enough ts i range);
        right = (λ j. bit_or (word j - e j) (ready_bit (at (shown.says j).threads i)))
            ∙ ap (λ x. bit_or (ready_word ts - last_bit i ts) (ready_bit x)) (edit_same ts i g range)
            ∙ word_moves ts i range (g (at ts i)) ∙ ap (λ z. ready_word z.threads) (sym shown.says);
      }

  pub mended : {t'' : List ℕ} → ((s : State) (v : ℕ) → Shows t' s v → Holds t'' s) → Becomes t t'' (on_threads (edit i g))
  mended f = becomes w (λ s h. f _ _ (changed.shows s (ready_word s.threads) (holds_shows h)))

-- the place that a thread takes where it joins is the place that it has then
pub joined : {t t' : List ℕ} {place : ℕ} (i : ℕ) → HasThread t i → Whole t → ((s : State) → said t ≡ s → place ≡ tail_place i s.threads)
    → Becomes t t' (on_threads (join i)) → (s : State) → said t' ≡ s → place ≡ (at s.threads i).place
joined {t} i h w taken p s e =
    taken _ refl
    ∙ sym (join_place i (said t).threads (omega (arith, (sized w.long refl).threads)))
    ∙ ap (λ z. (at z.threads i).place) (sym (p.holds _ (whole_holds w)).says ∙ e)
