-- What is noted of the threads: nothing at first, then of one more at a time, and at the end of all. By what is noted of all of them a
-- thread is well placed exactly when it is by the rule, for numbers tell lines apart. Assumes nothing.
use mathlib.Core.Bool.{Bool, false}
use mathlib.Core.Path.{◌≡◌, refl, ap, sym, ◌∙◌}
use mathlib.Core.List.{List}
use Prim.Native.Nat.{ℕ, zero, suc, ◌+◌, ◌*◌, ◌<◌}
use native.Mathlib.Omega.{arith}
use native.Mathlib.Decide.{ℕ_discrete}
use borrow.Author.Tests.{eq-eqb, ne_eqb}
use lib.Dec.{eqb}
use lib.ListN.{length, get_or, set, replicate, length-set, length-replicate}
use lib.Seq.{get_or-set_same, get_or-set_other}
use Rattle.rules.specs.Basic.{count}
use Rattle.rules.specs.State.{free, at}
use Rattle.rules.specs.Lines.{Line, nowhere, ready, waiters, senders, same, line, in_line, line_length}
use Rattle.rules.specs.Test.{is_nowhere, stands_at, place_ok}
use Rattle.rules.specs.declared.Thread.{Thread}
use Rattle.laws.proofs.Split.{is, isnt, test, clash}
use Rattle.layout.specs.Boards.{HasThread}
use Rattle.layout.specs.Held.{Long}
use Rattle.layout.proofs.Boards.{counted}
use Rattle.marks.specs.Numbers.{line_number}
use Rattle.marks.proofs.Numbered.{same_none, same_number}
use Rattle.places.specs.Rings.{Entries, count_below, entry_in, entry_at, placed, ring_length}
use Rattle.places.proofs.Below.{count_same, count_list}
use Rattle.sound.specs.Tested.{Noted}

-- ONE MORE

-- a ring has room for every thread of a table
pub room : {t : List ℕ} → Long t → (i : ℕ) → HasThread t i → i < ring_length
room {t} l i h = let c = counted t l in omega (arith, c.threads, c.most)

zeros : (m n : ℕ) → get_or {A = ℕ} (replicate m 0) n 0 ≡ 0
zeros zero n = refl
zeros (suc m) zero = refl
zeros (suc m) (suc n) = zeros m n

pub nothing_yet : {noted : Entries} (ts : List Thread) → noted.lines ≡ replicate ring_length 0 → noted.places ≡ replicate ring_length 0 → Noted noted ts 0
nothing_yet ts l p = record {
  numbered = λ k h. absurd (omega arith);
  placed = λ k h. absurd (omega arith);
  room = rw (l, p) (length-replicate {A = ℕ} ring_length 0, length-replicate {A = ℕ} ring_length 0);
  rest = λ k h. rw (l, p) (zeros ring_length k, zeros ring_length k);
}

module _ {noted : Entries} {ts : List Thread} {i : ℕ} (old : Noted noted ts i) where
  -- of a thread in no line nothing has to be noted
  pub notes_none : line (at ts i) ≡ nowhere → (at ts i).place ≡ 0 → Noted noted ts (i + 1)
  notes_none out none = record {
    numbered = λ k h. elim (ℕ_discrete k i) [ yes e ↦ rw (e, out) (old.rest i (omega arith)).0 | no e ↦ old.numbered k (omega arith) ];
    placed = λ k h. elim (ℕ_discrete k i) [ yes e ↦ rw (e, none) (old.rest i (omega arith)).1 | no e ↦ old.placed k (omega arith) ];
    room = old.room;
    rest = λ k h. old.rest k (omega arith);
  }

  pub notes : i < ring_length → {new : Entries} {number place : ℕ} → new.lines ≡ set noted.lines i number → new.places ≡ set noted.places i place
      → number ≡ line_number (line (at ts i)) → place ≡ (at ts i).place → Noted new ts (i + 1)
  notes h {new} {number} {place} lines places n p = record {
    numbered = λ k q. rw lines (elim (ℕ_discrete k i) [
      | yes e ↦ rw e (get_or-set_same noted.lines i number 0 (omega (arith, old.room.0)) ∙ n)
      | no e ↦ get_or-set_other noted.lines i k number 0 e ∙ old.numbered k (omega arith)
    ]);
    placed = λ k q. rw places (elim (ℕ_discrete k i) [
      | yes e ↦ rw e (get_or-set_same noted.places i place 0 (omega (arith, old.room.1)) ∙ p)
      | no e ↦ get_or-set_other noted.places i k place 0 e ∙ old.placed k (omega arith)
    ]);
    room = rw (lines, places) (length-set noted.lines i number ∙ old.room.0, length-set noted.places i place ∙ old.room.1);
    rest = λ k q. rw (lines, places) (
      get_or-set_other noted.lines i k number 0 (omega arith) ∙ (old.rest k (omega arith)).0,
      get_or-set_other noted.places i k place 0 (omega arith) ∙ (old.rest k (omega arith)).1,
    );
  }

-- BY THE RULE

none_or_not : (l : Line) → eqb (line_number l) 0 ≡ is_nowhere l
none_or_not nowhere = refl
none_or_not (ready p) = ne_eqb (3 * p + 1) 0 (omega arith)
none_or_not (waiters p) = ne_eqb (3 * p + 2) 0 (omega arith)
none_or_not (senders p) = ne_eqb (3 * p + 3) 0 (omega arith)

-- two lines have one number exactly when they are one line
one_number : (a b : Line) → is_nowhere b ≡ false → eqb (line_number a) (line_number b) ≡ same a b
one_number a b h = elim (ℕ_discrete (line_number a) 0) [
  | yes z ↦ ne_eqb (line_number a) (line_number b) (λ e. clash (sym (none_or_not b) ∙ eq-eqb (line_number b) 0 (sym e ∙ z)) h) ∙ sym (same_none a b z)
  | no n ↦ sym (same_number a b n)
]

module _ {noted : Entries} (ts : List Thread) {n : ℕ} (long : length ts ≡ n) (all : Noted noted ts n) where
  -- a count over what is noted is one over the threads
  count_noted : (f : ℕ → Bool) (g : Thread → Bool) → ((k : ℕ) → k < n → f k ≡ g (at ts k)) → count_below n f ≡ count g ts
  count_noted f g h = count_same n f (λ k. g (at ts k)) h ∙ ap (λ n. count_below n (λ k. g (at ts k))) (sym long) ∙ count_list g free ts

  module _ (l : Line) (somewhere : is_nowhere l ≡ false) where
    in_line_lem : (k : ℕ) → k < n → entry_in noted.lines (line_number l) k ≡ in_line l (at ts k)
    in_line_lem k h = ap (λ x. eqb x (line_number l)) (all.numbered k h) ∙ one_number (line (at ts k)) l somewhere

    line_long : count_below n (entry_in noted.lines (line_number l)) ≡ line_length l ts
    line_long = count_noted (entry_in noted.lines (line_number l)) (in_line l) in_line_lem

    many_there : (place : ℕ) → count_below n (entry_at noted.lines noted.places (line_number l) place) ≡ count (stands_at l place) ts
    many_there place = count_noted (entry_at noted.lines noted.places (line_number l) place) (stands_at l place) (λ k h. rw (in_line_lem k h, all.placed k h))

  pub by_rule_lem : (j : ℕ) → j < n → placed n noted.lines noted.places j ≡ place_ok ts (at ts j)
  unfolding placed place_ok
  by_rule_lem j h = rw (all.numbered j h, all.placed j h, none_or_not (line (at ts j))) (elim (test (is_nowhere (line (at ts j)))) [
    | is e ↦ rw e
    | isnt e ↦ rw (e, line_long (line (at ts j)) e, many_there (line (at ts j)) e (at ts j).place)
  ])
