-- Who is first of a line, as a search through the threads in their order finds it. Assumes nothing.
use Rattle.std.specs.Prelude.{Option, Some, None, MatchOption, IfSome}
use mathlib.Core.Bool.{true, false}
use mathlib.Core.Path.{◌≡◌, refl}
use mathlib.Core.List.{List}
use Prim.Native.Nat.{ℕ, ◌≤◌, ◌<◌}
use native.Mathlib.Omega.{arith}
use borrow.Author.Tests.{lt-ltb, le-ltb, ltb-true, ltb-false}
use lib.Dec.{ltb}
use lib.ListN.{length}
use Rattle.rules.specs.Lines.{Line, is_first, first}
use Rattle.rules.specs.State.{free, at}
use Rattle.rules.specs.declared.Thread.{Thread}
use Rattle.laws.proofs.Split.{is, isnt, test}
use Rattle.laws.proofs.Turns.{find_at, find_none}
use Rattle.layout.specs.Boards.{HasThread}
use Rattle.layout.specs.Held.{Long, said}
use Rattle.layout.proofs.Boards.{sized}
use Rattle.lines.specs.First.{first_if_any}

pub first_found : (l : Line) (ts : List Thread) (n : ℕ) (r : Option ℕ) → length ts ≡ n
    → MatchOption r ((k : ℕ) → 0 ≤ k → k < n → is_first l (at ts k) ≡ false)
    (λ i. (0 ≤ i) × (i < n) × (is_first l (at ts i) ≡ true) × ((k : ℕ) → 0 ≤ k → k < i → is_first l (at ts k) ≡ false))
    → r ≡ first_if_any l ts
first_found l ts n None e h = rw (find_none (is_first l) free ts (λ k o. h k (omega arith) (omega arith)), le-ltb (length ts) (length ts) (omega arith))
first_found l ts n (Some i) e h = rw (find_at (is_first l) free ts i (omega arith) (λ k o. h.3 k (omega arith) o) h.2, lt-ltb i (length ts) (omega arith))

-- what an answer says of the rule's number
pub first_some : (l : Line) (ts : List Thread) {i : ℕ} → Some i ≡ first_if_any l ts → (i ≡ first l ts) × (i < length ts)
first_some l ts {i} e = elim (test (ltb (first l ts) (length ts))) [
  | is h ↦ let same : ◌≡◌ {A = Option ℕ} (Some i) (Some (first l ts)) = rw h at e in
      let own : i ≡ first l ts = cc in (own, omega (arith, own, ltb-true (first l ts) (length ts) h))
  | isnt h ↦ let none : ◌≡◌ {A = Option ℕ} (Some i) None = rw h at e in absurd cc
]

pub first_none : (l : Line) (ts : List Thread) → None ≡ first_if_any l ts → length ts ≤ first l ts
first_none l ts e = elim (test (ltb (first l ts) (length ts))) [
  | is h ↦ let some : ◌≡◌ {A = Option ℕ} None (Some (first l ts)) = rw h at e in absurd cc
  | isnt h ↦ ltb-false (first l ts) (length ts) h
]

pub first_inside : {t : List ℕ} → Long t → (l : Line) (r : Option ℕ) → r ≡ first_if_any l (said t).threads → IfSome r (HasThread t)
first_inside long l None e = tt
first_inside long l (Some i) e = omega (arith, (first_some l _ e).1, (sized long refl).threads)
