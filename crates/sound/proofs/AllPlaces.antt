-- All threads together: the table's threads are sound exactly when each one is by itself and all are well placed. Assumes nothing.
use mathlib.Core.Bool.{true}
use mathlib.Core.Path.{◌≡◌, sym, ◌∙◌}
use mathlib.Core.List.{List}
use Prim.Native.Nat.{ℕ, ◌+◌, ◌*◌}
use native.Mathlib.Omega.{arith}
use lib.ListN.{length}
use Rattle.rules.specs.Basic.{all_below}
use Rattle.rules.specs.State.{State, at}
use Rattle.rules.specs.Lines.{ready_word}
use Rattle.rules.specs.Table.{word_at}
use Rattle.rules.specs.Test.{place_ok, thread_ok}
use Rattle.laws.proofs.Split.{and_true, and_both}
use Rattle.laws.proofs.Counts.{below_at, below_of}
use Rattle.layout.specs.Bytes.{word_from}
use Rattle.layout.specs.Boards.{HasThread, HasThreads}
use Rattle.layout.specs.Held.{board, Long, said}
use Rattle.layout.proofs.Boards.{counted, sized}
use Rattle.places.specs.Rings.{Entries, half, placed}
use Rattle.sound.specs.Tested.{Noted, Passes, Threads}
use Rattle.sound.proofs.Noting.{by_rule_lem}

-- every board's threads come in two halves
pub halves : {t : List ℕ} → Long t → {n : ℕ} → HasThreads t n → half n + half n ≡ n
halves {t} l {n} h = let twice : n ≡ 2 * (board t).sems = omega (arith, (counted t l).sems) in omega arith

module _ (t : List ℕ) (l : Long t) (s : State) (e : said t ≡ s) {n : ℕ} (h : HasThreads t n) {noted : Entries} (all : Noted noted s.threads n) where
  many : length s.threads ≡ n
  many = omega (arith, (sized l e).threads)

  pub all_passed : all_below n (placed n noted.lines noted.places) ≡ true → ((i : ℕ) → HasThread t i → Passes t s i) → word_at t (word_from (board t)) ≡ ready_word s.threads → Threads t s
  unfolding thread_ok
  all_passed ok passes right = record {
    canon = λ i q. (passes i q).canon;
    each = λ i q. and_both _ _ (sym (by_rule_lem s.threads many all i (omega arith)) ∙ below_at n (placed n noted.lines noted.places) ok i (omega arith)) (passes i q).own;
    word = right;
  }

  pub all_placed : Threads t s → all_below n (placed n noted.lines noted.places) ≡ true
  unfolding thread_ok
  all_placed w = below_of n (placed n noted.lines noted.places) (λ i q. by_rule_lem s.threads many all i q ∙ (and_true (place_ok s.threads (at s.threads i)) _ (w.each i (omega arith))).0)

pub each_passes : (t : List ℕ) (s : State) → Threads t s → (i : ℕ) → HasThread t i → Passes t s i
unfolding thread_ok
each_passes t s w i q = record {
  canon = w.canon i q;
  own = (and_true (place_ok s.threads (at s.threads i)) _ (w.each i q)).1;
}
