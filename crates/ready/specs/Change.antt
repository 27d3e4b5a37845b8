-- What a closure is asked to do to a table on which a thread goes from one line to another.
use Rattle.std.specs.Prelude.{List, ℕ}
use Rattle.std.specs.Borrow.{MutBor}
use Rattle.std.specs.Fn.{Once, FnOnceTakesAtMut, FnOnceReturnsAtMut}
use Rattle.rules.specs.State.{edit}
use Rattle.rules.specs.declared.Thread.{Thread}
use Rattle.layout.specs.Boards.{HasThread}
use Rattle.layout.specs.Held.{Whole, Changes, on_threads}

-- it may be called on any whole table that has thread i, and changes that thread's record by the rule
pub record ChangesThread {F : Type 0} (g : Once F (MutBor (List ℕ) × Unit {0}) (Unit {0} × (MutBor (List ℕ) × Unit {0}))) (change : F) (i : ℕ) (rule : Thread → Thread) : Type 0 where
  pub callable : (t : List ℕ) → HasThread t i → Whole t → FnOnceTakesAtMut g change t
  pub changes : (t t' : List ℕ) → HasThread t i → Whole t → FnOnceReturnsAtMut g change t tt t' → Changes t t' (on_threads (edit i rule))
