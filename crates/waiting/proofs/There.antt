-- Which numbers are a thread's: one out of range reads as a free record, so a thread in use is on the board. Assumes nothing.
use mathlib.Core.Bool.{true}
use mathlib.Core.Path.{◌≡◌, refl, sym, ap, ◌∙◌}
use mathlib.Core.List.{List}
use Prim.Native.Nat.{ℕ}
use native.Mathlib.Omega.{arith}
use Rattle.rules.specs.State.{State, at}
use Rattle.rules.specs.declared.Thread.{Thread}
use Rattle.laws.proofs.Members.{used_range}
use Rattle.layout.specs.Boards.{HasThread}
use Rattle.layout.specs.Held.{Long, said}
use Rattle.layout.proofs.Boards.{sized}

pub there : {t : List ℕ} {i : ℕ} {x : Thread} → Long t → ((s : State) → said t ≡ s → x ≡ at s.threads i) → x.used ≡ true → HasThread t i
there {t} {i} l is e =
    let ts = (said t).threads in
    omega (arith, (sized l refl).threads, used_range ts i (sym (ap (λ x. x.used) (is (said t) refl)) ∙ e))
