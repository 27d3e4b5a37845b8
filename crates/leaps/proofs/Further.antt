-- The events of ticks, and then of more of them, are those of all of them together. Assumes nothing.
use mathlib.Core.Path.{◌≡◌, refl, ap, ◌∙◌}
use mathlib.Core.List.{◌∷◌, ◌++◌}
use Prim.Native.Nat.{ℕ, zero, suc, ◌+◌}
use native.Mathlib.Omega.{arith}
use lib.ListN.{length}
use Rattle.rules.specs.State.{State}
use Rattle.rules.specs.Time.{do_tick}
use Rattle.rules.specs.Sleep.{ticks}
use Rattle.leaps.specs.Charges.{tick_event, tick_events}

pub events_further : (m n : ℕ) (s : State) → tick_events (m + n) s ≡ tick_events m s ++ tick_events n (ticks m s)
unfolding ticks tick_events
events_further zero n s = let none : 0 + n ≡ n = omega arith in ap (λ k. tick_events k s) none
events_further (suc m) n s =
    let one : suc m + n ≡ suc (m + n) = omega arith in
    ap (λ k. tick_events k s) one ∙ ap (λ es. tick_event s ∷ es) (events_further m n (do_tick s).state)

pub length_ticks : (n : ℕ) (s : State) → length (tick_events n s) ≡ n
unfolding tick_events
length_ticks zero s = refl
length_ticks (suc n) s = ap suc (length_ticks n (do_tick s).state)
