-- `accounts::charges::enter_ticks` meets its contract: each leap enters some of the ticks that are left, and leaves a sound table. Assumes nothing.
use mathlib.Core.Path.{◌≡◌}
use Prim.Native.Nat.{◌-◌, ◌≤◌}
use Rattle.rules.specs.Sleep.{ticks}
use Rattle.layout.specs.Held.{said, Becomes}
use Rattle.waiting.specs.Does.{Serves}
use Rattle.leaps.specs.Charges.{tick_events}
use Rattle.accounts.specs.Accounts.{accounts_from}
use Rattle.accounts.proofs.charges.enter_ticks.Given as goal

abbrev pub invariant-loop-left : goal.invariant-loop-left
invariant-loop-left l =
    (l.left ≤ l.n) × Serves l.t × Becomes l.initial.t l.t (ticks (l.n - l.left))
    × (l.accounts ≡ accounts_from 0 l.initial.accounts (tick_events (l.n - l.left) (said l.initial.t)))

abbrev pub decreases-loop-left : goal.decreases-loop-left
decreases-loop-left l = l.left
