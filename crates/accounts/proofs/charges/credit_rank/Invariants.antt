-- `accounts::charges::credit_rank` meets its contract: before turn i the first i threads have their turns. Assumes nothing.
use mathlib.Core.List.{List}
use Prim.Native.Nat.{ℕ, ◌-◌, ◌≤◌}
use Rattle.rules.specs.Board.{printer}
use Rattle.rules.specs.State.{at}
use Rattle.rules.specs.Table.{decode}
use Rattle.leaps.specs.Charges.{turns_at}
use Rattle.accounts.proofs.Credits.{UpTo}
use Rattle.accounts.proofs.charges.credit_rank.Given as goal

-- what a thread of the table gets
abbrev turns : List ℕ → ℕ → ℕ → ℕ → ℕ
turns t p k i = turns_at p k (at (decode printer t).threads i)

abbrev pub invariant-loop-i : goal.invariant-loop-i
invariant-loop-i l = (l.i ≤ printer.threads) × UpTo (turns l.t l.priority l.rounds) l.i l.initial.accounts l.accounts

abbrev pub decreases-loop-i : goal.decreases-loop-i
decreases-loop-i l = 16 - l.i
