-- What a leap with lock 0 is, and what it is in each of its arms. Assumes nothing.
use mathlib.Core.Path.{◌≡◌}
use mathlib.Core.Logic.{◌≢◌}
use Prim.Native.Nat.{ℕ, pred, ◌/◌, ◌≤◌, ◌<◌, min}
use borrow.Author.Tests.{eq-eqb, ne_eqb, le-leb, lt-leb}
use Rattle.rules.specs.State.{State, caller, counter_of}
use Rattle.fairness.specs.Run.{sum_turns}
use Rattle.leaps.specs.Ticks.{quiet_of, tick_of, rounds_of, turn_of, leap_unlocked, leap}

module _ (q : ℕ) (s : State) where
  pub by_rounds : (R : ℕ) → sum_turns (caller s).priority s.threads ≡ R → R ≤ q → leap_unlocked q s ≡ rounds_of (q / R) R s
  unfolding leap_unlocked
  by_rounds R e l = rw (e, le-leb R q l)

  pub by_tick : q < sum_turns (caller s).priority s.threads → counter_of (caller s).wait ≤ 1 → leap_unlocked q s ≡ tick_of s
  unfolding leap_unlocked
  by_tick l k = rw (lt-leb (sum_turns (caller s).priority s.threads) q l, le-leb (counter_of (caller s).wait) 1 k)

  pub by_turn : q < sum_turns (caller s).priority s.threads → 1 < counter_of (caller s).wait → leap_unlocked q s ≡ turn_of (min q (pred (counter_of (caller s).wait))) s
  unfolding leap_unlocked
  by_turn l k = rw (lt-leb (sum_turns (caller s).priority s.threads) q l, lt-leb (counter_of (caller s).wait) 1 k)

pub by_rank : (n q : ℕ) (s : State) → quiet_of n s.threads ≡ q → q ≢ 0 → s.lock ≡ 0 → leap n s ≡ leap_unlocked q s
unfolding leap
by_rank n q s e k z = rw (e, ne_eqb q 0 k, eq-eqb s.lock 0 z)
