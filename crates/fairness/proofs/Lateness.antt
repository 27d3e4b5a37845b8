-- The bounds at every moment: an unbroken part of a run is a window of the rank's line, and its two dues bound what is charged in it.
-- Assumes nothing.
use Prim.Native.Nat.{ℕ}
use Rattle.fairness.specs.Lateness.{Bound, Near, InTime, Even, AtEveryMoment}
use Rattle.fairness.proofs.Rank.{Cell, turns, Window, window_near, window_in_time, window_even}
use Rattle.fairness.proofs.Fair.{part_of}

-- what holds of every window holds at every moment
at_every_moment : (B : Bound) → ((n i : ℕ) (v v' : ℕ → Cell) (m c : ℕ) → Window n i v v' m c → B (turns n v) (v i).turn m c) → AtEveryMoment B
at_every_moment B f p s before part behind σ h k i m =
    let x = part_of p s before part behind σ h k i m in
    rw (x.sum, x.turn) at (f _ _ _ _ _ _ x.window)

pub never_far : AtEveryMoment Near
never_far = at_every_moment Near (λ n i v v' m c x. window_near x)

pub never_late : AtEveryMoment InTime
never_late = at_every_moment InTime (λ n i v v' m c x. window_in_time x)

pub equal_lanes : AtEveryMoment Even
equal_lanes = at_every_moment Even (λ n i v v' m c x. window_even x)
