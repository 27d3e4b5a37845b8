-- Soundness is kept by many ticks, one after the other, and by the question for the nearest end of a wait. Assumes nothing.
use Prim.Native.Nat.{ℕ, zero, suc}
use Rattle.rules.specs.State.{State}
use Rattle.rules.specs.Waiting.{Step}
use Rattle.rules.specs.Threads.{bad_ticks}
use Rattle.rules.specs.Time.{do_tick}
use Rattle.rules.specs.Sleep.{ticks, do_ticks, do_nearest}
use Rattle.rules.specs.Sound.{Sound}
use Rattle.laws.proofs.Split.{if_case}
use Rattle.preservation.proofs.Safe.{Safe}
use Rattle.preservation.proofs.Time.{safe_tick}

pub sound_ticks : (n : ℕ) (s : State) → Sound s → Sound (ticks n s)
unfolding ticks Safe
sound_ticks zero s σ = σ
sound_ticks (suc n) s σ = sound_ticks n (do_tick s).state (safe_tick s σ)

pub safe_ticks : (s : State) → Sound s → (n : ℕ) → Safe (do_ticks s n)
unfolding do_ticks Safe
safe_ticks s σ n = if_case (λ (r : Step). Sound r.state) (bad_ticks n) (λ e. σ) (λ e. sound_ticks n s σ)

pub safe_nearest : (s : State) → Sound s → Safe (do_nearest s)
unfolding do_nearest Safe
safe_nearest s σ = σ
