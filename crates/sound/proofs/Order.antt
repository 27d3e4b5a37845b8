-- What need not be asked of the outcome of a wait. Assumes nothing.
use mathlib.Core.Bool.{true, false}
use mathlib.Core.Path.{◌≡◌, refl}
use Rattle.rules.specs.State.{waiting, sending}
use Rattle.rules.specs.Test.{is_done, is_none_yet}
use Rattle.rules.specs.declared.Wait.{Wait}
use Rattle.rules.specs.declared.Wait.TheVariants.{Nothing, Delay, Receive, Send, Semaphore}
use Rattle.rules.specs.declared.Outcome.{Outcome}
use Rattle.rules.specs.declared.Outcome.TheVariants.{Done, NoneYet, Failed}
use Rattle.laws.proofs.Split.{clash}

-- who waits for nothing sends nothing, and an outcome that is none yet is not done
pub idle_sends : (w : Wait) → waiting w ≡ false → sending w ≡ false
idle_sends (Nothing n) e = refl
idle_sends (Delay n) e = refl
idle_sends (Receive n) e = refl
idle_sends (Send to n) e = absurd (clash refl e)
idle_sends (Semaphore on n) e = refl

pub none_done : (o : Outcome) → is_none_yet o ≡ true → is_done o ≡ false
none_done Done e = absurd (clash e refl)
none_done NoneYet e = refl
none_done Failed e = refl
