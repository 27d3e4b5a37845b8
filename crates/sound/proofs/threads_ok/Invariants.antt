-- `sound::threads_ok` meets its contract: the threads so far pass, where they stand is noted, and their bits are the word of their lines. Assumes nothing.
use mathlib.Core.Path.{◌≡◌}
use Prim.Native.Nat.{ℕ, ◌<◌}
use lib.ListN.{take}
use Rattle.rules.specs.State.{State}
use Rattle.rules.specs.Lines.{ready_word}
use Rattle.layout.specs.Held.{said}
use Rattle.sound.specs.Tested.{Noted, Passes}
use Rattle.sound.proofs.threads_ok.Given as goal

abbrev pub invariant-loop-i : goal.invariant-loop-i
invariant-loop-i l = (s : State) → said l.t ≡ s → ((k : ℕ) → k < l.i → Passes l.t s k) × Noted l.noted s.threads l.i × (l.word ≡ ready_word (take l.i s.threads))
