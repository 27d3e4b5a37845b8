-- The single ticks that a door is asked for, over bytes, are the ticks of the state that the table says: each leaves a sound table, which says what
-- the tick leaves. Assumes nothing.
use mathlib.Core.Path.{◌≡◌, refl, ap, ◌∙◌}
use mathlib.Core.List.{List, ◌∷◌}
use Prim.Native.Nat.{ℕ, zero, suc}
use lib.IntN.{pos}
use lib.ListN.{length}
use Rattle.rules.specs.Board.{Board}
use Rattle.rules.specs.Table.{encode, decode}
use Rattle.rules.specs.Sound.{SoundTable}
use Rattle.rules.specs.Time.{do_tick}
use Rattle.rules.specs.Answers.{area_length}
use Rattle.rules.specs.Door.{door}
use Rattle.rules.proofs.Tried.{tick_asked}
use Rattle.fairness.specs.Doors.{single_ticks}
use Rattle.fairness.proofs.Calls.{ticked, ticked_says, ticked_sound}
use Rattle.leaps.specs.Charges.{tick_events}

pub single_ticks_lem : (b : Board) (n : ℕ) (t a : List ℕ) → SoundTable b t → length a ≡ area_length → single_ticks b (door b) t a n ≡ tick_events n (decode b t)
unfolding single_ticks tick_events
single_ticks_lem b zero t a σ l = refl
single_ticks_lem b (suc n) t a σ l =
    let u = encode (do_tick (decode b t)).state in
    let rest = single_ticks_lem b n u a (ticked_sound b t σ) l ∙ ap (tick_events n) (ticked_says b t) in
    rw (ticked b t a σ l) (λ j. record { before = decode b t; asked = tick_asked j; code = pos 0; after = ticked_says b t j } ∷ rest j)
