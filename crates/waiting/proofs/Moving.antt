-- What a move does between the line that it leaves and the line that it joins, where writes in a row are one change of a thread, and the
-- place that it then has. Assumes nothing.
use mathlib.Core.Path.{◌≡◌, refl, ap, sym, ◌∙◌}
use mathlib.Core.List.{List}
use Prim.Native.Nat.{ℕ}
use native.Mathlib.Omega.{arith}
use Rattle.rules.specs.State.{State, at, edit, with_threads}
use Rattle.rules.specs.Lines.{tail_place, join}
use Rattle.rules.specs.declared.Thread.{Thread}
use Rattle.laws.proofs.Moves.{join_place}
use Rattle.layout.specs.Held.{said, Whole, Becomes, on_threads}
use Rattle.layout.specs.Boards.{HasThread}
use Rattle.layout.proofs.Boards.{sized}
use Rattle.layout.proofs.Held.{◌⨾◌, becomes_as, edit_edit, whole_holds, holds_sized}

pub edits : {t t1 t2 : List ℕ} (i : ℕ) (f g : Thread → Thread) → HasThread t i → Becomes t t1 (on_threads (edit i f)) → Becomes t1 t2 (on_threads (edit i g))
    → Becomes t t2 (on_threads (edit i (λ x. g (f x))))
edits i f g h p q = becomes_as (p ⨾ q) (λ s r. let n = (holds_sized r).threads in ap (λ ts. with_threads ts s) (edit_edit s.threads i f g (omega arith)))

-- the place that a thread takes where it joins is the place that it has then
pub joined : {t t' : List ℕ} {place : ℕ} (i : ℕ) → HasThread t i → Whole t → ((s : State) → said t ≡ s → place ≡ tail_place i s.threads)
    → Becomes t t' (on_threads (join i)) → (s : State) → said t' ≡ s → place ≡ (at s.threads i).place
joined {t} i h w taken p s e =
    taken _ refl
    ∙ sym (join_place i (said t).threads (omega (arith, (sized w.long refl).threads)))
    ∙ ap (λ z. (at z.threads i).place) (sym (p.holds _ (whole_holds w)).says ∙ e)
