-- What a change of the threads' records does to the members of one rank's ready line: it keeps them, with place, counter and turn.
-- A `move` or an `edit` of a thread that is no member keeps the rank, whatever the set is afterwards. Assumes nothing.
use mathlib.Core.Bool.{true, false}
use mathlib.Core.Path.{◌≡◌, refl, ◌∙◌}
use mathlib.Core.List.{List}
use Prim.Native.Nat.{ℕ}
use native.Mathlib.Decide.{ℕ_discrete}
use Rattle.rules.specs.State.{at, edit, counter_of}
use Rattle.rules.specs.Lines.{line, in_line, ready, move}
use Rattle.rules.specs.declared.Thread.{Thread}
use Rattle.laws.proofs.Split.{clash}
use Rattle.laws.proofs.Lines.{lines_apart}
use Rattle.laws.proofs.Members.{edit_same, edit_other, in_range}
use Rattle.laws.proofs.Moves.{move_other, move_up_not}

pub record Kept (p : ℕ) (t t' : Thread) : Type 0 where
  pub member : in_line (ready p) t' ≡ true
  pub place : t'.place ≡ t.place
  pub counter : counter_of t'.wait ≡ counter_of t.wait
  pub turn : t'.turn ≡ t.turn

unfoldable pub Keeps : ℕ → List Thread → List Thread → Type 0
Keeps p ts us = (i : ℕ) → in_line (ready p) (at ts i) ≡ true → Kept p (at ts i) (at us i)

-- the rank's ready set is the same
unfoldable pub Same : ℕ → List Thread → List Thread → Type 0
Same p ts us = (i : ℕ) → in_line (ready p) (at us i) ≡ in_line (ready p) (at ts i)

kept_eq : (p : ℕ) (t t' : Thread) → t' ≡ t → in_line (ready p) t ≡ true → Kept p t t'
kept_eq p t t' e m = rw e (record { member = m; place = refl; counter = refl; turn = refl })

pub keeps_refl : (p : ℕ) (ts : List Thread) → Keeps p ts ts
unfolding Keeps
keeps_refl p ts i m = kept_eq p (at ts i) (at ts i) refl m

pub keeps_trans : (p : ℕ) (ts us ws : List Thread) → Keeps p ts us → Keeps p us ws → Keeps p ts ws
unfolding Keeps
keeps_trans p ts us ws f g i m =
    let a = f i m in
    let b = g i a.member in
    record { member = b.member; place = b.place ∙ a.place; counter = b.counter ∙ a.counter; turn = b.turn ∙ a.turn }

-- thread i, which is no member, is edited
pub keeps_off : (p i : ℕ) (g : Thread → Thread) (ts : List Thread) → in_line (ready p) (at ts i) ≡ false → Keeps p ts (edit i g ts)
unfolding Keeps
keeps_off p i g ts e j m = elim (ℕ_discrete j i) [
  | yes q ↦ absurd (clash m (rw q e))
  | no q ↦ kept_eq p (at ts j) (at (edit i g ts) j) (edit_other ts i j g q) m
]

-- thread i is edited, and stays as it is if it is a member
pub keeps_edit : (p i : ℕ) (g : Thread → Thread) (ts : List Thread) → (in_line (ready p) (at ts i) ≡ true → Kept p (at ts i) (g (at ts i))) → Keeps p ts (edit i g ts)
unfolding Keeps
keeps_edit p i g ts h j m = elim (ℕ_discrete j i) [
  | yes q ↦ rw (q, edit_same ts i g (in_range ts i (ready p) (rw q at m))) (h (rw q at m))
  | no q ↦ kept_eq p (at ts j) (at (edit i g ts) j) (edit_other ts i j g q) m
]

-- thread i, which is no member, moves
pub keeps_move : (p i : ℕ) (g : Thread → Thread) (ts : List Thread) → in_line (ready p) (at ts i) ≡ false → Keeps p ts (move i g ts)
unfolding Keeps
keeps_move p i g ts e j m = elim (ℕ_discrete j i) [
  | yes q ↦ absurd (clash m (rw q e))
  | no q ↦
      let apart = lines_apart (line (at ts j)) (line (at ts i)) (ready p) m e in
      kept_eq p (at ts j) (at (move i g ts) j) (move_other i j g ts q ∙ move_up_not (line (at ts i)) (at ts i).place (at ts j) apart) m
]
