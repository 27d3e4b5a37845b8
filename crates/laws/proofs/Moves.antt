-- `leave`, `join` and `move`, thread by thread: whoever stands behind moves up, and the one that moves takes the tail.
-- No other proof opens them. Assumes nothing.
use mathlib.Core.Bool.{true, false, ◌&&◌}
use mathlib.Core.Path.{◌≡◌, refl, ap, ◌∙◌}
use mathlib.Core.Logic.{◌≢◌}
use mathlib.Core.List.{List}
use Prim.Native.Nat.{ℕ, pred, ◌≤◌, ◌<◌}
use native.Mathlib.Omega.{arith}
use native.Mathlib.Decide.{dec_le}
use lib.Dec.{ltb}
use borrow.Author.Tests.{le-ltb, lt-ltb}
use lib.ListN.{length, length-map, get_or-eq_default}
use lib.Seq.{ext_get_or}
use Rattle.rules.specs.State.{free, at, edit, with_place}
use Rattle.rules.specs.Lines.{Line, line, in_line, line_length, move_up, leave, filled, tail_place, join, move}
use Rattle.rules.specs.declared.Thread.{Thread}
use Rattle.laws.proofs.Split.{is, isnt, test, clash, if_case}
use Rattle.laws.proofs.Lines.{same_nowhere, filled_field}
use Rattle.laws.proofs.Members.{edit_same, edit_other, length_edit, map_at}

pub length_leave : (i : ℕ) (ts : List Thread) → length (leave i ts) ≡ length ts
unfolding leave
length_leave i ts = simp (length-map, length_edit)

pub length_join : (i : ℕ) (ts : List Thread) → length (join i ts) ≡ length ts
unfolding join
length_join i ts = length_edit ts i (λ t. filled (with_place (tail_place i ts) t))

pub length_move : (i : ℕ) (g : Thread → Thread) (ts : List Thread) → length (move i g ts) ≡ length ts
unfolding move
length_move i g ts = simp (length_join, length_edit, length_leave)

-- MOVING UP

pub move_up_not : (l : Line) (q : ℕ) (t : Thread) → in_line l t ≡ false → move_up l q t ≡ t
move_up_not l q t e = rw e

pub move_up_low : (l : Line) (q : ℕ) (t : Thread) → t.place ≤ q → move_up l q t ≡ t
move_up_low l q t h = elim (test (in_line l t)) [
  | is e ↦ rw (e, le-ltb q t.place h)
  | isnt e ↦ rw e
]

pub move_up_behind : (l : Line) (q : ℕ) (t : Thread) → in_line l t ≡ true → q < t.place → move_up l q t ≡ with_place (pred t.place) t
move_up_behind l q t e h = rw (e, lt-ltb q t.place h)

-- a thread stays, or steps up by one
pub data Shifted (l : Line) (q : ℕ) (t : Thread) : Type 0 where
  stays : (move_up l q t).place ≡ t.place → (in_line l t ≡ true → t.place ≤ q) → Shifted l q t
  steps : (move_up l q t).place ≡ pred t.place → in_line l t ≡ true → q < t.place → Shifted l q t

pub shifted : (l : Line) (q : ℕ) (t : Thread) → Shifted l q t
shifted l q t = elim (test (in_line l t)) [
  | isnt e ↦ stays (ap (λ u. u.place) (move_up_not l q t e)) (λ m. absurd (clash m e))
  | is e ↦ elim (dec_le t.place q) [
    | yes h ↦ stays (ap (λ u. u.place) (move_up_low l q t h)) (λ m. h)
    | no h ↦ steps (ap (λ u. u.place) (move_up_behind l q t e (omega arith))) e (omega arith)
  ]
]

-- what the place does not bear on
pub move_up_field : {A : Type 0} (f : Thread → A) (l : Line) (q : ℕ) (t : Thread) → f (with_place (pred t.place) t) ≡ f t → f (move_up l q t) ≡ f t
move_up_field f l q t e = if_case (λ (u : Thread). f u ≡ f t) (in_line l t && ltb q t.place) (λ a. e) (λ a. refl)

-- LEAVE AND JOIN

pub leave_other : (i j : ℕ) (ts : List Thread) → j ≢ i → at (leave i ts) j ≡ move_up (line (at ts i)) (at ts i).place (at ts j)
unfolding leave
leave_other i j ts h = rw (map_at (edit i (with_place 0) ts) j (move_up (line (at ts i)) (at ts i).place) refl, edit_other ts i j (with_place 0) h)

pub leave_self : (i : ℕ) (ts : List Thread) → i < length ts → at (leave i ts) i ≡ with_place 0 (at ts i)
unfolding leave
leave_self i ts h =
    map_at (edit i (with_place 0) ts) i (move_up (line (at ts i)) (at ts i).place) refl
    ∙ rw (edit_same ts i (with_place 0) h) (move_up_low (line (at ts i)) (at ts i).place (with_place 0 (at ts i)) (omega arith))

join_other : (i j : ℕ) (ts : List Thread) → j ≢ i → at (join i ts) j ≡ at ts j
unfolding join
join_other i j ts h = edit_other ts i j (λ t. filled (with_place (tail_place i ts) t)) h

join_self : (i : ℕ) (ts : List Thread) → i < length ts → at (join i ts) i ≡ filled (with_place (tail_place i ts) (at ts i))
unfolding join
join_self i ts h = edit_same ts i (λ t. filled (with_place (tail_place i ts) t)) h

-- the place that is taken
pub join_place : (i : ℕ) (ts : List Thread) → i < length ts → (at (join i ts) i).place ≡ tail_place i ts
join_place i ts h = ap (λ t. t.place) (join_self i ts h) ∙ filled_field (λ t. t.place) (with_place (tail_place i ts) (at ts i)) refl

-- MOVE

pub move_other : (i j : ℕ) (g : Thread → Thread) (ts : List Thread) → j ≢ i → at (move i g ts) j ≡ move_up (line (at ts i)) (at ts i).place (at ts j)
unfolding move
move_other i j g ts h = join_other i j (edit i g (leave i ts)) h ∙ edit_other (leave i ts) i j g h ∙ leave_other i j ts h

-- the list right before thread i joins
pub changed : ℕ → (Thread → Thread) → List Thread → List Thread
changed i g ts = edit i g (leave i ts)

pub changed_self : (i : ℕ) (g : Thread → Thread) (ts : List Thread) → i < length ts → at (changed i g ts) i ≡ g (with_place 0 (at ts i))
unfolding changed
changed_self i g ts h = edit_same (leave i ts) i g (rw (length_leave i ts) h) ∙ ap g (leave_self i ts h)

pub changed_other : (i j : ℕ) (g : Thread → Thread) (ts : List Thread) → j ≢ i → at (changed i g ts) j ≡ move_up (line (at ts i)) (at ts i).place (at ts j)
unfolding changed
changed_other i j g ts h = edit_other (leave i ts) i j g h ∙ leave_other i j ts h

pub length_changed : (i : ℕ) (g : Thread → Thread) (ts : List Thread) → length (changed i g ts) ≡ length ts
unfolding changed
length_changed i g ts = length_edit (leave i ts) i g ∙ length_leave i ts

pub move_self : (i : ℕ) (g : Thread → Thread) (ts : List Thread) → i < length ts
    → at (move i g ts) i ≡ filled (with_place (line_length (line (g (with_place 0 (at ts i)))) (changed i g ts)) (g (with_place 0 (at ts i))))
unfolding move changed
move_self i g ts h =
    join_self i (changed i g ts) (rw (length_changed i g ts) h)
    ∙ ap (λ t. filled (with_place (line_length (line t) (changed i g ts)) t)) (changed_self i g ts h)

-- a number out of range moves nobody
pub move_out : (i : ℕ) (g : Thread → Thread) (ts : List Thread) → length ts ≤ i → move i g ts ≡ ts
move_out i g ts h = ext_get_or free (move i g ts) ts (length_move i g ts) (λ j k.
    let k' : j < length ts = rw (length_move i g ts) at k in
    move_other i j g ts (omega arith)
    ∙ move_up_not (line (at ts i)) (at ts i).place (at ts j) (rw (get_or-eq_default ts free h) (same_nowhere (line (at ts j)))))
