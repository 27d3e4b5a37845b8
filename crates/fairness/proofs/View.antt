-- A rank of a state as cells: the members' places, counters and turns, as `Rank` wants them; and a tick's charge as a step of the cells.
-- Assumes nothing.
use Rattle.std.specs.Prelude.{if◌then◌else◌}
use mathlib.Core.Bool.{true, false}
use mathlib.Core.Path.{◌≡◌, refl, ap, sym, ◌∙◌, fun_ext}
use mathlib.Core.Logic.{◌≢◌}
use mathlib.Core.List.{List}
use Prim.Native.Nat.{ℕ, pred, ◌+◌, ◌≤◌, ◌<◌}
use native.Mathlib.Omega.{arith}
use native.Mathlib.Decide.{ℕ_discrete}
use lib.ListN.{length}
use Rattle.rules.specs.State.{State, at, edit, counter_of, with_counter_of, with_place, with_counter}
use Rattle.rules.specs.Lines.{line, in_line, ready, line_length, move_up, move}
use Rattle.rules.specs.Sound.{Sound, SoundThread}
use Rattle.rules.specs.declared.Thread.{Thread}
use Rattle.rules.specs.declared.Wait.{Wait}
use Rattle.rules.specs.declared.Wait.TheVariants.{Nothing, Delay, Receive, Send, Semaphore}
use Rattle.laws.proofs.Split.{is, isnt, test, clash}
use Rattle.laws.proofs.Lines.{same_eq, in_ready, free_out, line_counter}
use Rattle.laws.proofs.Members.{edit_same, edit_other, in_range, count_ext}
use Rattle.laws.proofs.Moves.{move_up_not, move_up_behind, move_up_field, move_other, move_self, changed, changed_self, changed_other, length_changed}
use Rattle.fairness.proofs.Keeps.{Keeps, Same}
use Rattle.fairness.proofs.Rank.{Cell, Good, Goes, Turns}

abbrev pub cell : ℕ → Thread → Cell
cell p t = if in_line (ready p) t then record { place = t.place; counter = counter_of t.wait; turn = t.turn } else record { place = 0; counter = 0; turn = 0 }

unfoldable pub view : ℕ → List Thread → ℕ → Cell
view p ts j = cell p (at ts j)

pub view_in : (p : ℕ) (ts : List Thread) (j : ℕ) → in_line (ready p) (at ts j) ≡ true
    → view p ts j ≡ record { place = (at ts j).place; counter = counter_of (at ts j).wait; turn = (at ts j).turn }
unfolding view
view_in p ts j m = rw m

view_out : (p : ℕ) (ts : List Thread) (j : ℕ) → in_line (ready p) (at ts j) ≡ false → view p ts j ≡ record { place = 0; counter = 0; turn = 0 }
unfolding view
view_out p ts j m = rw m

-- a cell with a place is a member's
pub placed_in : (p : ℕ) (ts : List Thread) (j : ℕ) → 1 ≤ (view p ts j).place → in_line (ready p) (at ts j) ≡ true
placed_in p ts j h = elim (test (in_line (ready p) (at ts j))) [
  | is m ↦ m
  | isnt m ↦ absurd (omega (arith, ap (λ c. c.place) (view_out p ts j m)))
]

-- a member is in use
pub member_sound : (p : ℕ) (s : State) (j : ℕ) → Sound s → in_line (ready p) (at s.threads j) ≡ true → SoundThread (at s.threads j)
member_sound p s j σ m = elim (test (at s.threads j).used) [
  | is u ↦ σ.threads j u
  | isnt u ↦ absurd (clash m (free_out (ready p) (at s.threads j) u))
]

-- and has a place
pub member_place : (p : ℕ) (s : State) → Sound s → (j : ℕ) → in_line (ready p) (at s.threads j) ≡ true → 1 ≤ (view p s.threads j).place
member_place p s σ j m = rw (view_in p s.threads j m) (σ.lines.low (ready p) j m)

-- the members of a sound state's rank, all below n
pub good : (p n : ℕ) (s : State) → Sound s → ((j : ℕ) → in_line (ready p) (at s.threads j) ≡ true → j < n)
    → Good n (line_length (ready p) s.threads) (view p s.threads)
good p n s σ below = record {
  out = λ j e. elim (test (in_line (ready p) (at ts j))) [
    | is m ↦ absurd (omega (arith, σ.lines.low (ready p) j m, ap (λ c. c.place) (view_in p ts j m)))
    | isnt m ↦ rw (view_out p ts j m) (refl, refl)
  ];
  head = λ j e.
      let m = placed_in p ts j (omega arith) in
      rw (view_in p ts j m) ((member_sound p s j σ m).first ((in_ready p (at ts j)).0 m).0 (sym (ap (λ c. c.place) (view_in p ts j m)) ∙ e));
  later = λ j h.
      let m = placed_in p ts j (omega arith) in
      rw (view_in p ts j m) ((member_sound p s j σ m).later ((in_ready p (at ts j)).0 m).0 (rw (view_in p ts j m) at h), (member_sound p s j σ m).turn.0);
  apart = λ i j h e.
      let m = placed_in p ts i h in
      let k = placed_in p ts j (omega arith) in
      σ.lines.apart (ready p) i j m k (sym (ap (λ c. c.place) (view_in p ts i m)) ∙ e ∙ ap (λ c. c.place) (view_in p ts j k));
  bound = λ j. elim (test (in_line (ready p) (at ts j))) [
    | is m ↦ rw (view_in p ts j m) (σ.lines.high (ready p) j m)
    | isnt m ↦ rw (view_out p ts j m) (omega arith)
  ];
  within = λ j h. below j (placed_in p ts j h);
}
  where
    ts : List Thread
    ts = s.threads

-- the same set, and each member kept: the same cells
pub view_eq : (p : ℕ) (ts us : List Thread) → Same p ts us → Keeps p ts us → view p us ≡ view p ts
unfolding Same Keeps
view_eq p ts us h k = fun_ext (λ j. elim (test (in_line (ready p) (at ts j))) [
  | is m ↦ view_in p us j (h j ∙ m) ∙ rw ((k j m).place, (k j m).counter, (k j m).turn) (sym (view_in p ts j m))
  | isnt m ↦ view_out p us j (h j ∙ m) ∙ sym (view_out p ts j m)
])

-- A CHARGE

counter_with : (n : ℕ) (w : Wait) → counter_of (with_counter_of n w) ≡ n
counter_with n (Nothing m) = refl
counter_with n (Delay m) = refl
counter_with n (Receive m) = refl
counter_with n (Send to m) = refl
counter_with n (Semaphore on m) = refl

one_less : (n : ℕ) → 1 < n → n ≡ pred n + 1
one_less n h = omega arith

record MovesUp (c d : Cell) : Type 0 where
  place : d.place ≡ pred c.place
  counter : d.counter ≡ c.counter
  turn : d.turn ≡ c.turn

moves_up : (p : ℕ) (t : Thread) → (in_line (ready p) t ≡ true → 2 ≤ t.place) → MovesUp (cell p t) (cell p (move_up (ready p) 1 t))
moves_up p t h = elim (test (in_line (ready p) t)) [
  | is m ↦ rw (move_up_behind (ready p) 1 t m (h m), m) (record { place = refl; counter = refl; turn = refl })
  | isnt m ↦ rw (move_up_not (ready p) 1 t m, m) (record { place = refl; counter = refl; turn = refl })
]

-- the first goes on; or its turn is over
unfoldable pub down : ℕ → List Thread → List Thread
down r ts = edit r (with_counter (pred (counter_of (at ts r).wait))) ts

unfoldable pub back : ℕ → List Thread → List Thread
back r ts = move r (λ t. t) ts

module _ (p r : ℕ) (ts : List Thread) (m : in_line (ready p) (at ts r) ≡ true) (e : (at ts r).place ≡ 1) where
  r< : r < length ts
  r< = in_range ts r (ready p) m

  line_r : line (at ts r) ≡ ready p
  line_r = same_eq (line (at ts r)) (ready p) m

  down_r : at (down r ts) r ≡ with_counter (pred (counter_of (at ts r).wait)) (at ts r)
  unfolding down
  down_r = edit_same ts r (with_counter (pred (counter_of (at ts r).wait))) r<

  down_in : in_line (ready p) (at (down r ts) r) ≡ true
  down_in = rw (down_r, line_counter) m

  down_other : (j : ℕ) → j ≢ r → at (down r ts) j ≡ at ts j
  unfolding down
  down_other j k = edit_other ts r j (with_counter (pred (counter_of (at ts r).wait))) k

  pub down_same : Same p ts (down r ts)
  unfolding Same
  down_same j = elim (ℕ_discrete j r) [
    | yes q ↦ rw (q, down_in, m)
    | no q ↦ rw (down_other j q)
  ]

  pub down_goes : 1 < counter_of (at ts r).wait → Goes r (view p ts) (view p (down r ts))
  unfolding view
  down_goes h = record {
    first = rw m e;
    first' = rw (down_in, down_r) e;
    one = rw (m, down_in, down_r, counter_with) (one_less (counter_of (at ts r).wait) h);
    turn = rw (m, down_in, down_r);
    rest = λ j k. rw (down_other j k);
  }

  changed_in : (j : ℕ) → in_line (ready p) (at (changed r (λ t. t) ts) j) ≡ in_line (ready p) (at ts j)
  changed_in j = elim (ℕ_discrete j r) [
    | yes q ↦ rw (q, changed_self r (λ t. t) ts r<)
    | no q ↦ rw (changed_other r j (λ t. t) ts q) (move_up_field (in_line (ready p)) (line (at ts r)) (at ts r).place (at ts j) refl)
  ]

  tail_place_lem : line_length (line (at ts r)) (changed r (λ t. t) ts) ≡ line_length (ready p) ts
  tail_place_lem = rw line_r (count_ext (in_line (ready p)) ts (changed r (λ t. t) ts) (length_changed r (λ t. t) ts) changed_in)

  back_r : at (back r ts) r ≡ with_counter (at ts r).turn (with_place (line_length (ready p) ts) (at ts r))
  unfolding back
  back_r = rw (move_self r (λ t. t) ts r<, tail_place_lem, ((in_ready p (at ts r)).0 m).0)

  back_in : in_line (ready p) (at (back r ts) r) ≡ true
  back_in = rw (back_r, line_counter) m

  back_other : (j : ℕ) → j ≢ r → at (back r ts) j ≡ move_up (ready p) 1 (at ts j)
  unfolding back
  back_other j k = rw (line_r, e) at (move_other r j (λ t. t) ts k)

  pub back_same : Same p ts (back r ts)
  unfolding Same
  back_same j = elim (ℕ_discrete j r) [
    | yes q ↦ rw (q, back_in, m)
    | no q ↦ rw (back_other j q) (move_up_field (in_line (ready p)) (ready p) 1 (at ts j) refl)
  ]

  pub back_turns : counter_of (at ts r).wait ≡ 1 → ((j : ℕ) → j ≢ r → in_line (ready p) (at ts j) ≡ true → 2 ≤ (at ts j).place)
      → Turns (line_length (ready p) ts) r (view p ts) (view p (back r ts))
  unfolding view
  back_turns h two = record {
    first = rw m e;
    one = rw m h;
    tail = rw (back_in, back_r);
    filled = rw (m, back_in, back_r, counter_with);
    turn = rw (m, back_in, back_r);
    places = λ j k. rw (back_other j k) (moves_up p (at ts j) (two j k)).place;
    counters = λ j k. rw (back_other j k) (moves_up p (at ts j) (two j k)).counter;
    turns = λ j k. rw (back_other j k) (moves_up p (at ts j) (two j k)).turn;
  }
