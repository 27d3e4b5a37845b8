-- The events that a call counts as: itself, unless it is an accepted operation 21, and then its ticks, of which there are at most 99,999. Assumes
-- nothing.
use Rattle.std.specs.Prelude.{if◌then◌else◌, None, Option, Some}
use mathlib.Core.Bool.{true, false, ◌&&◌}
use mathlib.Core.Path.{◌≡◌, refl, ap}
use mathlib.Core.List.{List, [], ◌∷◌}
use Prim.Native.Nat.{ℕ, zero, suc, ◌≤◌}
use native.Mathlib.Omega.{arith}
use lib.Dec.{eqb, ltb}
use borrow.Author.Tests.{ltb-false, ne_eqb}
use lib.ListN.{length}
use Rattle.rules.specs.declared.Request.{Request}
use Rattle.rules.specs.Board.{Board, most_ticks}
use Rattle.rules.specs.State.{State}
use Rattle.rules.specs.Table.{decode}
use Rattle.rules.specs.Waiting.{Step}
use Rattle.rules.specs.Threads.{bad_ticks}
use Rattle.rules.specs.Sleep.{do_ticks}
use Rattle.rules.specs.Steps.{step}
use Rattle.rules.specs.Answers.{code_of, area_length}
use Rattle.rules.specs.Requests.{decode_request}
use Rattle.rules.specs.Test.{sound_table}
use Rattle.rules.specs.Door.{Doored, serve_decoded, door, Handed}
use Rattle.laws.proofs.Split.{or_false, if_case}
use Rattle.fairness.specs.Run.{Event, deed, at_once, is_zero, slept}
use Rattle.fairness.specs.Doors.{Door, event_of, single_ticks, counted_as}
use Rattle.fairness.proofs.Calls.{awake, asleep, sleeps, nothing}
use Rattle.leaps.specs.Charges.{tick_events}
use Rattle.leaps.proofs.Doored.{single_ticks_lem}
use Rattle.accounts.proofs.Accepted.{on_sound}

-- HOW MANY

slept_step : (s : State) (n : ℕ) → (if is_zero (code_of (do_ticks s n).answer) then n else 0) ≤ most_ticks
unfolding do_ticks
slept_step s n = if_case (λ (r : Step). (if is_zero (code_of r.answer) then n else 0) ≤ most_ticks) (bad_ticks n)
    (λ e. omega arith) (λ e. ltb-false most_ticks n (or_false (eqb n 0) (ltb most_ticks n) e).1)

slept_decoded : (b : Board) (t : List ℕ) (x : Option Request) → (if is_zero (serve_decoded b t x).code then at_once (deed x) else 0) ≤ most_ticks
unfolding serve_decoded step
slept_decoded b t None = omega arith
slept_decoded b t (Some q) = elim (sleeps q) [
  | awake e ↦ rw (e, nothing (is_zero (code_of (step (decode b t) q).answer))) (omega arith)
  | asleep n e ↦ rw e (slept_step (decode b t) n)
]

pub slept_most : (b : Board) (t : List ℕ) (h : Handed) → slept (event_of b t h (door b t h.request h.area)) ≤ most_ticks
unfolding door
slept_most b t h = if_case (λ (r : Doored). slept (event_of b t h r) ≤ most_ticks) (eqb (length h.area) area_length && sound_table b t)
    (λ e. slept_decoded b t (decode_request h.request)) (λ e. omega arith)

length_single : (b : Board) (d : Door) (t a : List ℕ) (n : ℕ) → length (single_ticks b d t a n) ≡ n
unfolding single_ticks
length_single b d t a zero = refl
length_single b d t a (suc n) = ap suc (length_single b d _ a n)

pub counted_most : (b : Board) (t : List ℕ) (h : Handed) → length (counted_as b (door b) t h (door b t h.request h.area)) ≤ most_ticks
counted_most b t h =
    let e = event_of b t h (door b t h.request h.area) in
    if_case (λ (es : List Event). length es ≤ most_ticks) (eqb (slept e) 0) (λ z. omega arith)
    (λ z. omega (arith, length_single b (door b) t h.area (slept e), slept_most b t h))

-- WHICH

module _ (b : Board) (t : List ℕ) (h : Handed) where
  abbrev called : Doored
  called = door b t h.request h.area

  -- what asks for no ticks at once, and what is refused, is one event
  pub awake_one : at_once (deed (decode_request h.request)) ≡ 0 → counted_as b (door b) t h called ≡ event_of b t h called ∷ []
  awake_one e = rw (e, nothing (is_zero called.code))

  pub refused_one : is_zero called.code ≡ false → counted_as b (door b) t h called ≡ event_of b t h called ∷ []
  refused_one e = rw e

  -- ticks at once are as many ticks
  pub asleep_ticks : (n : ℕ) → at_once (deed (decode_request h.request)) ≡ n → 1 ≤ n → is_zero called.code ≡ true → counted_as b (door b) t h called ≡ tick_events n (decode b t)
  asleep_ticks n e k z =
      let x = on_sound b t h.request h.area z in
      rw (z, e, ne_eqb n 0 (omega arith)) (single_ticks_lem b n t h.area x.0 x.1)

  -- and they are not too many
  pub asleep_most : (n : ℕ) → at_once (deed (decode_request h.request)) ≡ n → is_zero called.code ≡ true → n ≤ most_ticks
  asleep_most n e z = rw (z, e) at (slept_most b t h)
