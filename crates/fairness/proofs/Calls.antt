-- One call of the door, over bytes, is an event by the rules on the states that the tables say, and one of operation 21 is as many single ticks:
-- these end with the state that the table after the call says. Assumes nothing.
use Rattle.std.specs.Prelude.{if◌then◌else◌, None, Option, Some, Ok}
use mathlib.Core.Bool.{Bool, true, false, ◌&&◌}
use mathlib.Core.Path.{◌≡◌, refl, ap, sym, ◌∙◌}
use mathlib.Core.Logic.{◌≢◌}
use mathlib.Core.List.{List}
use Prim.Native.Nat.{ℕ, zero, suc}
use lib.Dec.{eqb}
use borrow.Author.Tests.{eqb-true, eqb-false}
use lib.ListN.{length}
use Rattle.rules.specs.Board.{Board}
use Rattle.rules.specs.State.{State, On}
use Rattle.rules.specs.Table.{encode, decode}
use Rattle.rules.specs.Sound.{SoundTable}
use Rattle.rules.specs.Waiting.{Step}
use Rattle.rules.specs.Threads.{bad_ticks}
use Rattle.rules.specs.Time.{do_tick}
use Rattle.rules.specs.Sleep.{ticks, do_ticks}
use Rattle.rules.specs.Steps.{step}
use Rattle.rules.specs.Answers.{code_of, area_length}
use Rattle.rules.specs.Requests.{decode_request, tick_record}
use Rattle.rules.specs.Test.{sound_table}
use Rattle.rules.specs.Door.{answered, serve_decoded, door, Handed}
use Rattle.rules.specs.declared.Reply.TheVariants.{Done}
use Rattle.rules.specs.declared.Request.{Request}
use Rattle.rules.specs.declared.Request.TheVariants as Ask
use Rattle.rules.proofs.Tried.{tick_asked}
use Rattle.laws.proofs.Split.{is, isnt, test, and_true, if_case}
use Rattle.laws.proofs.Tested.{tested_table, let_in}
use Rattle.layout.proofs.RoundTrip.{on_decode, decode_encode}
use Rattle.layout.proofs.Sound.{encode_sound}
use Rattle.preservation.proofs.Frame.{on_kept, on_ticks}
use Rattle.preservation.proofs.Steps.{kept}
use Rattle.fairness.specs.Run.{Event, end_of, deed, deed_of, at_once, is_zero, slept}
use Rattle.fairness.specs.Doors.{event_of, single_ticks, counted_as}
use Rattle.fairness.specs.Fair.{ByRules, refused, served, RunFrom}

-- ONE EVENT

serves : (b : Board) (t : List ℕ) (h : Handed) (x : Option Request) → decode_request h.request ≡ x → ByRules (event_of b t h (serve_decoded b t x))
unfolding serve_decoded
serves b t h (Some q) e = served q e refl (decode_encode (on_kept b (decode b t) q (on_decode b t)))
serves b t h None e = refused refl refl

opens : (b : Board) (t : List ℕ) (h : Handed) → ByRules (event_of b t h (door b t h.request h.area))
unfolding door
opens b t h = if_case (λ r. ByRules (event_of b t h r)) (eqb (length h.area) area_length && sound_table b t) (λ e. serves b t h _ refl) (λ e. refused refl refl)

-- SINGLE TICKS

tick_run : (b : Board) (n : ℕ) (t a : List ℕ) → RunFrom (decode b t) (single_ticks b (door b) t a n)
unfolding single_ticks
tick_run b zero t a = tt
tick_run b (suc n) t a = (refl, opens b t (record { request = tick_record; area = a }), tick_run b n (door b t tick_record a).table a)

-- a tick of a sound table, where the area is long enough
pub ticked : (b : Board) (t a : List ℕ) → SoundTable b t → length a ≡ area_length → door b t tick_record a ≡ answered (encode (do_tick (decode b t)).state) (Ok (Done 0))
unfolding serve_decoded step do_tick
ticked b t a σ l = let_in b t tick_record a σ l ∙ ap (serve_decoded b t) tick_asked

pub ticked_says : (b : Board) (t : List ℕ) → decode b (encode (do_tick (decode b t)).state) ≡ (do_tick (decode b t)).state
unfolding step
ticked_says b t = decode_encode (on_kept b (decode b t) Ask.Tick (on_decode b t))

pub ticked_sound : (b : Board) (t : List ℕ) → SoundTable b t → SoundTable b (encode (do_tick (decode b t)).state)
unfolding step
ticked_sound b t σ = encode_sound b (do_tick (decode b t)).state (on_kept b (decode b t) Ask.Tick (on_decode b t)) (kept (decode b t) Ask.Tick σ.state)

tick_end : (b : Board) (n : ℕ) (t a : List ℕ) → SoundTable b t → length a ≡ area_length → end_of (decode b t) (single_ticks b (door b) t a n) ≡ ticks n (decode b t)
unfolding single_ticks ticks
tick_end b zero t a σ l = refl
tick_end b (suc n) t a σ l =
    let u = encode (do_tick (decode b t)).state in
    rw (ticked b t a σ l) (tick_end b n u a (ticked_sound b t σ) l ∙ ap (ticks n) (ticked_says b t))

-- MANY TICKS AT ONCE

-- only operation 21 does ticks at once
pub data Sleeps (q : Request) : Type 0 where
  awake : at_once (deed_of q) ≡ 0 → Sleeps q
  asleep : (n : ℕ) → q ≡ Ask.Ticks n → Sleeps q

pub sleeps : (q : Request) → Sleeps q
sleeps (Ask.Ticks n) = asleep n refl
sleeps Ask.Yield = awake refl
sleeps (Ask.Create i p n) = awake refl
sleeps (Ask.Delete i) = awake refl
sleeps (Ask.Suspend i) = awake refl
sleeps (Ask.Resume i) = awake refl
sleeps (Ask.Delay n) = awake refl
sleeps (Ask.Cancel i) = awake refl
sleeps (Ask.Send i n x) = awake refl
sleeps (Ask.SendFromInterrupt i x) = awake refl
sleeps (Ask.Receive n) = awake refl
sleeps (Ask.Make k n) = awake refl
sleeps (Ask.Drop k) = awake refl
sleeps (Ask.Pend k n) = awake refl
sleeps (Ask.Abort i) = awake refl
sleeps (Ask.Post k n) = awake refl
sleeps (Ask.PostFromInterrupt k n) = awake refl
sleeps Ask.Lock = awake refl
sleeps Ask.Unlock = awake refl
sleeps Ask.Tick = awake refl
sleeps (Ask.Outcome i) = awake refl
sleeps Ask.Nearest = awake refl
sleeps (Ask.SetPriority i p) = awake refl
sleeps (Ask.SetTurn i n) = awake refl

pub nothing : (a : Bool) → ◌≡◌ {A = ℕ} (if a then 0 else 0) 0
nothing true = refl
nothing false = refl

-- a call that sleeps leaves what its ticks leave
slept_ticks : (b : Board) (s : State) → On b s → (n : ℕ) → (r : Step) → r ≡ do_ticks s n → (if is_zero (code_of r.answer) then n else 0) ≢ 0
    → decode b (encode r.state) ≡ ticks (if is_zero (code_of r.answer) then n else 0) s
unfolding do_ticks
slept_ticks b s o n r e = rw e (if_case (λ (r : Step). (if is_zero (code_of r.answer) then n else 0) ≢ 0 → decode b (encode r.state) ≡ ticks (if is_zero (code_of r.answer) then n else 0) s)
    (bad_ticks n) (λ k h. absurd (h refl)) (λ k h. decode_encode (on_ticks b s n o)))

slept_served : (b : Board) (t : List ℕ) (x : Option Request) → (if is_zero (serve_decoded b t x).code then at_once (deed x) else 0) ≢ 0
    → decode b (serve_decoded b t x).table ≡ ticks (if is_zero (serve_decoded b t x).code then at_once (deed x) else 0) (decode b t)
unfolding serve_decoded step
slept_served b t None h = absurd (h refl)
slept_served b t (Some q) h = elim (sleeps q) [
  | awake e ↦ absurd (h (rw e (nothing (is_zero (code_of (step (decode b t) q).answer)))))
  | asleep n e ↦ rw e (slept_ticks b (decode b t) (on_decode b t) n (do_ticks (decode b t) n) refl (rw e at h))
]

slept_end : (b : Board) (t : List ℕ) (h : Handed) → let r = door b t h.request h.area in slept (event_of b t h r) ≢ 0
    → end_of (decode b t) (single_ticks b (door b) t h.area (slept (event_of b t h r))) ≡ decode b r.table
unfolding door
slept_end b t h n = elim (test (eqb (length h.area) area_length && sound_table b t)) [
  | is e ↦
      let x = and_true (eqb (length h.area) area_length) (sound_table b t) e in
      let σ = (tested_table b t).0 x.1 in
      rw e (tick_end b _ t h.area σ (eqb-true (length h.area) area_length x.0) ∙ sym (slept_served b t (decode_request h.request) (rw e at n)))
  | isnt e ↦ absurd (n (rw e))
]

-- A CALL, as it is counted

pub counted_run : (b : Board) (t : List ℕ) (h : Handed) → RunFrom (decode b t) (counted_as b (door b) t h (door b t h.request h.area))
counted_run b t h =
    let e = event_of b t h (door b t h.request h.area) in
    if_case (RunFrom (decode b t)) (eqb (slept e) 0) (λ z. (refl, opens b t h, tt)) (λ z. tick_run b (slept e) t h.area)

pub counted_end : (b : Board) (t : List ℕ) (h : Handed) → let r = door b t h.request h.area in end_of (decode b t) (counted_as b (door b) t h r) ≡ decode b r.table
counted_end b t h =
    let r = door b t h.request h.area in
    let e = event_of b t h r in
    if_case (λ (es : List Event). end_of (decode b t) es ≡ decode b r.table) (eqb (slept e) 0) (λ z. refl) (λ z. slept_end b t h (eqb-false (slept e) 0 z))
