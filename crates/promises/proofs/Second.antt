-- Demand 2 holds: a call leaves a sound table as it is or makes of it the table of the request's step, a step keeps a state sound, and
-- a state and its table determine each other. Assumes nothing.
use Rattle.std.specs.Prelude.{None, Option, Some}
use mathlib.Core.Bool.{◌&&◌}
use mathlib.Core.Path.{◌≡◌, refl, ap, ◌∙◌}
use mathlib.Core.List.{List, [], ◌∷◌, ◌++◌}
use Prim.Native.Nat.{ℕ}
use native.Mathlib.Omega.{arith}
use lib.Dec.{eqb}
use lib.IntN.{pos, negsuc}
use lib.ListN.{length, get_or}
use Rattle.rules.specs.Board.{Board, printer}
use Rattle.rules.specs.State.{State, On}
use Rattle.rules.specs.Table.{word_bytes, encode, decode}
use Rattle.rules.specs.Answers.{area_length, area_of}
use Rattle.rules.specs.Requests.{decode_request}
use Rattle.rules.specs.Sound.{Sound, SoundTable}
use Rattle.rules.specs.Test.{sound_table}
use Rattle.rules.specs.Steps.{step}
use Rattle.rules.specs.Door.{serve_decoded, door, fresh_table, Handed, table_after}
use Rattle.rules.specs.declared.Request.{Request}
use Rattle.laws.proofs.Split.{is, isnt, test}
use Rattle.laws.proofs.Tested.{tested_table, fresh_sound, let_in}
use Rattle.layout.proofs.RoundTrip.{on_decode, decode_encode}
use Rattle.layout.proofs.Sound.{encode_sound}
use Rattle.preservation.proofs.Frame.{on_kept, running_kept}
use Rattle.preservation.proofs.Steps.{kept}
use Rattle.request.proofs.Trips.{fields_read}
use Rattle.promises.specs.Ahead.{told}
use Rattle.promises.specs.Demand2.{RunsFirst, Ruled, Demand2}
use Rattle.promises.proofs.Ahead.{tells}

-- what a call makes of a sound table
pub data Next (b : Board) (t after : List ℕ) : Type 0 where
  stays : after ≡ t → Next b t after
  steps : (q : Request) → after ≡ encode (step (decode b t) q).state → Next b t after

module _ (b : Board) (t : List ℕ) (σ : SoundTable b t) where
  decoded : (d : Option Request) → Next b t (serve_decoded b t d).table
  unfolding serve_decoded
  decoded (Some q) = steps q refl
  decoded None = stays refl

  pub next : (r a : List ℕ) → Next b t (door b t r a).table
  unfolding door
  next r a = elim (test (eqb (length a) area_length && sound_table b t)) [
    | is e ↦ rw e (decoded (decode_request r))
    | isnt e ↦ rw e (stays refl)
  ]

  -- the state after a step, on the board and sound
  after_on : (q : Request) → On b (step (decode b t) q).state
  after_on q = on_kept b (decode b t) q (on_decode b t)

  after_sound : {u : List ℕ} → Next b t u → SoundTable b u
  after_sound (stays e) = rw e σ
  after_sound (steps q e) = rw e (encode_sound b (step (decode b t) q).state (after_on q) (kept (decode b t) q σ.state))

  after_locked : {u : List ℕ} → Next b t u → ((decode b u).lock ≡ 0 → ⊥) → (decode b u).running ≡ (decode b t).running
  after_locked (stays e) h = ap (λ x. (decode b x).running) e
  after_locked (steps q e) h =
      let d : decode b _ ≡ (step (decode b t) q).state = ap (decode b) e ∙ decode_encode (after_on q) in
      ap (λ s. s.running) d ∙ running_kept (decode b t) q (λ z. h (ap (λ s. s.lock) d ∙ z))

  -- beside code 1, which only a request that is served can have
  served_tells : (r : List ℕ) (d : Option Request) → decode_request r ≡ d → (serve_decoded b t d).code ≡ pos 1
      → (serve_decoded b t d).area ≡ word_bytes 1 ++ word_bytes (told b t (get_or r 0 0) (get_or r 1 0))
  unfolding serve_decoded area_of
  served_tells r None e k = let z : ◌≡◌ {A = ℕ} 0 1 = cc in absurd (omega arith)
  served_tells r (Some q) e k = rw (k, (tells b t σ q).value k, fields_read r q e)

  pub door_tells : (r a : List ℕ) → (door b t r a).code ≡ pos 1 → (door b t r a).area ≡ word_bytes 1 ++ word_bytes (told b t (get_or r 0 0) (get_or r 1 0))
  unfolding door
  door_tells r a k = elim (test (eqb (length a) area_length && sound_table b t)) [
    | is e ↦ rw e (served_tells r (decode_request r) refl (rw e at k))
    | isnt e ↦ let c : negsuc 6 ≡ pos 1 = rw e at k in let z : ◌≡◌ {A = ℕ} 0 1 = cc in absurd (omega arith)
  ]

runs_first : (s : State) → Sound s → s.lock ≡ 0 → RunsFirst s
runs_first s σ z = record { ready = σ.runs; first = σ.leads z; highest = σ.highest z }

ruled : (b : Board) (t r a : List ℕ) → SoundTable b t → Ruled b t r a (door b t r a)
unfolding serve_decoded
ruled b t r a σ =
    let n = next b t σ r a in
    let u = after_sound b t σ n in
    record {
      by_rule = λ e q k. let_in b t r a σ e ∙ rw k;
      ahead = door_tells b t σ r a;
      sound = u;
      unlocked = runs_first (decode b (door b t r a).table) u.state;
      locked = after_locked b t σ n;
    }

run_sound : (b : Board) (t : List ℕ) (hs : List Handed) → SoundTable b t → SoundTable b (table_after b t hs)
unfolding table_after
run_sound b t [] σ = σ
run_sound b t (h ∷ hs) σ = run_sound b (door b t h.request h.area).table hs (after_sound b t σ (next b t σ h.request h.area))

pub second : Demand2
second = record {
  ruled = ruled;
  stays = run_sound;
  fresh = λ hs. run_sound printer (fresh_table printer) hs ((tested_table printer (fresh_table printer)).0 fresh_sound);
}
