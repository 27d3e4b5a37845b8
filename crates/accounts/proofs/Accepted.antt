-- Who is accepted was served on a sound table: its running thread and a thread that is created are on the board, and have accounts. What code 0
-- is as the machine reads it. Assumes nothing.
use Rattle.std.specs.Prelude.{Some}
use mathlib.Core.Bool.{true, false, ◌&&◌, ◌||◌}
use mathlib.Core.Path.{◌≡◌, refl, sym, ap, ◌∙◌}
use mathlib.Core.List.{List}
use Prim.Native.Nat.{ℕ, zero, suc, ◌<◌}
use native.Mathlib.Omega.{arith}
use native.Mathlib.Decide.{ℕ_discrete}
use lib.Dec.{eqb, leb}
use borrow.Author.Tests.{leb-false, eqb-true, eq-eqb, ne_eqb}
use lib.IntN.{ℤ, pos, negsuc}
use lib.ListN.{length}
use mir.Syntax.{w32}
use mir.Val.{SFits, to_z, of_z}
use mir.ValLaws.{to_z-of_z}
use Rattle.rules.specs.Board.{Board}
use Rattle.rules.specs.State.{State, at}
use Rattle.rules.specs.Table.{decode}
use Rattle.rules.specs.Answers.{code_of, area_length}
use Rattle.rules.specs.Requests.{decode_request}
use Rattle.rules.specs.Sound.{Sound, SoundTable}
use Rattle.rules.specs.Test.{sound_table}
use Rattle.rules.specs.Waiting.{Step}
use Rattle.rules.specs.Threads.{bad_priority, bad_ticks, do_create}
use Rattle.rules.specs.Steps.{step}
use Rattle.rules.specs.Door.{serve_decoded, door}
use Rattle.rules.specs.declared.Request.{Request}
use Rattle.rules.specs.declared.Request.TheVariants as Ask
use Rattle.laws.proofs.Split.{is, isnt, test, clash, and_true, or_false, if_case}
use Rattle.laws.proofs.Lines.{ready_used}
use Rattle.laws.proofs.Members.{used_range}
use Rattle.laws.proofs.Tested.{tested_table, let_in}
use Rattle.layout.proofs.RoundTrip.{on_decode}
use Rattle.fairness.specs.Run.{deed_of, is_zero}
use Rattle.accounts.specs.Accounts.{Finds}

-- THE CODE, as a number of 32 bits

code_zero : (z : ℤ) → SFits w32 z → of_z w32 z ≡ 0 → is_zero z ≡ true
code_zero z f e = ap is_zero (sym (to_z-of_z w32 z f) ∙ ap (to_z w32) e)

code_other : (z : ℤ) → (of_z w32 z ≡ 0 → ⊥) → is_zero z ≡ false
code_other (pos zero) h = absurd (h refl)
code_other (pos (suc n)) h = ne_eqb (suc n) 0 (λ e. omega arith)
code_other (negsuc n) h = refl

pub code_is : (z : ℤ) → SFits w32 z → eqb (of_z w32 z) 0 ≡ is_zero z
code_is z f = elim (ℕ_discrete (of_z w32 z) 0) [
  | yes e ↦ eq-eqb (of_z w32 z) 0 e ∙ sym (code_zero z f e)
  | no k ↦ ne_eqb (of_z w32 z) 0 k ∙ sym (code_other z k)
]

-- THE TABLE is sound

pub on_sound : (b : Board) (t r a : List ℕ) → is_zero (door b t r a).code ≡ true → SoundTable b t × (length a ≡ area_length)
unfolding door
on_sound b t r a z = elim (test (eqb (length a) area_length && sound_table b t)) [
  | is k ↦ let x = and_true (eqb (length a) area_length) (sound_table b t) k in ((tested_table b t).0 x.1, eqb-true (length a) area_length x.0)
  | isnt k ↦ absurd (clash (rw k at z) refl)
]

-- WHO IS FOUND

create_finds : (s : State) (i p n : ℕ) → is_zero (code_of (do_create s i p n).answer) ≡ true → i < length s.threads
unfolding do_create
create_finds s i p n =
    if_case (λ (r : Step). is_zero (code_of r.answer) ≡ true → i < length s.threads) (bad_priority p) (λ e z. absurd (clash z refl)) (λ e.
    if_case (λ (r : Step). is_zero (code_of r.answer) ≡ true → i < length s.threads) (bad_ticks n) (λ e z. absurd (clash z refl)) (λ e.
    if_case (λ (r : Step). is_zero (code_of r.answer) ≡ true → i < length s.threads) (leb (length s.threads) i || (at s.threads i).used) (λ e z. absurd (clash z refl)) (λ e z.
    leb-false (length s.threads) i (or_false (leb (length s.threads) i) (at s.threads i).used e).0)))

step_finds : (s : State) (q : Request) → Sound s → is_zero (code_of (step s q).answer) ≡ true → Finds (length s.threads) (deed_of q) s.running
unfolding step
step_finds s (Ask.Create i p n) σ z = create_finds s i p n z
step_finds s Ask.Tick σ z = used_range s.threads s.running (ready_used (at s.threads s.running) σ.runs)
step_finds s Ask.Yield σ z = tt
step_finds s (Ask.Delete i) σ z = tt
step_finds s (Ask.Suspend i) σ z = tt
step_finds s (Ask.Resume i) σ z = tt
step_finds s (Ask.Delay n) σ z = tt
step_finds s (Ask.Cancel i) σ z = tt
step_finds s (Ask.Send i n x) σ z = tt
step_finds s (Ask.SendFromInterrupt i x) σ z = tt
step_finds s (Ask.Receive n) σ z = tt
step_finds s (Ask.Make k n) σ z = tt
step_finds s (Ask.Drop k) σ z = tt
step_finds s (Ask.Pend k n) σ z = tt
step_finds s (Ask.Abort i) σ z = tt
step_finds s (Ask.Post k n) σ z = tt
step_finds s (Ask.PostFromInterrupt k n) σ z = tt
step_finds s Ask.Lock σ z = tt
step_finds s Ask.Unlock σ z = tt
step_finds s (Ask.Outcome i) σ z = tt
step_finds s (Ask.Ticks n) σ z = tt
step_finds s Ask.Nearest σ z = tt
step_finds s (Ask.SetPriority i p) σ z = tt
step_finds s (Ask.SetTurn i n) σ z = tt

pub finds : (b : Board) (t r a : List ℕ) (q : Request) → decode_request r ≡ Some q → is_zero (door b t r a).code ≡ true → Finds b.threads (deed_of q) (decode b t).running
unfolding door serve_decoded
finds b t r a q e z =
    let x = on_sound b t r a z in
    rw (on_decode b t).threads at (step_finds (decode b t) q x.0.state (rw (let_in b t r a x.0 x.1, e) at z))
