-- No step answers −7 or −8: both stand in no list of document 01's first table, and no other answer has such a number. Assumes nothing.
use Rattle.std.specs.Prelude.{Err, Ok, Some}
use mathlib.Core.Bool.{true}
use mathlib.Core.Path.{◌≡◌, refl, sym, ap, ◌∙◌}
use mathlib.Core.List.{List, [], ◌∷◌}
use Prim.Native.Nat.{ℕ, ◌≤◌}
use native.Mathlib.Omega.{arith}
use lib.IntN.{ℤ, pos, negsuc}
use Rattle.rules.specs.State.{State}
use Rattle.rules.specs.Answers.{refusal_code, code_of}
use Rattle.rules.specs.Steps.{step}
use Rattle.rules.specs.declared.Refusal.{Refusal}
use Rattle.rules.specs.declared.Refusal.TheVariants.{BadThread, BadPriority, BadTicks, BadState, BadOperation, BadSemaphore, BadTable, BadRecord}
use Rattle.rules.specs.Answers.{Answer}
use Rattle.rules.specs.declared.Reply.TheVariants.{Done, Blocked, NoneYet, Failed}
use Rattle.rules.specs.declared.Request.{Request}
use Rattle.laws.proofs.Split.{is, isnt, test, clash}
use Rattle.promises.specs.Refusals.{given, order, first_given, refusal, refusal_in}
use Rattle.promises.proofs.Refused.{says}

-- a refusal of a list is given there
given_is : (s : State) (q : Request) (l : List Refusal) (why : Refusal) → first_given s q l ≡ Some why → given s q why ≡ true
unfolding first_given
given_is s q [] why e = let z : ◌≡◌ {A = ℕ} 0 1 = cc in absurd (omega arith)
given_is s q (w ∷ l) why e = elim (test (given s q w)) [
  | is g ↦ let same : w ≡ why = let x : Some w ≡ Some why = rw g at e in cc in rw (← same) g
  | isnt g ↦ given_is s q l why (rw g at e)
]

-- every refusal's number is below 0
pub below_zero : (why : Refusal) → (n : ℕ) × (refusal_code why ≡ negsuc n)
below_zero BadThread = (0, refl)
below_zero BadPriority = (1, refl)
below_zero BadTicks = (2, refl)
below_zero BadState = (3, refl)
below_zero BadOperation = (4, refl)
below_zero BadSemaphore = (5, refl)
below_zero BadTable = (6, refl)
below_zero BadRecord = (7, refl)

-- how far a code lies below −1
below : ℤ → ℕ
below (pos n) = 0
below (negsuc n) = n

mild : (a : Answer) → (refusal_in a ≡ Some BadTable → ⊥) → (refusal_in a ≡ Some BadRecord → ⊥) → below (code_of a) ≤ 5
unfolding below
mild (Ok (Done v)) h k = omega arith
mild (Ok (Blocked v)) h k = omega arith
mild (Ok NoneYet) h k = omega arith
mild (Ok Failed) h k = omega arith
mild (Err BadThread) h k = omega arith
mild (Err BadPriority) h k = omega arith
mild (Err BadTicks) h k = omega arith
mild (Err BadState) h k = omega arith
mild (Err BadOperation) h k = omega arith
mild (Err BadSemaphore) h k = omega arith
mild (Err BadTable) h k = absurd (h refl)
mild (Err BadRecord) h k = absurd (k refl)

step_mild : (s : State) (q : Request) → below (code_of (step s q).answer) ≤ 5
unfolding refusal
step_mild s q =
    let from = (says s q).answer in
    mild (step s q).answer (λ e. clash (given_is s q (order q) BadTable (sym from ∙ e)) refl) (λ e. clash (given_is s q (order q) BadRecord (sym from ∙ e)) refl)

pub not_7 : (s : State) (q : Request) → code_of (step s q).answer ≡ negsuc 6 → ⊥
unfolding below
not_7 s q e = omega (arith, step_mild s q, ap below e)

pub not_8 : (s : State) (q : Request) → code_of (step s q).answer ≡ negsuc 7 → ⊥
unfolding below
not_8 s q e = omega (arith, step_mild s q, ap below e)
