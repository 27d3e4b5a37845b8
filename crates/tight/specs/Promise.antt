-- How tight a promise is: "for every input, refused or not, each public function's promise determines its answer and every byte it was lent.
-- Prove that two results allowed by it are equal."
-- The promise is the function's own contract, as the check reads it off the source for the function's proof and for its callers (`Reads.Pre`,
-- `Reads.Post`).
use Rattle.std.specs.Prelude.{◌≡◌, List, ℕ}
use contract.Lifetimes.{Lfts}
use denote.Triple.Clauses.{Lasts, at_exit}
use borrow.Fn.Kinds.{ParamKind, ResultKind, In, Out, Dens, res_t, ended_of}

-- for all arguments that may be handed in, two answers z with two last values ws of all that was lent are the same
abbrev pub Determines : {n : ℕ} (ps : List (ParamKind n)) (r : ResultKind n) → In n ps → Out n ps r → Type 0
Determines {n} ps r pre post =
    let T = ended_of n ps r in
    (κs : Lfts n) (a : Dens κs ps) (z z' : (res_t r κs).Denot) (ws ws' : Lasts T κs a)
    → pre κs a → post κs a z (at_exit T κs a ws) → post κs a z' (at_exit T κs a ws') → (z ≡ z') × (ws ≡ ws')

-- the same where the answer is a reference: what it says by `see` of what stands behind is the same, since where that stands no contract says
abbrev pub DeterminesBehind : {n : ℕ} {A : Type 0} (ps : List (ParamKind n)) (r : ResultKind n) → ((κs : Lfts n) → (res_t r κs).Denot → A) → In n ps → Out n ps r → Type 0
DeterminesBehind {n} ps r see pre post =
    let T = ended_of n ps r in
    (κs : Lfts n) (a : Dens κs ps) (z z' : (res_t r κs).Denot) (ws ws' : Lasts T κs a)
    → pre κs a → post κs a z (at_exit T κs a ws) → post κs a z' (at_exit T κs a ws') → (see κs z ≡ see κs z') × (ws ≡ ws')
