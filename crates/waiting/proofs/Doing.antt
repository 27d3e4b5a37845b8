-- What an operation does, from what its calls do: a refusal leaves the table as it is, and an answer is given on what the table becomes.
-- Assumes nothing.
use mathlib.Core.Path.{◌≡◌, refl, ap, sym, subst, ◌∙◌}
use mathlib.Core.List.{List}
use Prim.Native.Nat.{ℕ}
use native.Mathlib.Omega.{arith}
use Rattle.rules.specs.State.{State}
use Rattle.rules.specs.Sound.{Sound, SoundTable}
use Rattle.rules.specs.Waiting.{Step}
use Rattle.rules.specs.Answers.{Answer}
use Rattle.laws.proofs.Top.{sound_running}
use Rattle.layout.specs.Held.{board, said, Holds, Whole, Becomes}
use Rattle.layout.proofs.Boards.{sized}
use Rattle.layout.proofs.Held.{whole_holds}
use Rattle.waiting.specs.Does.{Serves, Does}

-- a whole table that says a sound state can be served
pub serves : {t : List ℕ} → Whole t → Sound (said t) → Serves t
serves {t} w σ = record { whole = w; runs = omega (arith, sound_running (said t) σ, (sized w.long refl).threads); sound = σ }

-- so can a sound table
pub sound_serves : (t : List ℕ) → SoundTable (board t) t → Serves t
unfolding said
sound_serves t h = serves (record { long = record { fits = h.long }; meaning = h.meaning }) h.state

-- what a rule gives, by the state alone
abbrev pub gives : State → Answer → Step
gives s a = record { state = s; answer = a }

module _ {t : List ℕ} where
  -- the same by another rule
  pub does_as : {t' : List ℕ} {a : Answer} {f g : State → Step} → Does t t' a f → ((s : State) → Holds t s → g s ≡ f s) → Does t t' a g
  does_as {t'} p e = record {
    whole = p.whole;
    holds = λ s h. subst (λ z. Holds t' z) (sym (ap (λ x. x.state) (e s h))) (p.holds s h);
    answer = λ s h. p.answer s h ∙ sym (ap (λ x. x.answer) (e s h));
  }

  -- the table becomes what the rule's state is, and the answer is the rule's
  pub does : {t' : List ℕ} {a : Answer} {f : State → State} {rule : State → Step} → Becomes t t' f
      → ((s : State) → Holds t s → rule s ≡ gives (f s) a) → Does t t' a rule
  does p = does_as (record { whole = p.whole; holds = p.holds; answer = λ s h. refl })

  -- nothing is written, and the rule leaves the state as it is
  pub does_nothing : {a : Answer} {rule : State → Step} → Whole t → ((s : State) → said t ≡ s → rule s ≡ gives s a) → Does t t a rule
  does_nothing w e = does (record { whole = w; holds = λ s h. h }) (λ s h. e s h.says)

  -- a change, and then the rest of the step
  pub then_does : {t' t'' : List ℕ} {a : Answer} {f : State → State} {rest rule : State → Step} → Becomes t t' f → Does t' t'' a rest
      → ((s : State) → Holds t s → rule s ≡ rest (f s)) → Does t t'' a rule
  then_does {f} p q = does_as (record { whole = q.whole; holds = λ s h. q.holds (f s) (p.holds s h); answer = λ s h. q.answer (f s) (p.holds s h) })

  -- THE PROMISE IS TIGHT

  -- two tables and two answers that an operation may leave are one
  pub does_one : {t' t'' : List ℕ} {a c : Answer} {rule : State → Step} → Whole t → Does t t' a rule → Does t t'' c rule → (t' ≡ t'') × (a ≡ c)
  does_one w p q =
      let h = whole_holds w in ((p.holds _ h).bytes ∙ sym (q.holds _ h).bytes, p.answer _ h ∙ sym (q.answer _ h))
