-- What each test says: `simp reflect` turns a test that gives `true` into its statement, and back. Each is a split on the test's
-- own arguments. Assumes nothing.
use Rattle.std.specs.Prelude.{if◌then◌else◌}
use mathlib.Core.Bool.{Bool, true, false, not, ◌&&◌, ◌||◌}
use mathlib.Core.Path.{◌≡◌, refl, ap, sym}
use mathlib.Core.Logic.{◌↔◌}
use Prim.Native.Nat.{ℕ, ◌≤◌}
use borrow.Author.Tests.{eqb-true, eqb-false, eq-eqb, ne_eqb, leb-true, le-leb, ltb-false, le-ltb}
use lib.Dec.{eqb, leb, ltb}
use Rattle.rules.specs.Test.{is_done, is_none_yet}
use Rattle.rules.specs.declared.Outcome.{Outcome}
use Rattle.rules.specs.declared.Outcome.TheVariants.{Done, NoneYet, Failed}
use Rattle.laws.proofs.Split.{is, isnt, test, clash, and_true, and_both, or_false}

pub and_says : (a b : Bool) → (a && b ≡ true) ↔ ((a ≡ true) × (b ≡ true))
and_says a b = (and_true a b, λ p. and_both a b p.0 p.1)

pub or_says : (a b : Bool) → (a || b ≡ true) ↔ (a ≡ false → b ≡ true)
or_says true b = (λ e p. absurd (clash refl p), λ p. refl)
or_says false b = (λ e p. e, λ p. p refl)

pub or_fails : (a b : Bool) → (a || b ≡ false) ↔ ((a ≡ false) × (b ≡ false))
or_fails a b = (or_false a b, λ p. rw p.0 p.1)

pub not_says : (a : Bool) → (not a ≡ true) ↔ (a ≡ false)
not_says true = (sym, sym)
not_says false = (λ e. refl, λ e. refl)

pub not_fails : (a : Bool) → (not a ≡ false) ↔ (a ≡ true)
not_fails true = (λ e. refl, λ e. refl)
not_fails false = (sym, sym)

pub if_says : (a b c : Bool) → ((if a then b else c) ≡ true) ↔ ((a ≡ true → b ≡ true) × (a ≡ false → c ≡ true))
if_says true b c = (λ e. (λ p. e, λ p. absurd (clash refl p)), λ h. h.0 refl)
if_says false b c = (λ e. (λ p. absurd (clash p refl), λ p. e), λ h. h.1 refl)

pub eqb_says : (a b : ℕ) → (eqb a b ≡ true) ↔ (a ≡ b)
eqb_says a b = (eqb-true a b, eq-eqb a b)

pub eqb_fails : (a b : ℕ) → (eqb a b ≡ false) ↔ (a ≡ b → ⊥)
eqb_fails a b = (eqb-false a b, ne_eqb a b)

pub leb_says : (a b : ℕ) → (leb a b ≡ true) ↔ (a ≤ b)
leb_says a b = (leb-true a b, le-leb a b)

pub ltb_fails : (a b : ℕ) → (ltb a b ≡ false) ↔ (b ≤ a)
ltb_fails a b = (ltb-false a b, le-ltb a b)

pub done_says : (o : Outcome) → (is_done o ≡ true) ↔ (o ≡ Done)
done_says o = (there o, ap is_done)
  where
    there : (o : Outcome) → is_done o ≡ true → o ≡ Done
    there Done e = refl
    there NoneYet e = absurd (clash e refl)
    there Failed e = absurd (clash e refl)

pub done_fails : (o : Outcome) → (is_done o ≡ false) ↔ (o ≡ Done → ⊥)
done_fails o = (λ e p. clash (ap is_done p) e, λ h. elim (test (is_done o)) [ is e ↦ absurd (h ((done_says o).0 e)) | isnt e ↦ e ])

pub none_yet_says : (o : Outcome) → (is_none_yet o ≡ true) ↔ (o ≡ NoneYet)
none_yet_says o = (there o, ap is_none_yet)
  where
    there : (o : Outcome) → is_none_yet o ≡ true → o ≡ NoneYet
    there Done e = absurd (clash e refl)
    there NoneYet e = refl
    there Failed e = absurd (clash e refl)

pub ruleset reflect = (and_says, or_says, or_fails, not_says, not_fails, if_says, eqb_says, eqb_fails, leb_says, ltb_fails, done_says, done_fails, none_yet_says)
