-- A field's text is read back as the field, and a field that is read is of its range, zero if it is not used, and, without leading zeros, its text.
-- Assumes nothing.
use Rattle.std.proofs.lemmas.Option.{none-some, same_Some}
use Rattle.std.specs.Prelude.{if◌then◌else◌, Option, None, Some}
use mathlib.Core.Path.{◌≡◌, refl, sym, ap, ◌∙◌}
use mathlib.Core.Bool.{Bool, true, false}
use mathlib.Core.List.{List, [], ◌∷◌, ◌++◌}
use Prim.Native.Nat.{ℕ, suc, ◌^◌, ◌≤◌, ◌<◌}
use native.Mathlib.Omega.{arith}
use lib.Dec.{eqb, leb}
use lib.ListN.{length}
use borrow.Author.Tests.{leb-true, le-leb, eqb-true}
use Rattle.rules.specs.Requests.{kept}
use Rattle.text.specs.Text.{decimal}
use Rattle.text.proofs.Decimal.{decimal_room}
use Rattle.listing.specs.Line.{Front, ◌and_then◌, field_text, digit_first, digits_from, number_from, at_most, spaced_from, field_from, plain_from}
use Rattle.listing.proofs.Numbers.{decimal_read, read_plain, rest_plain, clean, clean_char, digits_clean}

-- RESULTS

pub then_some : {A B : Type 0} (m : Option A) (f : A → Option B) (b : B) → (m and_then f) ≡ Some b → (a : A) × (m ≡ Some a) × (f a ≡ Some b)
then_some None f b e = absurd (none-some b e)
then_some (Some a) f b e = (a, refl, e)

-- a result under a test
pub if_some : {A : Type 0} (b : Bool) (m : Option A) (a : A) → (if b then m else None) ≡ Some a → (b ≡ true) × (m ≡ Some a)
if_some true m a e = (refl, e)
if_some false m a e = absurd (none-some a e)

pub unless_some : {A : Type 0} (b : Bool) (m : Option A) (a : A) → (if b then None else m) ≡ Some a → (b ≡ false) × (m ≡ Some a)
unless_some true m a e = absurd (none-some a e)
unless_some false m a e = (refl, e)

-- FROM A FIELD TO ITS TEXT AND BACK

pub field_stops : (used : Bool) (field : ℕ) (rest : List ℕ) → digit_first rest ≡ false → digit_first (field_text used field ++ rest) ≡ false
field_stops true field rest e = refl
field_stops false field rest e = e

pub field_read : (used : Bool) (most field : ℕ) (rest : List ℕ) → digit_first rest ≡ false → field ≤ most → kept used field ≡ true
    → field_from used most (field_text used field ++ rest) ≡ Some (record { number = field; rest = rest })
unfolding field_from spaced_from
field_read true most field rest e h k = rw (decimal_read field rest e, le-leb field most h) refl
field_read false most field rest e h k = λ i. Some (record { number = sym (eqb-true field 0 k) i; rest = rest })

pub field_room : (used : Bool) (k : ℕ) {field : ℕ} → field < 10 ^ suc k → length (field_text used field) ≤ suc (suc k)
field_room true k h = omega (arith, decimal_room k h)
field_room false k h = omega arith

-- FROM A TEXT TO ITS FIELD AND BACK

-- a number that is read
pub record Number (t : List ℕ) (f : Front) : Type 0 where
  pub begins : digit_first t ≡ true
  pub is : f ≡ digits_from 0 t

pub number_of : (t : List ℕ) (f : Front) → number_from t ≡ Some f → Number t f
unfolding number_from
number_of t f e = let p = if_some (digit_first t) (Some (digits_from 0 t)) f e in record { begins = p.0; is = sym (same_Some _ _ p.1) }

pub number_plain : (t : List ℕ) (f : Front) → number_from t ≡ Some f → plain_from true t ≡ true
    → (t ≡ decimal f.number ++ f.rest) × (plain_from false f.rest ≡ true)
number_plain t f e p =
    let n = number_of t f e in
    rw n.is (read_plain t n.begins p, rest_plain true 0 t p)

pub number_clean : (t : List ℕ) (f : Front) → number_from t ≡ Some f → clean f.rest ≡ true → clean t ≡ true
number_clean t f e = rw (number_of t f e).is (digits_clean 0 t)

-- a field that is read
pub record Field (used : Bool) (most : ℕ) (t : List ℕ) (f : Front) : Type 0 where
  pub fits : f.number ≤ most
  pub zeroed : kept used f.number ≡ true
  pub text : plain_from false t ≡ true → (t ≡ field_text used f.number ++ f.rest) × (plain_from false f.rest ≡ true)
  pub clear : clean f.rest ≡ true → clean t ≡ true

spaced_of : (most c : ℕ) (cs : List ℕ) (f : Front) → c ≡ 32 → number_from cs ≡ Some f → f.number ≤ most → Field true most (c ∷ cs) f
unfolding plain_from
spaced_of most c cs f s e h = record {
  fits = h;
  zeroed = refl;
  text = rw s (λ p. let n = number_plain cs f e p in (ap (λ (t : List ℕ). 32 ∷ t) n.0, n.1));
  clear = λ h. clean_char c cs (omega arith) (number_clean cs f e h);
}

pub field_of : (used : Bool) (most : ℕ) (t : List ℕ) (f : Front) → field_from used most t ≡ Some f → Field used most t f
unfolding field_from spaced_from
field_of true most [] f e = absurd (none-some f e)
field_of true most (c ∷ cs) f e =
    let p = if_some (eqb c 32) (number_from cs and_then at_most most) f e in
    let q = then_some (number_from cs) (at_most most) f p.1 in
    let s = if_some (leb q.0.number most) (Some q.0) f q.2 in
    let g : q.0 ≡ f = same_Some _ _ s.1 in
    spaced_of most c cs f (eqb-true c 32 p.0) (q.1 ∙ s.1) (rw g at (leb-true q.0.number most s.0))
field_of false most t f e =
    let g : f ≡ record { number = 0; rest = t } = sym (same_Some _ _ e) in
    rw g (record { fits = omega arith; zeroed = refl; text = λ p. (refl, p); clear = λ h. h })
