-- Demand 1 holds: the door tests soundness and the area first, then the record, and a step refuses by document 01's tables.
-- Assumes nothing.
use Rattle.std.specs.Prelude.{Err, None, Ok, Option, Some}
use mathlib.Core.Bool.{◌&&◌}
use mathlib.Core.Path.{◌≡◌, refl, ap, sym, ◌∙◌}
use mathlib.Core.List.{List}
use Prim.Native.Nat.{ℕ}
use native.Mathlib.Omega.{arith}
use lib.Dec.{eqb}
use lib.IntN.{negsuc}
use borrow.Author.Tests.{eqb-true}
use lib.ListN.{length}
use Rattle.rules.specs.declared.Request.{Request}
use Rattle.rules.specs.Board.{Board}
use Rattle.rules.specs.Table.{encode, decode}
use Rattle.rules.specs.Answers.{area_length, area_of}
use Rattle.rules.specs.Requests.{decode_request}
use Rattle.rules.specs.Sound.{SoundTable}
use Rattle.rules.specs.Test.{sound_table}
use Rattle.rules.specs.Steps.{step}
use Rattle.rules.specs.Door.{answered, serve_decoded, door}
use Rattle.rules.specs.declared.Refusal.{Refusal}
use Rattle.rules.specs.declared.Refusal.TheVariants.{BadRecord}
use Rattle.rules.specs.Answers.{Answer}
use Rattle.rules.specs.declared.Reply.TheVariants.{Done, Blocked, NoneYet, Failed}
use Rattle.request.proofs.Back.{decode_written}
use Rattle.laws.proofs.Tested.{tested_table, let_in}
use Rattle.laws.proofs.Split.{is, isnt, test, and_true}
use Rattle.promises.specs.Refusals.{refusal_in}
use Rattle.promises.specs.Malformed.{Malformed}
use Rattle.promises.specs.Demand1.{refused_with, Demand1}
use Rattle.promises.proofs.Refused.{says}
use Rattle.promises.proofs.Malformed.{decodes}
use Rattle.promises.proofs.Exactly.{not_7, not_8}

-- an answer that is a refusal
refusal_is : (a : Answer) (why : Refusal) → refusal_in a ≡ Some why → a ≡ Err why
refusal_is (Ok (Done v)) why e = let z : ◌≡◌ {A = ℕ} 0 1 = cc in absurd (omega arith)
refusal_is (Ok (Blocked v)) why e = let z : ◌≡◌ {A = ℕ} 0 1 = cc in absurd (omega arith)
refusal_is (Ok NoneYet) why e = let z : ◌≡◌ {A = ℕ} 0 1 = cc in absurd (omega arith)
refusal_is (Ok Failed) why e = let z : ◌≡◌ {A = ℕ} 0 1 = cc in absurd (omega arith)
refusal_is (Err w) why e = cc

-- what is let through gets no −7, and −8 only where its record is malformed
let_through : (b : Board) (t : List ℕ) (x : Option Request) → (serve_decoded b t x).code ≡ negsuc 6 → ⊥
unfolding serve_decoded
let_through b t (Some q) e = not_7 (decode b t) q e
let_through b t None e = let z : ◌≡◌ {A = ℕ} 7 6 = cc in omega arith

only_bad : (b : Board) (t : List ℕ) (x : Option Request) → (serve_decoded b t x).code ≡ negsuc 7 → x ≡ None
unfolding serve_decoded
only_bad b t (Some q) e = absurd (not_8 (decode b t) q e)
only_bad b t None e = refl

module _ (b : Board) (t r a : List ℕ) where
  unsound : (SoundTable b t × (length a ≡ area_length) → ⊥) → door b t r a ≡ record { code = negsuc 6; table = t; area = a }
  unfolding door
  unsound h = elim (test (eqb (length a) area_length && sound_table b t)) [
    | is e ↦ let x = and_true (eqb (length a) area_length) (sound_table b t) e in absurd (h ((tested_table b t).0 x.1, eqb-true (length a) area_length x.0))
    | isnt e ↦ rw e
  ]

  malformed : SoundTable b t → length a ≡ area_length → Malformed r → door b t r a ≡ refused_with t BadRecord
  unfolding serve_decoded area_of
  malformed σ e m = let_in b t r a σ e ∙ rw ((decodes.bad r).1 m)

pub first : Demand1
unfolding serve_decoded area_of
first b t r a = record {
  minus7 = (λ e h. let_through b t (decode_request r) (ap (λ d. d.code) (sym (let_in b t r a h.0 h.1)) ∙ e), λ h. ap (λ d. d.code) (unsound b t r a h));
  unsound = unsound b t r a;
  minus8 = λ σ l.
      (λ e. (decodes.bad r).0 (only_bad b t (decode_request r) (ap (λ d. d.code) (sym (let_in b t r a σ l)) ∙ e)), λ m. ap (λ d. d.code) (malformed b t r a σ l m));
  malformed = malformed b t r a;
  refused = λ σ e q w why h.
      let k : decode_request r ≡ Some q = ap decode_request (sym w) ∙ decode_written q in
      let x = says (decode b t) q in
      let n : (step (decode b t) q).answer ≡ Err why = refusal_is (step (decode b t) q).answer why (x.answer ∙ h) in
      let m : encode (step (decode b t) q).state ≡ t = ap encode (x.state why h) ∙ sym σ.meaning in
      let_in b t r a σ e ∙ rw (k, n, m);
  accepted = λ σ e q w h.
      let k : decode_request r ≡ Some q = ap decode_request (sym w) ∙ decode_written q in
      let d : door b t r a ≡ answered (encode (step (decode b t) q).state) (step (decode b t) q).answer = let_in b t r a σ e ∙ rw k in
      record {
        answer = (step (decode b t) q).answer;
        none = (says (decode b t) q).answer ∙ h;
        code = ap (λ x. x.code) d;
        area = ap (λ x. x.area) d;
      };
}
