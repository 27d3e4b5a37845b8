-- The lines of a text: a line and its line feed are the text's first line; a text that goes on has the lines that were whole, then those of what
-- was left over with the rest. Assumes nothing.
use mathlib.Core.Path.{◌≡◌, refl, sym, ap, ◌∙◌}
use mathlib.Core.Bool.{true, false, not}
use mathlib.Core.List.{List, [], ◌∷◌, ◌++◌}
use Prim.Native.Nat.{ℕ}
use lib.Dec.{eqb}
use borrow.Author.Tests.{eqb-true, not-true}
use Rattle.laws.proofs.Split.{is, isnt, test, and_true}
use Rattle.listing.specs.Listing.{line_feed, text_of, lengthened, lines_of}
use Rattle.listing.proofs.Numbers.{clean}

pub first_line : (l t : List ℕ) → clean l ≡ true → lines_of (l ++ line_feed ∷ t) ≡ record { pieces = l ∷ (lines_of t).pieces; rest = (lines_of t).rest }
unfolding lines_of
first_line [] t h = refl
first_line (c ∷ l) t h =
    let p = and_true (not (eqb c line_feed)) (clean l) h in
    rw (not-true (eqb c line_feed) p.0, first_line l t p.1) refl

-- the lines of a text in two parts
lengthened_on : (c : ℕ) (ls : List (List ℕ)) (r more : List ℕ) → eqb c line_feed ≡ false
    → lengthened c (ls ++ (lines_of (r ++ more)).pieces) (lines_of (r ++ more)).rest
    ≡ record { pieces = (lengthened c ls r).pieces ++ (lines_of ((lengthened c ls r).rest ++ more)).pieces; rest = (lines_of ((lengthened c ls r).rest ++ more)).rest }
unfolding lines_of
lengthened_on c [] r more e = rw e refl
lengthened_on c (l ∷ ls) r more e = refl

pub lines_on : (part more : List ℕ)
    → lines_of (part ++ more) ≡ record { pieces = (lines_of part).pieces ++ (lines_of ((lines_of part).rest ++ more)).pieces; rest = (lines_of ((lines_of part).rest ++ more)).rest }
unfolding lines_of
lines_on [] more = refl
lines_on (c ∷ cs) more =
    elim (test (eqb c line_feed)) [
      | is e ↦ rw (e, lines_on cs more) refl
      | isnt e ↦ rw (e, lines_on cs more) (lengthened_on c (lines_of cs).pieces (lines_of cs).rest more e)
    ]

-- a text is its lines and what stands after them
lengthened_text : (c : ℕ) (ls : List (List ℕ)) (r : List ℕ) → text_of (lengthened c ls r).pieces ++ (lengthened c ls r).rest ≡ c ∷ (text_of ls ++ r)
unfolding text_of
lengthened_text c [] r = refl
lengthened_text c (l ∷ ls) r = refl

pub text_of_lines : (text : List ℕ) → text_of (lines_of text).pieces ++ (lines_of text).rest ≡ text
unfolding lines_of text_of
text_of_lines [] = refl
text_of_lines (c ∷ cs) =
    elim (test (eqb c line_feed)) [
      | is e ↦ rw e (λ i. sym (eqb-true c line_feed e) i ∷ text_of_lines cs i)
      | isnt e ↦ rw e (lengthened_text c (lines_of cs).pieces (lines_of cs).rest ∙ ap (λ (t : List ℕ). c ∷ t) (text_of_lines cs))
    ]
