-- An input cut into its pieces, in both ways: the pieces and what is left over are the input; and an input that goes on has the pieces that
-- were whole, then those of what was left over with the rest. Assumes nothing.
use mathlib.Core.Path.{◌≡◌, refl, sym, ap, ◌∙◌}
use mathlib.Core.List.{List, [], ◌∷◌, ◌++◌, flatten, append-nil, append_assoc}
use Prim.Native.Nat.{ℕ, zero, suc, ◌+◌, ◌*◌, ◌/◌}
use native.Mathlib.Omega.{arith}
use lib.ListN.{length, length-append, take, drop, take-append-drop}
use lib.Seq.{drop-drop}
use Rattle.rules.specs.Requests.{request_length}
use Rattle.rules.specs.Trace.{records}
use Rattle.parts.proofs.Whole.{whole_append, left_append}
use Rattle.listing.specs.Listing.{Cut, line_feed, text_of, lines_of, cut, input_of, bytes_of}
use Rattle.listing.specs.declared.Way.{Way}
use Rattle.listing.specs.declared.Way.TheVariants.{ToRecords, ToListing}
use Rattle.listing.proofs.Texts.{lines_on, text_of_lines}

-- THE BYTES OF PIECES

text_append : (ls ms : List (List ℕ)) → text_of (ls ++ ms) ≡ text_of ls ++ text_of ms
unfolding text_of
text_append [] ms = refl
text_append (l ∷ ls) ms = ap (λ (t : List ℕ). l ++ line_feed ∷ t) (text_append ls ms) ∙ sym (append_assoc l (line_feed ∷ text_of ls) (text_of ms))

flatten_append : (xs ys : List (List ℕ)) → flatten (xs ++ ys) ≡ flatten xs ++ flatten ys
unfolding flatten
flatten_append [] ys = refl
flatten_append (x ∷ xs) ys = ap (λ (t : List ℕ). x ++ t) (flatten_append xs ys) ∙ sym (append_assoc x (flatten xs) (flatten ys))

pub bytes_append : (w : Way) (xs ys : List (List ℕ)) → bytes_of w (xs ++ ys) ≡ bytes_of w xs ++ bytes_of w ys
bytes_append ToRecords xs ys = flatten_append xs ys
bytes_append ToListing xs ys = text_append xs ys

pub input_append : (w : Way) (xs ys : List (List ℕ)) → input_of w (xs ++ ys) ≡ input_of w xs ++ input_of w ys
input_append ToRecords xs ys = text_append xs ys
input_append ToListing xs ys = flatten_append xs ys

-- WHAT IS CUT IS THE INPUT

records_flat : (n : ℕ) (xs : List ℕ) → flatten (records n xs) ++ drop (n * request_length) xs ≡ xs
unfolding records flatten
records_flat zero xs = refl
records_flat (suc n) xs =
    let place : request_length + n * request_length ≡ suc n * request_length = omega arith in
    append_assoc (take request_length xs) (flatten (records n (drop request_length xs))) (drop (suc n * request_length) xs)
    ∙ ap (λ (t : List ℕ). take request_length xs ++ (flatten (records n (drop request_length xs)) ++ t)) (sym (drop-drop (n * request_length) request_length xs ∙ ap (λ (k : ℕ). drop k xs) place))
    ∙ ap (λ (t : List ℕ). take request_length xs ++ t) (records_flat n (drop request_length xs))
    ∙ take-append-drop request_length xs

pub cut_whole : (w : Way) (input : List ℕ) → input_of w (cut w input).pieces ++ (cut w input).rest ≡ input
cut_whole ToRecords text = text_of_lines text
cut_whole ToListing input = records_flat (length input / request_length) input

-- AN INPUT THAT GOES ON

pub cut_on : (w : Way) (come more : List ℕ)
    → cut w (come ++ more)
    ≡ record { pieces = (cut w come).pieces ++ (cut w ((cut w come).rest ++ more)).pieces; rest = (cut w ((cut w come).rest ++ more)).rest }
cut_on ToRecords come more = lines_on come more
cut_on ToListing come more = λ j. record { pieces = whole_append come more j; rest = left_append come more j }

none_of : {A : Type 0} (xs : List A) → length xs ≡ 0 → xs ≡ []
none_of [] e = refl
none_of (x ∷ xs) e = absurd (omega arith)

-- what is left over has no whole piece, and is all left over
pub record Open (w : Way) (held : List ℕ) : Type 0 where
  pub none : (cut w held).pieces ≡ []
  pub all : (cut w held).rest ≡ held

pub left_open : (w : Way) (come : List ℕ) → Open w (cut w come).rest
left_open w come =
    let rest = (cut w come).rest in
    let whole : cut w come ≡ record { pieces = (cut w come).pieces ++ (cut w (rest ++ [])).pieces; rest = (cut w (rest ++ [])).rest } =
    ap (cut w) (sym (append-nil come)) ∙ cut_on w come [] in
    let same : cut w (rest ++ []) ≡ cut w rest = ap (cut w) (append-nil rest) in
    let size : length (cut w come).pieces ≡ length (cut w come).pieces + length (cut w (rest ++ [])).pieces =
    ap (λ (c : Cut). length c.pieces) whole ∙ length-append (cut w come).pieces (cut w (rest ++ [])).pieces in
    record {
      none = ap (λ (c : Cut). c.pieces) (sym same) ∙ none_of (cut w (rest ++ [])).pieces (omega arith);
      all = ap (λ (c : Cut). c.rest) (sym same) ∙ sym (ap (λ (c : Cut). c.rest) whole);
    }

pub none_open : (w : Way) → Open w []
unfolding lines_of records
none_open ToRecords = record { none = refl; all = refl }
none_open ToListing = record { none = refl; all = refl }
