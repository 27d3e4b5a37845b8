-- Whole texts and whole records there and back, line by line and record by record. Assumes nothing.
use Rattle.std.specs.Prelude.{Option, None, Some}
use mathlib.Core.Path.{◌≡◌, refl, sym, ap, ◌∙◌}
use mathlib.Core.Bool.{Bool, true, false, not, ◌&&◌}
use mathlib.Core.List.{List, [], ◌∷◌, ◌++◌, flatten, append-nil}
use Prim.Native.Nat.{ℕ, zero, suc, ◌+◌, ◌*◌, ◌/◌}
use native.Mathlib.Decide.{dec_lt}
use native.Mathlib.Omega.{arith}
use lib.Dec.{eqb}
use lib.ListN.{length, length-append, length-take, take, drop, drop_of_length-le, get_or-eq_default}
use lib.Seq.{get_or-take, get_or-drop, take_all, take_at, drop_at}
use Rattle.rules.specs.Requests.{request_length}
use Rattle.rules.specs.Trace.{records, whole_records}
use Rattle.parts.specs.LeftOver.{left_over}
use Rattle.laws.proofs.Split.{and_true, and_both}
use Rattle.listing.specs.Line.{is_digit, digit_first, line_of, record_of, plain_from, plain}
use Rattle.listing.specs.Listing.{Out, line_feed, text_of, lines_of, joined, each, turned_from}
use Rattle.request.specs.Trips.{Bytes}
use Rattle.listing.specs.Trips.{Whole, Same, WholeBack}
use Rattle.listing.specs.declared.Way.TheVariants.{ToRecords, ToListing}
use Rattle.listing.proofs.Trips.{read, line_back, written, taken_clean}
use Rattle.listing.proofs.Texts.{first_line, text_of_lines}
use Rattle.listing.proofs.Each.{joined_none, no_rest, each_all}
use Rattle.listing.proofs.Cuts.{cut_whole}

-- FROM RECORDS TO A TEXT AND BACK

abbrev AllBytes : List (List ℕ) → Type 0
AllBytes [] = Unit {0}
AllBytes (r ∷ rs) = Bytes r × AllBytes rs

none_written : (k : ℕ) → turned_from ToRecords k [] ≡ record { done = []; bad = None }
unfolding turned_from lines_of each
none_written k = refl

-- a first line that is taken
one_written : (k : ℕ) (l r t : List ℕ) → record_of l ≡ Some r
    → turned_from ToRecords k (l ++ line_feed ∷ t) ≡ record { done = r ∷ (turned_from ToRecords (suc k) t).done; bad = (turned_from ToRecords (suc k) t).bad }
unfolding turned_from each
one_written k l r t e = rw (first_line l t (taken_clean l r e), e) refl

whole_step : (m : Option (List ℕ)) (j k : ℕ) (r : List ℕ) (rs : List (List ℕ)) (out : Out) → Bytes r → line_of r ≡ m
    → ((j : ℕ) → turned_from ToRecords j (text_of out.done) ≡ record { done = take (length out.done) rs; bad = None })
    → turned_from ToRecords j (text_of (joined m k out).done) ≡ record { done = take (length (joined m k out).done) (r ∷ rs); bad = None }
unfolding text_of
whole_step None j k r rs out byte e h = none_written j
whole_step (Some l) j k r rs out byte e h = one_written j l r (text_of out.done) (line_back r l byte e) ∙ rw (h (suc j)) refl

whole_from : (j k : ℕ) (rs : List (List ℕ)) (rest : List ℕ) → AllBytes rs
    → turned_from ToRecords j (text_of (each line_of k rs rest).done) ≡ record { done = take (length (each line_of k rs rest).done) rs; bad = None }
unfolding each text_of
whole_from j k [] [] byte = none_written j
whole_from j k [] (c ∷ cs) byte = none_written j
whole_from j k (r ∷ rs) rest byte =
    whole_step (line_of r) j k r rs (each line_of (suc k) rs rest) byte.0 refl (λ i. whole_from i (suc k) rs rest byte.1)

take_bytes : (n : ℕ) (bs : List ℕ) → Bytes bs → Bytes (take n bs)
take_bytes n bs byte k =
    elim (dec_lt k n) [
      | yes h ↦ rw (get_or-take n bs k 0 h) (byte k)
      | no h ↦ rw (get_or-eq_default (take n bs) 0 {n = k} (omega (arith, length-take n bs))) (omega arith)
    ]

records_bytes : (n : ℕ) (bs : List ℕ) → Bytes bs → AllBytes (records n bs)
unfolding records
records_bytes zero bs byte = tt
records_bytes (suc n) bs byte =
    (take_bytes request_length bs byte, records_bytes n (drop request_length bs) (λ k. rw (get_or-drop request_length bs k 0) (byte (request_length + k))))

pub whole : Whole
unfolding turned_from
whole input byte = whole_from 0 0 (whole_records input) (left_over input) (records_bytes (length input / request_length) input byte)

pub same : Same
unfolding turned_from
same input byte e =
    let rs = whole_records input in
    let none_left = no_rest line_of 0 rs (left_over input) e in
    let all : length (each line_of 0 rs (left_over input)).done ≡ length rs = rw none_left (each_all line_of 0 rs (rw none_left at e)) in
    let taken : take (length (each line_of 0 rs (left_over input)).done) rs ≡ rs = take_all (length (each line_of 0 rs (left_over input)).done) rs (omega arith) in
    let bytes : flatten rs ≡ input = sym (append-nil (flatten rs)) ∙ ap (λ (t : List ℕ). flatten rs ++ t) (sym none_left) ∙ cut_whole ToListing input in
    let w = whole input byte in
    (ap (λ (o : Out). o.bad) w, ap (λ (o : Out). flatten o.done) w ∙ ap flatten taken ∙ bytes)

-- FROM A TEXT TO RECORDS AND BACK

-- a line feed parts numbers, so a text without leading zeros has none in its lines
digit_first_on : (cs t : List ℕ) → digit_first (cs ++ line_feed ∷ t) ≡ digit_first cs
digit_first_on [] t = refl
digit_first_on (c ∷ cs) t = refl

plain_parts : (s : Bool) (l t : List ℕ) → plain_from s (l ++ line_feed ∷ t) ≡ true → (plain_from s l ≡ true) × (plain_from true t ≡ true)
unfolding plain_from
plain_parts s [] t e = (refl, (and_true (not (s && false && digit_first t)) (plain_from true t) e).1)
plain_parts s (c ∷ l) t e =
    let p = and_true (not (s && eqb c 48 && digit_first (l ++ line_feed ∷ t))) (plain_from (not (is_digit c)) (l ++ line_feed ∷ t)) e in
    let q = plain_parts (not (is_digit c)) l t p.1 in
    (and_both (not (s && eqb c 48 && digit_first l)) (plain_from (not (is_digit c)) l) (rw (digit_first_on l t) at p.0) q.0, q.1)

back_from : (j k : ℕ) (ls : List (List ℕ)) → (each record_of k ls []).bad ≡ None → plain (text_of ls) ≡ true
    → text_of (each line_of j (each record_of k ls []).done []).done ≡ text_of ls
unfolding each text_of
back_from j k [] e p = refl
back_from j k (l ∷ ls) e p =
    let w = joined_none (record_of l) k (each record_of (suc k) ls []) e in
    let q = plain_parts true l (text_of ls) p in
    rw (w.1, written l w.0 w.1 q.0) (ap (λ (t : List ℕ). l ++ line_feed ∷ t) (back_from (suc j) (suc k) ls w.2 q.1))

-- RECORDS OF 12 BYTES ONE AFTER THE OTHER

abbrev Twelve : List (List ℕ) → Type 0
Twelve [] = Unit {0}
Twelve (r ∷ rs) = (length r ≡ request_length) × Twelve rs

pub record_long : (l r : List ℕ) → record_of l ≡ Some r → length r ≡ request_length
record_long l r e = ap length (sym (read l r e).made)

twelve_joined : (m : Option (List ℕ)) (k : ℕ) (l : List ℕ) (out : Out) → record_of l ≡ m → Twelve out.done → Twelve (joined m k out).done
twelve_joined None k l out e h = tt
twelve_joined (Some r) k l out e h = (record_long l r e, h)

twelve_each : (k : ℕ) (ls : List (List ℕ)) (rest : List ℕ) → Twelve (each record_of k ls rest).done
unfolding each
twelve_each k [] [] = tt
twelve_each k [] (c ∷ cs) = tt
twelve_each k (l ∷ ls) rest = twelve_joined (record_of l) k l (each record_of (suc k) ls rest) refl (twelve_each (suc k) ls rest)

twelve_length : (rs : List (List ℕ)) → Twelve rs → length (flatten rs) ≡ length rs * request_length
unfolding flatten
twelve_length [] h = refl
twelve_length (r ∷ rs) h = length-append r (flatten rs) ∙ omega (arith, h.0, twelve_length rs h.1)

twelve_back : (rs : List (List ℕ)) → Twelve rs → records (length rs) (flatten rs) ≡ rs
unfolding flatten records
twelve_back [] h = refl
twelve_back (r ∷ rs) h =
    rw (take_at r (flatten rs) request_length h.0, drop_at r (flatten rs) request_length h.0) (ap (λ (l : List (List ℕ)). r ∷ l) (twelve_back rs h.1))

pub cut_back : (rs : List (List ℕ)) → Twelve rs → (whole_records (flatten rs) ≡ rs) × (left_over (flatten rs) ≡ [])
cut_back rs h =
    let many : length (flatten rs) / request_length ≡ length rs = omega (arith, twelve_length rs h) in
    (ap (λ (n : ℕ). records n (flatten rs)) many ∙ twelve_back rs h, drop_of_length-le (flatten rs) {i = length (flatten rs) / request_length * request_length} (omega (arith, twelve_length rs h)))

pub whole_back : WholeBack
unfolding turned_from
whole_back text e p =
    let ls = (lines_of text).pieces in
    let none_left = no_rest record_of 0 ls (lines_of text).rest e in
    let same : text_of ls ≡ text = sym (append-nil (text_of ls)) ∙ ap (λ (t : List ℕ). text_of ls ++ t) (sym none_left) ∙ text_of_lines text in
    let back = cut_back (each record_of 0 ls (lines_of text).rest).done (twelve_each 0 ls (lines_of text).rest) in
    rw (back.0, back.1, none_left) (back_from 0 0 ls (rw none_left at e) (rw same p) ∙ same)
