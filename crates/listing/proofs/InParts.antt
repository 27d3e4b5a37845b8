-- An input in parts is the input: what comes out of a part, and then of what is left of it with the next part, is what comes out of both. Assumes
-- nothing.
use Rattle.std.specs.Prelude.{if◌then◌else◌, Option, None, Some}
use mathlib.Core.Path.{◌≡◌, refl, sym, ap, ◌∙◌}
use mathlib.Core.Bool.{Bool, true, false, ◌||◌}
use mathlib.Core.List.{List, [], ◌∷◌, ◌++◌, flatten, append-nil, append_assoc}
use Prim.Native.Nat.{ℕ, suc, ◌+◌, ◌≤◌, ◌<◌}
use native.Mathlib.Omega.{arith}
use lib.Dec.{eqb}
use lib.ListN.{length, length-append}
use borrow.Author.Tests.{ltb-true}
use Rattle.laws.proofs.Split.{is, isnt, test, clash, or_false}
use Rattle.listing.specs.Line.{line_most, record_of}
use Rattle.listing.specs.Listing.{Cut, Out, line_feed, lengthened, lines_of, cut, input_of, rule, each, turned_from}
use Rattle.listing.specs.Parts.{part_of, is_bad, too_long, stops, holds, is_some, out_of_all, InParts}
use Rattle.listing.specs.declared.Way.{Way}
use Rattle.listing.specs.declared.Way.TheVariants.{ToRecords, ToListing}
use Rattle.listing.proofs.Trips.{too_long_lem}
use Rattle.listing.proofs.Each.{each_on, each_stop, each_same, each_all}
use Rattle.listing.proofs.Cuts.{cut_whole, cut_on, Open, left_open, none_open}

-- some that are done before what comes out of the rest
abbrev pub before : List (List ℕ) → Out → Out
before done out = record { done = done ++ out.done; bad = out.bad }

-- A LINE THAT IS TOO LONG BEFORE IT ENDS

lengthened_none : (c : ℕ) (ls : List (List ℕ)) (r : List ℕ) → (lengthened c ls r).pieces ≡ [] → ls ≡ []
lengthened_none c [] r e = refl
lengthened_none c (l ∷ ls) r e = absurd (let n : suc (length ls) ≡ 0 = ap length e in omega arith)

-- a text without a line feed before another text
fronted : List ℕ → List (List ℕ) → List ℕ → Cut
fronted t [] r = record { pieces = []; rest = t ++ r }
fronted t (l ∷ ls) r = record { pieces = (t ++ l) ∷ ls; rest = r }

fronted_none : (ls : List (List ℕ)) (r : List ℕ) → fronted [] ls r ≡ record { pieces = ls; rest = r }
unfolding fronted
fronted_none [] r = refl
fronted_none (l ∷ ls) r = refl

fronted_one : (c : ℕ) (t : List ℕ) (ls : List (List ℕ)) (r : List ℕ) → lengthened c (fronted t ls r).pieces (fronted t ls r).rest ≡ fronted (c ∷ t) ls r
unfolding fronted
fronted_one c t [] r = refl
fronted_one c t (l ∷ ls) r = refl

lines_fronted : (t more : List ℕ) → (lines_of t).pieces ≡ [] → lines_of (t ++ more) ≡ fronted t (lines_of more).pieces (lines_of more).rest
unfolding lines_of
lines_fronted [] more e = sym (fronted_none (lines_of more).pieces (lines_of more).rest)
lines_fronted (c ∷ t) more e =
    elim (test (eqb c line_feed)) [
      | is f ↦ absurd (let n : suc (length (lines_of t).pieces) ≡ 0 = ap length (rw f at e) in omega arith)
      | isnt f ↦
          let none_left = lengthened_none c (lines_of t).pieces (lines_of t).rest (rw f at e) in
          rw (f, lines_fronted t more none_left) (fronted_one c t (lines_of more).pieces (lines_of more).rest)
    ]

rest_bad : (k : ℕ) (r : List ℕ) → 0 < length r → each record_of k [] r ≡ record { done = []; bad = Some k }
unfolding each
rest_bad k [] h = absurd (omega arith)
rest_bad k (c ∷ cs) h = refl

fronted_bad : (k : ℕ) (t : List ℕ) (ls : List (List ℕ)) (r : List ℕ) → line_most < length t
    → each record_of k (fronted t ls r).pieces (fronted t ls r).rest ≡ record { done = []; bad = Some k }
unfolding fronted each
fronted_bad k t [] r h = rest_bad k (t ++ r) (omega (arith, length-append t r))
fronted_bad k t (l ∷ ls) r h = rw (sym (too_long_lem (t ++ l) (omega (arith, length-append t l)))) refl

too_long_text : (k : ℕ) (rest more : List ℕ) → (lines_of rest).pieces ≡ [] → line_most < length rest → turned_from ToRecords k (rest ++ more) ≡ record { done = []; bad = Some k }
unfolding turned_from
too_long_text k rest more e h = rw (lines_fronted rest more e) (fronted_bad k rest (lines_of more).pieces (lines_of more).rest h)

too_long_on : (w : Way) (k : ℕ) (rest more : List ℕ) → Open w rest → too_long w (length rest) ≡ true → turned_from w k (rest ++ more) ≡ record { done = []; bad = Some k }
too_long_on ToRecords k rest more o e = too_long_text k rest more o.none (ltb-true line_most (length rest) e)
too_long_on ToListing k rest more o e = absurd (clash e refl)

-- A PART AND MORE

module _ (w : Way) (k : ℕ) (come more : List ℕ) where
  whole_on : (part_of w come).bad ≡ None
      → turned_from w k (come ++ more) ≡ before (part_of w come).done (turned_from w (k + length (part_of w come).done) ((cut w come).rest ++ more))
  unfolding turned_from part_of
  whole_on e =
      let xs = (cut w come).pieces in
      let rest = (cut w come).rest in
      let s = each_same (rule w) k 0 xs in
      let n : length xs ≡ length (each (rule w) 0 xs []).done = sym (each_all (rule w) 0 xs e) in
      rw (cut_on w come more, ← n)
      (each_on (rule w) k xs (cut w (rest ++ more)).pieces (cut w (rest ++ more)).rest (s.taken e)
      ∙ ap (λ (d : List (List ℕ)). before d (each (rule w) (k + length xs) (cut w (rest ++ more)).pieces (cut w (rest ++ more)).rest)) s.done)

  bad_there : (j : ℕ) → (part_of w come).bad ≡ Some j
      → turned_from w k (come ++ more) ≡ record { done = (part_of w come).done; bad = Some (k + length (part_of w come).done) }
  unfolding turned_from part_of
  bad_there j e =
      let xs = (cut w come).pieces in
      let rest = (cut w come).rest in
      let s = each_same (rule w) k 0 xs in
      rw (cut_on w come more)
      (each_stop (rule w) k (k + length (each (rule w) 0 xs []).done) xs (cut w (rest ++ more)).pieces (cut w (rest ++ more)).rest (s.stopped j e)
      ∙ (λ i. record { done = s.done i; bad = s.stopped j e i }))

  -- the part is not the last that is looked at
  pub goes_on : stops w come ≡ false
      → (holds w come ≡ (cut w come).rest)
      × (turned_from w k (come ++ more) ≡ before (part_of w come).done (turned_from w (k + length (part_of w come).done) ((cut w come).rest ++ more)))
  unfolding stops holds
  goes_on e = (rw e refl, go (part_of w come).bad refl (or_false (is_bad (part_of w come).bad) (too_long w (length (cut w come).rest)) e).0)
    where
      go : (b : Option ℕ) → (part_of w come).bad ≡ b → is_bad (part_of w come).bad ≡ false
          → turned_from w k (come ++ more) ≡ before (part_of w come).done (turned_from w (k + length (part_of w come).done) ((cut w come).rest ++ more))
      go None b f = whole_on b
      go (Some j) b f = absurd (clash (ap is_bad b) f)

  -- it is the last
  pub stops_there : stops w come ≡ true
      → turned_from w k (come ++ more) ≡ record { done = (part_of w come).done; bad = Some (k + length (part_of w come).done) }
  unfolding stops
  stops_there e = go (part_of w come).bad refl
    where
      long : (b : Bool) → b ≡ false → b || too_long w (length (cut w come).rest) ≡ true → too_long w (length (cut w come).rest) ≡ true
      long true f e = absurd (clash refl f)
      long false f e = e

      go : (b : Option ℕ) → (part_of w come).bad ≡ b
          → turned_from w k (come ++ more) ≡ record { done = (part_of w come).done; bad = Some (k + length (part_of w come).done) }
      go (Some j) b = bad_there j b
      go None b =
          whole_on b
          ∙ ap (before (part_of w come).done) (too_long_on w (k + length (part_of w come).done) (cut w come).rest more (left_open w come) (long (is_bad (part_of w come).bad) (ap is_bad b) e))
          ∙ ap (λ (d : List (List ℕ)). record { done = d; bad = Some (k + length (part_of w come).done) }) (append-nil (part_of w come).done)

-- PART AFTER PART

-- nothing more comes
pub last_open : (w : Way) (k : ℕ) (held : List ℕ) → Open w held
    → turned_from w k held ≡ record { done = []; bad = if is_some held then Some k else None }
unfolding turned_from each
last_open w k held o = rw (o.none, o.all) (go held)
  where
    go : (l : List ℕ) → each (rule w) k [] l ≡ record { done = []; bad = if is_some l then Some k else None }
    go [] = refl
    go (c ∷ cs) = refl

pub holds_come : (w : Way) (come : List ℕ) → stops w come ≡ true → holds w come ≡ come
unfolding holds
holds_come w come e = rw e refl

pub holds_all : (w : Way) (come : List ℕ) → stops w come ≡ false → holds w come ≡ (cut w come).rest
unfolding holds
holds_all w come e = rw e refl

-- what is held has come
pub holds_room : (w : Way) (come : List ℕ) → length (holds w come) ≤ length come
holds_room w come =
    elim (test (stops w come)) [
      | is e ↦ rw (holds_come w come e) (omega arith)
      | isnt e ↦
          rw (holds_all w come e)
          (omega (arith, ap length (cut_whole w come), length-append (input_of w (cut w come).pieces) (cut w come).rest))
    ]

none_more : (w : Way) (k : ℕ) (held : List ℕ) (parts : List (List ℕ)) → out_of_all w (record { number = k; held = held; stopped = true }) parts ≡ record { done = []; bad = Some k }
unfolding out_of_all
none_more w k held [] = refl
none_more w k held (p ∷ parts) = rw (none_more w k held parts) refl

all_from : (w : Way) (k : ℕ) (held : List ℕ) (parts : List (List ℕ)) → Open w held
    → out_of_all w (record { number = k; held = held; stopped = false }) parts ≡ turned_from w k (held ++ flatten parts)
unfolding out_of_all flatten
all_from w k held [] o = sym (ap (turned_from w k) (append-nil held) ∙ last_open w k held o)
all_from w k held (p ∷ parts) o =
    let come = held ++ p in
    let done = (part_of w come).done in
    let joins : come ++ flatten parts ≡ held ++ (p ++ flatten parts) = append_assoc held p (flatten parts) in
    (elim (test (stops w come)) [
      | is e ↦
          rw (e, none_more w (k + length done) (holds w come) parts, append-nil done) (sym (stops_there w k come (flatten parts) e))
      | isnt e ↦
          let g = goes_on w k come (flatten parts) e in
          rw (e, g.0) (ap (before done) (all_from w (k + length done) (cut w come).rest parts (left_open w come)) ∙ sym g.1)
    ])
    ∙ ap (turned_from w k) joins

pub in_parts : InParts
in_parts w parts = all_from w 0 [] parts (none_open w)
