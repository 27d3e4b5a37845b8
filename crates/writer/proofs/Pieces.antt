-- The pieces of a block by their places: a line up to its line feed, and a record of 12 bytes. Assumes nothing.
use Rattle.std.specs.Prelude.{Option, Some, None, cond, position, is_some, unwrap_or}
use Rattle.std.specs.Slice.Iter.{chunks_exact_rest, chunks_exact_size}
use Rattle.std.specs.declared.slice.ChunksExact.{ChunksExact}
use Rattle.std.proofs.lemmas.Option.{none-some, same_Some}
use Rattle.std.specs.List.{position_or_len}
use mathlib.Core.Path.{◌≡◌, refl, sym, ap, ◌∙◌}
use mathlib.Core.Bool.{true, false}
use mathlib.Core.List.{List, [], ◌∷◌, ◌++◌, flatten, append-nil}
use Prim.Native.Nat.{ℕ, zero, suc, ◌+◌, ◌-◌, ◌/◌, ◌≤◌, ◌<◌}
use native.Mathlib.Omega.{arith}
use lib.Dec.{eqb, ltb}
use lib.ListN.{length, length-append, length-take, length-drop, take, drop}
use lib.Seq.{take_all, take_at, drop_at, drop-drop, length-take-le}
use borrow.Author.Tests.{eqb-true, ltb-true, ltb-false}
use Rattle.rules.specs.Basic.{find}
use Rattle.rules.specs.Requests.{request_length}
use Rattle.rules.specs.Trace.{records, whole_records}
use Rattle.parts.proofs.Whole.{none_whole}
use Rattle.laws.proofs.Split.{is, isnt, test, clash}
use Rattle.listing.specs.Line.{line_of, record_of, number_from}
use Rattle.listing.specs.Listing.{Cut, line_feed, text_of, lines_of}
use Rattle.writer.specs.Lines.{fed, listed_room}
use Rattle.writer.specs.Places.{Block}
use Rattle.listing.specs.declared.Way.TheVariants.{ToRecords, ToListing}
use Rattle.listing.proofs.Numbers.{clean}
use Rattle.listing.proofs.Texts.{first_line}
use Rattle.listing.proofs.Back.{record_long}
use Rattle.writer.proofs.Block.{Next, Sofar, one_more, stops, ends}

-- THE END OF A LINE

abbrev feed : List ℕ → ℕ
feed t = find (λ c. eqb c line_feed) t

feed_place : (t : List ℕ) → position_or_len (λ c. eqb c line_feed) t ≡ feed t
feed_place [] = refl
feed_place (c ∷ t) =
    elim (test (eqb c line_feed)) [
      | is e ↦ rw e refl
      | isnt e ↦ rw e (omega (arith, feed_place t))
    ]

-- the place of the first line feed from a place on; the text's length where there is none
unfoldable pub line_end : List ℕ → ℕ → ℕ
line_end text at = at + feed (drop at text)

found_by : (k l : ℕ) → (n : ℕ) → Some n ≡ cond (ltb k l) (Some k) None → (n ≡ k) × (k < l)
found_by k l n e =
    elim (test (ltb k l)) [
      | is h ↦ (same_Some _ _ (rw h at e), ltb-true k l h)
      | isnt h ↦ absurd (none-some _ (sym (rw h at e)))
    ]

none_by : (k l : ℕ) → None ≡ cond (ltb k l) (Some k) None → l ≤ k
none_by k l e =
    elim (test (ltb k l)) [
      | is h ↦ absurd (none-some _ (rw h at e))
      | isnt h ↦ omega (arith, ltb-false k l h)
    ]

-- a text up to its first line feed, if it has one
feed_splits : (t : List ℕ) → feed t < length t → (clean (take (feed t) t) ≡ true) × (t ≡ take (feed t) t ++ line_feed ∷ drop (suc (feed t)) t)
feed_splits [] h = absurd (omega arith)
feed_splits (c ∷ t) h =
    elim (test (eqb c line_feed)) [
      | is e ↦ rw e (refl, ap (λ (x : ℕ). x ∷ t) (eqb-true c line_feed e))
      | isnt e ↦
          let less : feed t < length t = (let l = (rw e at h) in omega arith) in
          let s = feed_splits t less in
          rw e (rw e s.0, ap (λ (l : List ℕ). c ∷ l) s.1)
    ]

no_feed : (t : List ℕ) → length t ≤ feed t → (lines_of t).pieces ≡ []
unfolding lines_of
no_feed [] h = refl
no_feed (c ∷ t) h =
    elim (test (eqb c line_feed)) [
      | is e ↦ absurd (let l = (rw e at h) in omega arith)
      | isnt e ↦ rw (e, no_feed t (let l = (rw e at h) in omega arith)) refl
    ]

-- A LINE IN ITS PLACE

-- from a place up to another
abbrev pub part : List ℕ → ℕ → ℕ → List ℕ
part text at end = take (end - at) (drop at text)

abbrev pub line_at : List ℕ → ℕ → List ℕ
line_at text at = part text at (line_end text at)

record There (text : List ℕ) (at : ℕ) : Type 0 where
  pub pure : clean (line_at text at) ≡ true
  pub whole : drop at text ≡ line_at text at ++ line_feed ∷ drop (line_end text at + 1) text
  pub long : at + length (line_at text at) ≡ line_end text at

there : (text : List ℕ) (at : ℕ) → at ≤ length text → line_end text at < length text → There text at
unfolding line_end
there text at h l =
    let t = drop at text in
    let e = feed t in
    let s = feed_splits t (omega (arith, length-drop at text)) in
    let far : at + e - at ≡ e = omega arith in
    let line : part text at (at + e) ≡ take e t = ap (λ (k : ℕ). take k t) far in
    let next : at + suc e ≡ at + e + 1 = omega arith in
    let rest : drop (suc e) t ≡ drop (at + e + 1) text = drop-drop (suc e) at text ∙ ap (λ (k : ℕ). drop k text) next in
    record {
      pure = rw line s.0;
      whole = rw line (s.1 ∙ ap (λ (r : List ℕ). take e t ++ line_feed ∷ r) rest);
      long = rw line (omega (arith, length-take e t, length-drop at text));
    }

-- a line is the next piece of the text
pub next_line : (text : List ℕ) (at : ℕ) → at ≤ length text → line_end text at < length text → Next ToRecords text at (line_at text at) (line_end text at + 1)
unfolding text_of
next_line text at h l =
    let t = there text at h l in
    record {
      there = ap (λ (x : List ℕ). (lines_of x).pieces) t.whole ∙ ap (λ (x : Cut). x.pieces) (first_line (line_at text at) (drop (line_end text at + 1) text) t.pure);
      far = omega (arith, length-append (line_at text at) (line_feed ∷ []), t.long);
      within = omega arith;
    }

-- A LINE IN ITS TURN

line_long : (l r : List ℕ) → record_of l ≡ Some r → 1 ≤ length l
unfolding record_of number_from
line_long [] r e = absurd (none-some r e)
line_long (c ∷ l) r e = omega arith

given_some : (m : Option (List ℕ)) → true ≡ is_some m → m ≡ Some (unwrap_or m [])
given_some None e = absurd (clash (sym e) refl)
given_some (Some x) e = refl

pub given_none : (m : Option (List ℕ)) → false ≡ is_some m → m ≡ None
given_none None e = refl
given_none (Some x) e = absurd (clash refl (sym e))

same : {l m : List ℕ} → l ≡ m ++ [] → l ≡ m
same {l} {m} e = e ∙ append-nil m

module _ {text before : List ℕ} {n at : ℕ} {after : List ℕ} (s : Sofar ToRecords text before n at after) (end : ℕ) (is : end ≡ line_end text at) (l : end < length text)
    {later : List ℕ} (q : later ≡ after ++ unwrap_or (record_of (part text at end)) []) where
  abbrev found : Option (List ℕ)
  found = record_of (part text at end)

  there_now : Next ToRecords text at (part text at end) (end + 1)
  there_now = rw is (next_line text at s.inside (omega arith))

  pub line_taken : true ≡ is_some (record_of (part text at end)) → Sofar ToRecords text before (n + 1) (end + 1) later
  unfolding flatten
  line_taken e =
      let m = given_some found e in
      let x = unwrap_or found [] in
      let long = record_long (part text at end) x m in
      let size = line_long (part text at end) x m in
      let puts : later ≡ after ++ (x ++ []) = rw (append-nil x) q in
      one_more s x there_now m puts (omega (arith, line_far)) (omega (arith, s.room, size, line_far, long, ap length q, length-append after x))
    where
      line_far : at + length (part text at end) ≡ end
      line_far = rw is (there text at s.inside (omega arith)).long

  pub line_bad : false ≡ is_some (record_of (part text at end)) → Block ToRecords text before later n at true
  line_bad e =
      let m = given_none found e in
      rw (q ∙ ap (λ (x : Option (List ℕ)). after ++ unwrap_or x []) m ∙ append-nil after) (stops s there_now m)

-- what `position` answers of the rest of the text says whether a line is there
abbrev pub rest_at : List ℕ → ℕ → List ℕ
rest_at text at = take (length text - at) (drop at text)

rest_all : (text : List ℕ) (at : ℕ) → rest_at text at ≡ drop at text
rest_all text at = take_all (length text - at) (drop at text) (omega (arith, length-drop at text))

pub found_end : (text : List ℕ) (at n : ℕ) → Some n ≡ position (λ c. eqb c line_feed) (rest_at text at) → at ≤ length text → (at + n ≡ line_end text at) × (at + n < length text)
unfolding line_end
found_end text at n e h =
    let there : Some n ≡ position (λ c. eqb c line_feed) (drop at text) = e ∙ ap (position (λ c. eqb c line_feed)) (rest_all text at) in
    let f = found_by (position_or_len (λ c. eqb c line_feed) (drop at text)) (length (drop at text)) n there in
    (omega (arith, f.0, feed_place (drop at text)), omega (arith, f.0, f.1, length-drop at text))

pub no_end : (text : List ℕ) (at : ℕ) → None ≡ position (λ c. eqb c line_feed) (rest_at text at) → at ≤ length text → length text ≤ line_end text at
unfolding line_end
no_end text at e h =
    let there : None ≡ position (λ c. eqb c line_feed) (drop at text) = e ∙ ap (position (λ c. eqb c line_feed)) (rest_all text at) in
    omega (arith, none_by (position_or_len (λ c. eqb c line_feed) (drop at text)) (length (drop at text)) there, feed_place (drop at text), length-drop at text)

pub lines_end : {text before : List ℕ} {n at : ℕ} {after : List ℕ} → Sofar ToRecords text before n at after → length text ≤ line_end text at
    → Block ToRecords text before after n at false
unfolding line_end
lines_end {text} {at = at} s l = ends s (no_feed (drop at text) (omega (arith, length-drop at text, s.inside)))

-- A RECORD IN ITS TURN

abbrev pub record_at : List ℕ → ℕ → List ℕ
record_at input at = take request_length (drop at input)

-- where a record is whole, it is the first
first_whole : (k : ℕ) (xs : List ℕ) → length xs / request_length ≡ suc k → whole_records xs ≡ take request_length xs ∷ whole_records (drop request_length xs)
unfolding records
first_whole k xs e =
    let rest : length (drop request_length xs) / request_length ≡ k = omega (arith, length-drop request_length xs) in
    ap (λ (n : ℕ). records n xs) e ∙ ap (λ (n : ℕ). take request_length xs ∷ records n (drop request_length xs)) (sym rest)

next_record : (input : List ℕ) (at : ℕ) → at + request_length ≤ length input → Next ToListing input at (record_at input at) (at + request_length)
unfolding flatten
next_record input at h = record {
  there = go (length (drop at input) / request_length) refl;
  far = omega (arith, length-append (record_at input at) [], length-take-le request_length (drop at input) (omega (arith, length-drop at input)));
  within = h;
}
  where
    go : (k : ℕ) → length (drop at input) / request_length ≡ k → whole_records (drop at input) ≡ record_at input at ∷ whole_records (drop (at + request_length) input)
    go zero e = absurd (omega (arith, length-drop at input))
    go (suc k) e = first_whole k (drop at input) e ∙ ap (λ (l : List ℕ). record_at input at ∷ whole_records l) (drop-drop request_length at input)

-- an iterator over the records has those from a place on still to give
pub record Coming (input : List ℕ) (at : ℕ) (it : ChunksExact ℕ) : Type 0 where
  pub size : chunks_exact_size it ≡ request_length
  pub rest : chunks_exact_rest it ≡ drop at input

-- it gives a record
pub record Comes (input : List ℕ) (at : ℕ) (x : List ℕ) (it : ChunksExact ℕ) : Type 0 where
  pub is : x ≡ record_at input at
  pub inside : at + request_length ≤ length input
  pub more : Coming input (at + request_length) it

module _ {input : List ℕ} {at : ℕ} {it : ChunksExact ℕ} (h : Coming input at it) where
  pub comes : {x : List ℕ} {next : ChunksExact ℕ} → chunks_exact_size next ≡ chunks_exact_size it → chunks_exact_rest it ≡ x ++ chunks_exact_rest next → length x ≡ chunks_exact_size it
      → Comes input at x next
  comes {x} {next} s r l =
      let parts : drop at input ≡ x ++ chunks_exact_rest next = sym h.rest ∙ r in
      let long : length x ≡ request_length = l ∙ h.size in
      record {
        is = sym (ap (take request_length) parts ∙ take_at x (chunks_exact_rest next) request_length long);
        inside = omega (arith, ap length parts, length-append x (chunks_exact_rest next), long, length-drop at input);
        more = record {
          size = s ∙ h.size;
          rest = sym (drop_at x (chunks_exact_rest next) request_length long) ∙ ap (drop request_length) (sym parts) ∙ drop-drop request_length at input;
        };
      }

  pub no_more : length (chunks_exact_rest it) < chunks_exact_size it → length input < at + request_length
  no_more l = omega (arith, l, h.size, ap length h.rest, length-drop at input)

module _ {input before : List ℕ} {n at : ℕ} {after : List ℕ} (s : Sofar ToListing input before n at after) (h : at + request_length ≤ length input)
    {later : List ℕ} (p : later ≡ after ++ fed (line_of (record_at input at))) (room : length later ≤ length after + listed_room) where
  pub record_taken : true ≡ is_some (line_of (record_at input at)) → Sofar ToListing input before (n + 1) (at + request_length) later
  unfolding text_of
  record_taken e =
      let m = given_some (line_of (record_at input at)) e in
      one_more s (unwrap_or (line_of (record_at input at)) []) (next_record input at h) m (p ∙ ap (λ (x : Option (List ℕ)). after ++ fed x) m) (omega arith) (omega (arith, s.room))

  pub record_bad : false ≡ is_some (line_of (record_at input at)) → Block ToListing input before later n at true
  record_bad e =
      let m = given_none (line_of (record_at input at)) e in
      rw (p ∙ ap (λ (x : Option (List ℕ)). after ++ fed x) m ∙ append-nil after) (stops s (next_record input at h) m)

pub records_end : {input before : List ℕ} {n at : ℕ} {after : List ℕ} → Sofar ToListing input before n at after → length input < at + request_length
    → Block ToListing input before after n at false
records_end {input} {at = at} s l = ends s (none_whole (drop at input) (omega (arith, length-drop at input, s.inside)))
