-- A block piece by piece: what comes out of the pieces before a place is put, and the pieces from there on are to come. A piece that is taken
-- moves the place behind it; a bad one, and the last one, end it. Assumes nothing.
use Rattle.std.specs.Prelude.{Option, None, Some}
use mathlib.Core.Path.{◌≡◌, refl, sym, ap, ◌∙◌}
use mathlib.Core.Bool.{true, false}
use mathlib.Core.List.{List, [], ◌∷◌, ◌++◌, flatten, append-nil, append_assoc}
use Prim.Native.Nat.{ℕ, ◌+◌, ◌*◌, ◌≤◌, ◌<◌}
use native.Mathlib.Omega.{arith}
use lib.ListN.{length, length-append, take, drop}
use lib.Seq.{take_at}
use Rattle.listing.specs.Listing.{Out, text_of, cut, input_of, rule, bytes_of, each}
use Rattle.listing.specs.Parts.{part_of, is_bad}
use Rattle.writer.specs.Places.{place_after, Block}
use Rattle.listing.specs.declared.Way.{Way}
use Rattle.listing.specs.declared.Way.TheVariants.{ToRecords, ToListing}
use Rattle.listing.proofs.Each.{each_on}
use Rattle.listing.proofs.Cuts.{bytes_append, input_append}

-- a piece stands at a place of the input, and another place is behind it
pub record Next (w : Way) (input : List ℕ) (at : ℕ) (piece : List ℕ) (end : ℕ) : Type 0 where
  pub there : (cut w (drop at input)).pieces ≡ piece ∷ (cut w (drop end input)).pieces
  pub far : at + length (input_of w (piece ∷ [])) ≡ end
  pub within : end ≤ length input

-- n pieces are done, up to a place of the input, and what came out of them is put behind what stood there
pub record Sofar (w : Way) (input before : List ℕ) (n at : ℕ) (after : List ℕ) : Type 0 where
  pub pieces : List (List ℕ)
  pub done : List (List ℕ)
  pub split : (cut w input).pieces ≡ pieces ++ (cut w (drop at input)).pieces
  pub count : length pieces ≡ n
  pub made : each (rule w) 0 pieces [] ≡ record { done = done; bad = None }
  pub many : length done ≡ n
  pub place : length (input_of w pieces) ≡ at
  pub puts : after ≡ before ++ bytes_of w done
  pub inside : at ≤ length input
  pub fewer : n ≤ at
  pub room : length after ≤ length before + 6 * at

none_in : (w : Way) → input_of w [] ≡ []
unfolding text_of flatten
none_in ToRecords = refl
none_in ToListing = refl

none_out : (w : Way) → bytes_of w [] ≡ []
unfolding text_of flatten
none_out ToRecords = refl
none_out ToListing = refl

pub none_yet : (w : Way) (input before : List ℕ) → Sofar w input before 0 0 before
unfolding each
none_yet w input before = record {
  pieces = [];
  done = [];
  split = refl;
  count = refl;
  made = refl;
  many = refl;
  place = ap length (none_in w);
  puts = rw (none_out w) (sym (append-nil before));
  inside = omega arith;
  fewer = omega arith;
  room = omega arith;
}

module _ {w : Way} {input before : List ℕ} {n at : ℕ} {after : List ℕ} (s : Sofar w input before n at after) where
  -- what the pieces so far and the next ones give
  goes_on_by : (more : List (List ℕ)) → each (rule w) 0 (s.pieces ++ more) [] ≡ record { done = s.done ++ (each (rule w) n more []).done; bad = (each (rule w) n more []).bad }
  goes_on_by more =
      let e = each_on (rule w) 0 s.pieces more [] (ap (λ (o : Out). o.bad) s.made) in
      let k : 0 + length s.pieces ≡ n = omega (arith, s.count) in
      e ∙ (λ i. record { done = (s.made i).done ++ (each (rule w) (k i) more []).done; bad = (each (rule w) (k i) more []).bad })

  -- a piece of which x comes out
  pub one_more : {piece : List ℕ} {end : ℕ} {later : List ℕ} (x : List ℕ) → Next w input at piece end → rule w piece ≡ Some x
      → later ≡ after ++ bytes_of w (x ∷ []) → at < end → length later ≤ length before + 6 * end → Sofar w input before (n + 1) end later
  unfolding each
  one_more {piece} {end} {later} x t e p far room = record {
    pieces = s.pieces ++ (piece ∷ []);
    done = s.done ++ (x ∷ []);
    split = s.split ∙ ap (λ (m : List (List ℕ)). s.pieces ++ m) t.there ∙ sym (append_assoc s.pieces (piece ∷ []) (cut w (drop end input)).pieces);
    count = length-append s.pieces (piece ∷ []) ∙ omega (arith, s.count);
    made = goes_on_by (piece ∷ []) ∙ rw e refl;
    many = length-append s.done (x ∷ []) ∙ omega (arith, s.many);
    place = ap length (input_append w s.pieces (piece ∷ [])) ∙ length-append (input_of w s.pieces) (input_of w (piece ∷ [])) ∙ omega (arith, s.place, t.far);
    puts =
        p
        ∙ ap (λ (l : List ℕ). l ++ bytes_of w (x ∷ [])) s.puts
        ∙ append_assoc before (bytes_of w s.done) (bytes_of w (x ∷ []))
        ∙ ap (λ (l : List ℕ). before ++ l) (sym (bytes_append w s.done (x ∷ [])));
    inside = t.within;
    fewer = omega (arith, s.fewer);
    room = room;
  }

  answered : (b : Option ℕ) → part_of w input ≡ record { done = s.done; bad = b } → Block w input before after n at (is_bad b)
  unfolding place_after
  answered b e =
      let front : take (length s.done) (cut w input).pieces ≡ s.pieces = rw s.split (take_at s.pieces (cut w (drop at input)).pieces (length s.done) (omega (arith, s.many, s.count))) in
      let all : length (part_of w input).done ≡ length s.done = ap (λ (o : Out). length o.done) e in
      record {
        count = sym (all ∙ s.many);
        place = sym (ap (λ (k : ℕ). length (input_of w (take k (cut w input).pieces))) all ∙ ap (λ (l : List (List ℕ)). length (input_of w l)) front ∙ s.place);
        puts = s.puts ∙ ap (λ (o : Out). before ++ bytes_of w o.done) (sym e);
        stop = sym (ap (λ (o : Out). is_bad o.bad) e);
        inside = (s.inside, omega (arith, s.fewer, s.inside));
        room = omega (arith, s.room, s.inside);
      }

  -- the next piece is bad
  pub stops : {piece : List ℕ} {end : ℕ} → Next w input at piece end → rule w piece ≡ None → Block w input before after n at true
  unfolding part_of each
  stops {piece} {end} t e =
      answered (Some n) (rw (s.split, t.there) (goes_on_by (piece ∷ (cut w (drop end input)).pieces) ∙ rw (e, append-nil s.done) refl))

  -- there is no next piece
  pub ends : (cut w (drop at input)).pieces ≡ [] → Block w input before after n at false
  unfolding part_of each
  ends e = answered None (rw (s.split, e) (goes_on_by [] ∙ rw (append-nil s.done) refl))
