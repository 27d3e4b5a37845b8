-- A block of lent bytes piece by piece: each text is stored behind those before it, so they are one text, which is stored at the front; what is left
-- over is stored at the front of its own block. Assumes nothing.
use Rattle.std.specs.Prelude.{Option, Some, None, is_some, unwrap_or}
use Rattle.std.proofs.lemmas.List.{drop-take}
use Rattle.std.proofs.lemmas.Slice.{put_mid-paste}
use borrow.Rule.Slice.PartMut.{put_mid}
use mathlib.Core.Path.{◌≡◌, refl, sym, ap, subst, ◌∙◌}
use mathlib.Core.Bool.{Bool, true, false, ◌||◌}
use mathlib.Core.List.{List, [], ◌∷◌, ◌++◌, append-nil}
use Prim.Native.Nat.{ℕ, suc, ◌+◌, ◌*◌, ◌-◌, ◌≤◌, ◌<◌}
use native.Mathlib.Omega.{arith}
use native.Mathlib.Nat.{add-zero}
use lib.ListN.{length, set, take, drop, length-append, length-drop, take-append-drop}
use lib.Seq.{sets, sets-eq, paste, take_all, length-take-le}
use Rattle.text.specs.Puts.{Puts}
use Rattle.rules.specs.Requests.{request_length}
use Rattle.listing.specs.Line.{line_of, record_of}
use Rattle.listing.specs.Listing.{bytes_of}
use Rattle.listing.specs.Parts.{part_of, too_long, stops, holds}
use Rattle.listing.specs.declared.Way.{Way}
use Rattle.listing.specs.declared.Way.TheVariants.{ToRecords, ToListing}
use Rattle.listing.proofs.Back.{record_long}
use Rattle.writer.specs.Lines.{fed, listed_room}
use Rattle.writer.specs.Places.{LentBlock}
use Rattle.writer.proofs.Block.{Sofar, none_yet}
use Rattle.writer.proofs.Left.{stops_by, stopped_here, went_on}
use Rattle.writer.proofs.Pieces.{part, line_end, given_none, line_taken, line_bad, lines_end, record_at, record_taken, record_bad, records_end}

-- ONE TEXT BEHIND ANOTHER

sets_append : (l : List ℕ) (at : ℕ) (t u : List ℕ) → sets (sets l at t) (at + length t) u ≡ sets l at (t ++ u)
sets_append l at [] u = ap (λ (k : ℕ). sets l k u) (add-zero at)
sets_append l at (b ∷ t) u = ap (λ (k : ℕ). sets (sets (set l at b) (suc at) t) k u) (omega arith) ∙ sets_append (set l at b) (suc at) t u

followed_by : {entry mid exit t u : List ℕ} {at end next : ℕ} → Puts entry at t mid end → Puts mid end u exit next → Puts entry at (t ++ u) exit next
followed_by {entry} {mid} {exit} {t} {u} {at} p q = record {
  bytes = q.bytes ∙ (λ i. sets (p.bytes i) (p.place i) u) ∙ sets_append entry at t u;
  place = omega (arith, length-append t u, p.place, q.place);
}

-- a copy into a place is a store
pub copied : (out : List ℕ) (at n : ℕ) {text bytes : List ℕ} {end : ℕ} → at + length text ≤ length out → bytes ≡ text → end ≡ at + length text → n ≡ length text
    → Puts out at text (put_mid at n out bytes) end
copied out at n {text} {bytes} h e p q = record {
  bytes =
      put_mid-paste at n out bytes text (length text) e (sym q) refl
      ∙ ap (λ l. take at out ++ l ++ drop (at + length text) out) (take_all (length text) text (omega arith))
      ∙ sym (sets-eq text out at h);
  place = p;
}

-- PIECES

-- n pieces are done, up to a place of the input, and what came out of them is stored at the front
pub record Stored (w : Way) (input before : List ℕ) (n at next : ℕ) (after : List ℕ) : Type 0 where
  pub text : List ℕ
  pub sofar : Sofar w input [] n at text
  pub puts : Puts before 0 text after next

pub none_stored : (w : Way) (input before : List ℕ) → Stored w input before 0 0 0 before
none_stored w input before = record { text = []; sofar = none_yet w input []; puts = record { bytes = refl; place = refl } }

module _ {w : Way} {input before : List ℕ} {n at next : ℕ} {after : List ℕ} (s : Stored w input before n at next after) where
  stored_room : next ≤ 6 * at
  stored_room = omega (arith, s.puts.place, s.sofar.room)

-- A LINE

-- the record of a line, if there is one, is 12 bytes
line_room : (line : List ℕ) → length (unwrap_or (record_of line) []) ≤ request_length
line_room line = go (record_of line) refl
  where
    go : (m : Option (List ℕ)) → record_of line ≡ m → length (unwrap_or m []) ≤ request_length
    go None e = omega arith
    go (Some r) e = omega (arith, record_long line r e)

module _ {text before after : List ℕ} {n at next : ℕ} (s : Stored ToRecords text before n at next after) (end : ℕ) (is : end ≡ line_end text at) (l : end < length text)
    {x : List ℕ} (q : x ≡ unwrap_or (record_of (part text at end)) []) where
  pub line_fits : next + length x ≤ 6 * length text + request_length
  line_fits = omega (arith, ap length q, line_room (part text at end), stored_room s, s.sofar.inside)

  pub line_stored : true ≡ is_some (record_of (part text at end)) → {later : List ℕ} {next' : ℕ} → Puts after next x later next' → Stored ToRecords text before (n + 1) (end + 1) next' later
  line_stored e p = record { text = s.text ++ x; sofar = line_taken s.sofar end is l (ap (λ (r : List ℕ). s.text ++ r) q) e; puts = followed_by s.puts p }

  pub bad_line : false ≡ is_some (record_of (part text at end)) → LentBlock ToRecords text before after n at next true
  bad_line e =
      let none : s.text ≡ s.text ++ unwrap_or (record_of (part text at end)) [] = sym (ap (λ r. s.text ++ unwrap_or r []) (given_none _ e) ∙ append-nil s.text) in
      record { text = s.text; block = line_bad s.sofar end is l none e; puts = s.puts }

pub all_lines : {text before after : List ℕ} {n at next : ℕ} → Stored ToRecords text before n at next after → length text ≤ line_end text at → LentBlock ToRecords text before after n at next false
all_lines s l = record { text = s.text; block = lines_end s.sofar l; puts = s.puts }

-- A RECORD

module _ {input before after : List ℕ} {n at next : ℕ} (s : Stored ToListing input before n at next after) (h : at + request_length ≤ length input)
    {x : List ℕ} (q : x ≡ fed (line_of (record_at input at))) where
  pub record_stored : length x ≤ listed_room → true ≡ is_some (line_of (record_at input at)) → {later : List ℕ} {next' : ℕ} → Puts after next x later next'
      → Stored ToListing input before (n + 1) (at + request_length) next' later
  record_stored room e p = record {
    text = s.text ++ x;
    sofar = record_taken s.sofar h (ap (λ (r : List ℕ). s.text ++ r) q) (omega (arith, length-append s.text x)) e;
    puts = followed_by s.puts p;
  }

  pub bad_record : false ≡ is_some (line_of (record_at input at)) → LentBlock ToListing input before after n at next true
  bad_record e =
      let none : s.text ≡ s.text ++ fed (line_of (record_at input at)) = sym (ap (λ r. s.text ++ fed r) (given_none _ e) ∙ append-nil s.text) in
      record { text = s.text; block = record_bad s.sofar h none (omega arith) e; puts = s.puts }

pub all_records : {input before after : List ℕ} {n at next : ℕ} → Stored ToListing input before n at next after → length input < at + request_length
    → LentBlock ToListing input before after n at next false
all_records s l = record { text = s.text; block = records_end s.sofar l; puts = s.puts }

-- THE BLOCK

-- what stands at the front already may be stored there
stays : (block : List ℕ) (n : ℕ) → n ≤ length block → sets block 0 (take n block) ≡ block
stays block n h =
    let size : 0 + length (take n block) ≡ n = omega (arith, length-take-le n block h) in
    sets-eq (take n block) block 0 (omega arith) ∙ ap (λ k. take n block ++ drop k block) size ∙ take-append-drop n block

-- bytes that move to the front are stored there
moved_front : (block : List ℕ) (at n : ℕ) → at ≤ n → n ≤ length block → paste block 0 (drop at block) (n - at) ≡ sets block 0 (drop at (take n block))
moved_front block at n l h =
    let kept = drop at (take n block) in
    let whole : at + (n - at) ≡ n = omega arith in
    let same : take (n - at) (drop at block) ≡ kept = sym (drop-take at (n - at) block) ∙ ap (λ k. drop at (take k block)) whole in
    let size : n - at ≡ length kept = omega (arith, length-drop at (take n block), length-take-le n block h) in
    (λ j. take 0 block ++ same j ++ drop (0 + size j) block) ∙ sym (sets-eq kept block 0 (omega arith))

module _ (w : Way) (block : List ℕ) (n : ℕ) (inside : n ≤ length block) {out out' : List ℕ} {done at next : ℕ} {bad : Bool} (b : LentBlock w (take n block) out out' done at next bad) where
  size : n ≡ length (take n block)
  size = sym (length-take-le n block inside)

  pub turned_inside : (at ≤ n) × (done ≤ n)
  turned_inside = omega (arith, size, b.block.inside.0, b.block.inside.1)

  pub turned_out : Puts out 0 (bytes_of w (part_of w (take n block)).done) out' next
  turned_out = subst (λ (t : List ℕ). Puts out 0 t out' next) b.block.puts b.puts

  pub turned_room : next ≤ 6 * n
  turned_room = omega (arith, size, b.puts.place, b.block.room)

  module _ {long : Bool} (asked : long ≡ too_long w (n - at)) where
    pub turned_stops : bad || long ≡ stops w (take n block)
    turned_stops = stops_by b.block refl refl size asked

    pub stopped_held : bad || long ≡ true → n ≡ length (holds w (take n block))
    stopped_held e = size ∙ ap length (stopped_here b.block refl refl size asked e)

    pub stopped_block : bad || long ≡ true → block ≡ sets block 0 (holds w (take n block))
    stopped_block e = sym (stays block n inside) ∙ ap (sets block 0) (stopped_here b.block refl refl size asked e)

    pub on_held : bad || long ≡ false → n - at ≡ length (holds w (take n block))
    on_held e = omega (arith, size, length-drop at (take n block), ap length (went_on b.block refl refl size asked e))

    pub on_block : bad || long ≡ false → {block' : List ℕ} → block' ≡ paste block 0 (drop at block) (n - at) → block' ≡ sets block 0 (holds w (take n block))
    on_block e p = p ∙ moved_front block at n turned_inside.0 inside ∙ ap (sets block 0) (went_on b.block refl refl size asked e)
