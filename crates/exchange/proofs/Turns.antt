-- All that has come so far comes to what is done and what is held: whatever comes after it, the whole is what is done and then what comes of the rest.
-- Assumes nothing.
use Rattle.std.specs.Prelude.{if◌then◌else◌, None, Some, Result, Ok, Err, IfOk, OnErr}
use Rattle.std.specs.Result.{result_unwrap_or}
use mathlib.Core.Path.{◌≡◌, refl, sym, ap, subst, ◌∙◌}
use mathlib.Core.Bool.{Bool, true, false, ◌||◌}
use mathlib.Core.List.{List, [], ◌∷◌, ◌++◌, append-nil, append_assoc}
use Prim.Native.Nat.{ℕ, ◌+◌}
use native.Mathlib.Omega.{arith}
use lib.Dec.{ltb}
use lib.ListN.{length, length-append, take}
use lib.Seq.{take_all}
use borrow.Author.Tests.{lt-ltb}
use Rattle.parts.proofs.Behind.{part, come, part_size}
use Rattle.listing.specs.Listing.{Out, cut, input_of, turned_from, refusal_text}
use Rattle.listing.specs.Parts.{part_of, is_bad, stops, holds, is_some}
use Rattle.listing.specs.declared.Way.{Way}
use Rattle.listing.proofs.Cuts.{cut_whole, Open, left_open, none_open}
use Rattle.listing.proofs.InParts.{before, goes_on, stops_there, last_open, holds_come, holds_all}
use Rattle.exchange.specs.Going.{Ended}

-- so many bytes have come, `number` lines or records of them are done, and none of them is bad; these bytes are held
pub record Going (w : Way) (first bytes number : ℕ) (held : List ℕ) : Type 0 where
  pub seen : List ℕ
  pub front : List ℕ
  pub ends : seen ≡ front ++ held
  pub done : List (List ℕ)
  pub size : length seen ≡ bytes
  pub count : first + length done ≡ number
  pub left : Open w held
  pub whole : (more : List ℕ) → turned_from w first (seen ++ more) ≡ before done (turned_from w number (held ++ more))

-- a bad one has stopped it, in a part that is held
pub record Stopped (w : Way) (first bytes number : ℕ) (held : List ℕ) : Type 0 where
  pub seen : List ℕ
  pub front : List ℕ
  pub ends : seen ≡ front ++ held
  pub done : List (List ℕ)
  pub size : length seen ≡ bytes
  pub count : first + length done ≡ number
  pub whole : turned_from w first seen ≡ record { done = done; bad = Some number }
  pub own : is_bad (turned_from w first held).bad ≡ true

pub none_seen : (w : Way) (first : ℕ) → Going w first 0 first []
none_seen w first = record { seen = []; front = []; ends = refl; done = []; size = refl; count = omega arith; left = none_open w; whole = λ more. refl }

module _ {w : Way} {first bytes number : ℕ} {held : List ℕ} (g : Going w first bytes number held) (part : List ℕ) where
  abbrev now : List ℕ
  now = held ++ part

  joins : (more : List ℕ) → turned_from w first ((g.seen ++ part) ++ more) ≡ before g.done (turned_from w number (now ++ more))
  joins more =
      ap (turned_from w first) (append_assoc g.seen part more) ∙ g.whole (part ++ more) ∙ ap (λ (l : List ℕ). before g.done (turned_from w number l)) (sym (append_assoc held part more))

  ends_on : g.seen ++ part ≡ g.front ++ now
  ends_on = ap (λ (l : List ℕ). l ++ part) g.ends ∙ append_assoc g.front held part

  size_on : length (g.seen ++ part) ≡ bytes + length part
  size_on = length-append g.seen part ∙ ap (λ (k : ℕ). k + length part) g.size

  count_on : first + length (g.done ++ (part_of w now).done) ≡ number + length (part_of w now).done
  count_on = omega (arith, length-append g.done (part_of w now).done, g.count)

  going_on : stops w now ≡ false → Going w first (bytes + length part) (number + length (part_of w now).done) (holds w now)
  going_on e = record {
    seen = g.seen ++ part;
    front = g.front ++ input_of w (cut w now).pieces;
    ends =
        ends_on
        ∙ ap (λ (l : List ℕ). g.front ++ l) (sym (cut_whole w now))
        ∙ sym (append_assoc g.front (input_of w (cut w now).pieces) (cut w now).rest)
        ∙ ap (λ (l : List ℕ). (g.front ++ input_of w (cut w now).pieces) ++ l) (sym (holds_all w now e));
    done = g.done ++ (part_of w now).done;
    size = size_on;
    count = count_on;
    left = subst (Open w) (sym (holds_all w now e)) (left_open w now);
    whole = λ more.
        let rest = turned_from w (number + length (part_of w now).done) ((cut w now).rest ++ more) in
        joins more
        ∙ ap (before g.done) (goes_on w number now more e).1
        ∙ ap (λ (d : List (List ℕ)). record { done = d; bad = rest.bad }) (sym (append_assoc g.done (part_of w now).done rest.done))
        ∙ ap (λ (l : List ℕ). before (g.done ++ (part_of w now).done) (turned_from w (number + length (part_of w now).done) (l ++ more))) (sym (holds_all w now e));
  }

  stopped_by : stops w now ≡ true → Stopped w first (bytes + length part) (number + length (part_of w now).done) (holds w now)
  stopped_by e = record {
    seen = g.seen ++ part;
    front = g.front;
    ends = ends_on ∙ ap (λ (l : List ℕ). g.front ++ l) (sym (holds_come w now e));
    done = g.done ++ (part_of w now).done;
    size = size_on;
    count = count_on;
    whole = ap (turned_from w first) (sym (append-nil (g.seen ++ part))) ∙ joins [] ∙ ap (before g.done) (stops_there w number now [] e);
    own =
        ap (λ (l : List ℕ). is_bad (turned_from w first l).bad) (holds_come w now e ∙ sym (append-nil now))
        ∙ ap (λ (o : Out). is_bad o.bad) (stops_there w first now [] e);
  }

-- THE END

some_held : (l : List ℕ) → is_some l ≡ ltb 0 (length l)
some_held [] = refl
some_held (c ∷ cs) = sym (lt-ltb 0 (length (c ∷ cs)) (omega arith))

-- a refusal of some left over, whatever its number is
one_bad : (b : Bool) (k j : ℕ) → is_bad (if b then Some k else None) ≡ is_bad (if b then Some j else None)
one_bad true k j = refl
one_bad false k j = refl

module _ {w : Way} {first bytes number : ℕ} {held said : List ℕ} where
  pub ended_going : Going w first bytes number held → said ≡ refusal_text w (if ltb 0 (length held) then Some number else None) → Ended w first bytes number held said
  ended_going g p =
      let whole : turned_from w first g.seen ≡ record { done = g.done; bad = if is_some held then Some number else None } =
      ap (turned_from w first) (sym (append-nil g.seen))
      ∙ g.whole []
      ∙ ap (λ (x : List ℕ). before g.done (turned_from w number x)) (append-nil held)
      ∙ ap (before g.done) (last_open w number held g.left)
      ∙ ap (λ (d : List (List ℕ)). record { done = d; bad = if is_some held then Some number else None }) (append-nil g.done) in
      record {
        seen = g.seen;
        front = g.front;
        ends = g.ends;
        size = g.size;
        count = ap (λ (o : Out). first + length o.done) whole ∙ g.count;
        says = p ∙ ap (λ (b : Bool). refusal_text w (if b then Some number else None)) (sym (some_held held)) ∙ ap (λ (o : Out). refusal_text w o.bad) (sym whole);
        own =
            ap (λ (o : Out). is_bad o.bad) whole
            ∙ one_bad (is_some held) number first
            ∙ ap (λ (o : Out). is_bad o.bad) (sym (last_open w first held g.left));
      }

  pub ended_stopped : Stopped w first bytes number held → said ≡ refusal_text w (Some number) → Ended w first bytes number held said
  ended_stopped s p = record {
    seen = s.seen;
    front = s.front;
    ends = s.ends;
    size = s.size;
    count = ap (λ (o : Out). first + length o.done) s.whole ∙ s.count;
    says = p ∙ ap (λ (o : Out). refusal_text w o.bad) (sym s.whole);
    own = ap (λ (o : Out). is_bad o.bad) s.whole ∙ sym s.own;
  }

-- READS

-- a read has put so many bytes behind what was held, which stays
pub record Come (held block : List ℕ) (n : ℕ) : Type 0 where
  pub stay : take (length held) block ≡ held
  pub more : length block ≡ length held + n

pub has_come : {E : Type 0} {held block : List ℕ} (r : Result ℕ E) → take (length held) block ≡ held → IfOk r (λ n. length block ≡ length held + n) → OnErr r (block ≡ held) → Come held block (result_unwrap_or r 0)
has_come (Ok n) s i e = record { stay = s; more = i }
has_come (Err x) s i e = record { stay = s; more = omega (arith, ap length e) }

-- none has come
pub none_came : {w : Way} {first bytes number n : ℕ} {held block said : List ℕ} → Come held block n → n ≡ 0 → Going w first bytes number held
    → said ≡ refusal_text w (if ltb 0 (length block) then Some number else None) → Ended w first bytes number block said
none_came {w} {first} {bytes} {number} {n} {held} {block} h z g p =
    let same : held ≡ block = sym h.stay ∙ take_all (length held) block (omega (arith, h.more, z)) in
    ended_going (subst (Going w first bytes number) same g) p

-- the part is turned
module _ {w : Way} {first bytes number n : ℕ} {held block : List ℕ} (h : Come held block n)
    (g : Going w first bytes number held) {block' : List ℕ} {number' : ℕ} (count : number' ≡ number + length (part_of w block).done) (kept : block' ≡ holds w block) where
  abbrev new : List ℕ
  new = part held block n h.stay h.more

  pub turned_on : stops w block ≡ false → Going w first (bytes + n) number' block'
  turned_on e =
      let all = come held block n h.stay h.more in
      let grown : Going w first (bytes + n) (number + length (part_of w block).done) (holds w block) =
      rw (part_size held block n h.stay h.more, all) at (going_on g new (ap (stops w) all ∙ e)) in
      rw (count, kept) grown

  turned_last : stops w block ≡ true → Stopped w first (bytes + n) number' block'
  turned_last e =
      let all = come held block n h.stay h.more in
      let grown : Stopped w first (bytes + n) (number + length (part_of w block).done) (holds w block) =
      rw (part_size held block n h.stay h.more, all) at (stopped_by g new (ap (stops w) all ∙ e)) in
      rw (count, kept) grown

  -- what is said of the part where the run ends behind it
  pub turned_end : {said : List ℕ} {stopped : Bool} → stopped ≡ stops w block → said ≡ refusal_text w (if stopped || ltb 0 (length block') then Some number' else None)
      → Ended w first (bytes + n) number' block' said
  turned_end {stopped = true} e p = ended_stopped (turned_last (sym e)) p
  turned_end {stopped = false} e p = ended_going (turned_on (sym e)) p
