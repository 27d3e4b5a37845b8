-- How far a replay has come: the table and the lines so far, with what is left of the input, give those of the whole. A turn takes the
-- first record of what is left. Assumes nothing.
use mathlib.Core.Path.{◌≡◌, refl, ap, sym, subst, ◌∙◌}
use mathlib.Core.List.{List, [], ◌∷◌, ◌++◌, map, append_assoc, append-nil}
use Prim.Native.Nat.{ℕ, zero, suc, ◌+◌, ◌*◌, ◌/◌, ◌≤◌, ◌<◌}
use native.Mathlib.Omega.{arith}
use native.Mathlib.Numerals.{add-one}
use lib.ListN.{length, take, drop}
use lib.Seq.{drop-drop}
use Rattle.rules.specs.Board.{printer}
use Rattle.rules.specs.Requests.{request_length}
use Rattle.rules.specs.Door.{door, table_after}
use Rattle.rules.specs.Trace.{records, clean_area, cleanly, trace_line, trace_from, whole_records}
use Rattle.text.specs.Text.{line_text, trace_text}
use Rattle.text.specs.Rooms.{line_room}
use Rattle.replay.specs.Replay.{Replayed}

-- what `left` records from place `at` on still make of a table and still print
abbrev rest : List ℕ → ℕ → ℕ → List (List ℕ)
rest input at left = records left (drop at input)

pub record Progress (t₀ input : List ℕ) (first : ℕ) (out₀ t out : List ℕ) (at number : ℕ) : Type 0 where
  pub taken : ℕ
  pub left : ℕ
  pub text : List ℕ
  pub all : taken + left ≡ length input / request_length
  pub place : at ≡ taken * request_length
  pub count : number ≡ first + taken
  pub room : length out ≤ length out₀ + taken * line_room
  pub table : table_after printer t₀ (map cleanly (whole_records input)) ≡ table_after printer t (map cleanly (rest input at left))
  pub lines : out ≡ out₀ ++ text
  pub printed : trace_text (trace_from printer first t₀ (whole_records input)) ≡ text ++ trace_text (trace_from printer number t (rest input at left))

module _ (t₀ input : List ℕ) (first : ℕ) (out₀ : List ℕ) where
  pub started : Progress t₀ input first out₀ t₀ out₀ 0 first
  started = record {
    taken = 0;
    left = length input / request_length;
    text = [];
    all = omega arith;
    place = refl;
    count = omega arith;
    room = omega arith;
    table = refl;
    lines = sym (append-nil out₀);
    printed = refl;
  }

  module _ {t out : List ℕ} {at number : ℕ} (p : Progress t₀ input first out₀ t out at number) where
    -- a record that is whole is one of those that are left
    some_left : at + request_length ≤ length input → 1 ≤ p.left
    some_left h = omega (arith, p.all, p.place)

    behind : (l : ℕ) → p.left ≡ suc l → rest input at p.left ≡ take request_length (drop at input) ∷ rest input (at + request_length) l
    unfolding records
    behind l e = rw (e, drop-drop request_length at input)

    advanced : (l : ℕ) → p.left ≡ suc l → (t' out' : List ℕ)
        → t' ≡ (door printer t (take request_length (drop at input)) clean_area).table
        → out' ≡ out ++ line_text (trace_line printer number (door printer t (take request_length (drop at input)) clean_area))
        → length out' ≤ length out + line_room → Progress t₀ input first out₀ t' out' (at + request_length) (number + 1)
    unfolding table_after trace_from
    advanced l e t' out' et q r =
        let d = door printer t (take request_length (drop at input)) clean_area in
        record {
          taken = p.taken + 1;
          left = l;
          text = p.text ++ line_text (trace_line printer number d);
          all = omega (arith, p.all);
          place = omega (arith, p.place);
          count = omega (arith, p.count);
          room = omega (arith, p.room);
          table = p.table ∙ ap (λ rs. table_after printer t (map cleanly rs)) (behind l e) ∙ ap (λ x. table_after printer x (map cleanly (rest input (at + request_length) l))) (sym et);
          lines = q ∙ ap (λ o. o ++ line_text (trace_line printer number d)) p.lines ∙ append_assoc out₀ p.text (line_text (trace_line printer number d));
          printed =
              p.printed
              ∙ ap (λ rs. p.text ++ trace_text (trace_from printer number t rs)) (behind l e)
              ∙ ap (λ x. p.text ++ (line_text (trace_line printer number d) ++ trace_text (trace_from printer (suc number) x (rest input (at + request_length) l)))) (sym et)
              ∙ ap (λ n. p.text ++ (line_text (trace_line printer number d) ++ trace_text (trace_from printer n t' (rest input (at + request_length) l)))) (sym (add-one number))
              ∙ sym (append_assoc p.text (line_text (trace_line printer number d)) _);
        }

    -- what a record that stands at place i makes of the progress
    abbrev Turn : ℕ → Type 0
    Turn i = (t' out' : List ℕ)
        → t' ≡ (door printer t (take request_length (drop i input)) clean_area).table
        → out' ≡ out ++ line_text (trace_line printer number (door printer t (take request_length (drop i input)) clean_area))
        → length out' ≤ length out + line_room → Progress t₀ input first out₀ t' out' (i + request_length) (number + 1)

    pub turned : (i : ℕ) → i ≡ at → at + request_length ≤ length input → Turn i
    turned i e h = subst Turn (sym e) (go p.left refl)
      where
        go : (k : ℕ) → p.left ≡ k → Turn at
        go zero e = absurd (omega (arith, some_left h))
        go (suc l) e = advanced l e

    -- where no whole record stands, none is left
    none_left : length input < at + request_length → p.left ≡ 0
    none_left h = omega (arith, p.all, p.place)

    pub ended : length input < at + request_length → Replayed t₀ input first out₀ t out
    unfolding table_after trace_from records
    ended h =
        let e : rest input at p.left ≡ [] = ap (rest input at) (none_left h) in
        record {
          table = sym (p.table ∙ ap (λ rs. table_after printer t (map cleanly rs)) e);
          lines = p.lines ∙ ap (λ l. out₀ ++ l) (sym (p.printed ∙ ap (λ rs. p.text ++ trace_text (trace_from printer number t rs)) e ∙ append-nil p.text));
          room = omega (arith, p.room, p.all);
        }
