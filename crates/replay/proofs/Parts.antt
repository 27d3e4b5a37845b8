-- A trace splits at any whole number of records, as its input does. So a trace that goes on from where it stands prints what the trace of the
-- whole prints. Assumes nothing.
use mathlib.Core.Path.{◌≡◌, refl, sym, ap, ◌∙◌}
use mathlib.Core.List.{List, [], ◌∷◌, ◌++◌, map, flatten, append_assoc, append-nil}
use Prim.Native.Nat.{ℕ, suc, ◌+◌, ◌*◌, ◌/◌, ◌%◌, ◌<◌}
use native.Mathlib.Omega.{arith}
use lib.ListN.{length, drop}
use Rattle.rules.specs.Board.{Board}
use Rattle.rules.specs.Requests.{request_length}
use Rattle.rules.specs.Door.{door, fresh_table, table_after}
use Rattle.rules.specs.Trace.{clean_area, cleanly, trace_line, trace_from, short_line, whole_records, trace_on, trace}
use Rattle.text.specs.Text.{trace_text}
use Rattle.text.proofs.Putting.{trace_append}
use Rattle.parts.specs.LeftOver.{left_over}
use Rattle.parts.proofs.Whole.{records_length, count, whole_append, rest_append, left_append, left_length, none_whole}
use Rattle.replay.specs.Parts.{Stand, begins, lines, after, printed, InParts, AsOne}

-- TABLES AND LINES

table_append : (b : Board) (t : List ℕ) (rs qs : List (List ℕ)) → table_after b t (map cleanly (rs ++ qs)) ≡ table_after b (table_after b t (map cleanly rs)) (map cleanly qs)
unfolding table_after
table_append b t [] qs = refl
table_append b t (r ∷ rs) qs = table_append b (door b t r clean_area).table rs qs

lines_append : (b : Board) (n : ℕ) (t : List ℕ) (rs qs : List (List ℕ))
    → trace_from b n t (rs ++ qs) ≡ trace_from b n t rs ++ trace_from b (n + length rs) (table_after b t (map cleanly rs)) qs
unfolding table_after trace_from
lines_append b n t [] qs = ap (λ k. trace_from b k t qs) (omega arith)
lines_append b n t (r ∷ rs) qs =
    let d = door b t r clean_area in
    ap (λ ls. trace_line b n d ∷ ls)
    (lines_append b (suc n) d.table rs qs
    ∙ ap (λ k. trace_from b (suc n) d.table rs ++ trace_from b k (table_after b d.table (map cleanly rs)) qs) (omega arith))

-- THE TRACE GOES ON

goes_on : (b : Board) (n : ℕ) (t come more : List ℕ)
    → trace_on b n t (come ++ more)
    ≡ trace_from b n t (whole_records come)
    ++ trace_on b (n + length come / request_length) (table_after b t (map cleanly (whole_records come))) (left_over come ++ more)
goes_on b n t come more =
    let k = length come / request_length in
    let t' = table_after b t (map cleanly (whole_records come)) in
    let later = whole_records (left_over come ++ more) in
    let short = short_line (length (left_over come ++ more) % request_length) in
    (λ j. trace_from b n t (whole_append come more j) ++ short_line (rest_append come more j))
    ∙ ap (λ ls. ls ++ short) (lines_append b n t (whole_records come) later)
    ∙ ap (λ m. (trace_from b n t (whole_records come) ++ trace_from b (n + m) t' later) ++ short) (records_length k come)
    ∙ append_assoc (trace_from b n t (whole_records come)) (trace_from b (n + k) t' later) short

-- what is printed of the parts is what the trace that goes on from there prints of the whole
pub printed_whole : (b : Board) (s : Stand) (parts : List (List ℕ)) → length s.held < request_length
    → printed b s parts ≡ trace_text (trace_on b s.number s.table (s.held ++ flatten parts))
unfolding printed after flatten trace_from
printed_whole b s [] h =
    let few : length s.held % request_length ≡ length s.held = omega arith in
    sym
    (ap (λ l. trace_text (trace_on b s.number s.table l)) (append-nil s.held)
    ∙ ap (λ rs. trace_text (trace_from b s.number s.table rs ++ short_line (length s.held % request_length))) (none_whole s.held h)
    ∙ ap (λ n. trace_text (short_line n)) few)
printed_whole b s (part ∷ parts) h =
    let come = s.held ++ part in
    let s' = after b s part in
    let later = trace_on b s'.number s'.table (s'.held ++ flatten parts) in
    ap (λ x. trace_text (lines b s part) ++ x) (printed_whole b s' parts (omega (arith, left_length come)))
    ∙ sym (trace_append (lines b s part) later)
    ∙ ap trace_text (sym (goes_on b s.number s.table come (flatten parts)))
    ∙ ap (λ l. trace_text (trace_on b s.number s.table l)) (append_assoc s.held part (flatten parts))

pub in_parts : InParts
unfolding trace
in_parts b parts = printed_whole b (begins (fresh_table b)) parts (omega arith)

-- a stand is its three fields
abbrev stand : ℕ → List ℕ → List ℕ → Stand
stand n t h = record { number = n; table = t; held = h }

pub as_one : AsOne
unfolding after
as_one b s p q =
    let come = s.held ++ p in
    let joined : come ++ q ≡ s.held ++ (p ++ q) = append_assoc s.held p q in
    let number : s.number + length come / request_length + length (left_over come ++ q) / request_length ≡ s.number + length (come ++ q) / request_length = omega (arith, count come q) in
    let table = table_append b s.table (whole_records come) (whole_records (left_over come ++ q)) in
    (λ j. stand (number j) ((sym table ∙ ap (λ rs. table_after b s.table (map cleanly rs)) (sym (whole_append come q))) j) (sym (left_append come q) j))
    ∙ ap (λ l. stand (s.number + length l / request_length) (table_after b s.table (map cleanly (whole_records l))) (left_over l)) joined

-- nothing comes
pub after_nothing : (b : Board) (s : Stand) → length s.held < request_length → after b s [] ≡ s
unfolding after table_after
after_nothing b s h =
    let none : length s.held / request_length ≡ 0 = omega arith in
    let number : s.number + length s.held / request_length ≡ s.number = omega arith in
    ap (λ l. stand (s.number + length l / request_length) (table_after b s.table (map cleanly (whole_records l))) (left_over l)) (append-nil s.held)
    ∙ (λ j. stand (number j) (table_after b s.table (map cleanly (none_whole s.held h j))) (drop (none j * request_length) s.held))
