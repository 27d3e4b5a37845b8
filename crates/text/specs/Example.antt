-- Document 01's example run: the 123 bytes of its input, and what is printed of them.
use Rattle.std.specs.Prelude.{◌≡◌, List, [], ◌∷◌, ◌++◌, ℕ}
use Rattle.rules.specs.Board.{printer}
use Rattle.rules.specs.Trace.{trace}
use Rattle.text.specs.Text.{ascii, trace_text}

-- "Records: Create 1 (priority 5, turn 2); Create 2 (5, 3); Tick; Tick; Make 0 with 0; Pend 0 for 100,000; Post 0 by 1;
-- Pend 0 for 0; operation 99; Outcome 2; then 3 bytes."
abbrev pub example_input : List ℕ
example_input =
    (1 ∷ 1 ∷ 5 ∷ 0 ∷ 2 ∷ 0 ∷ 0 ∷ 0 ∷ 0 ∷ 0 ∷ 0 ∷ 0 ∷ [])
    ++ (1 ∷ 2 ∷ 5 ∷ 0 ∷ 3 ∷ 0 ∷ 0 ∷ 0 ∷ 0 ∷ 0 ∷ 0 ∷ 0 ∷ [])
    ++ (19 ∷ 0 ∷ 0 ∷ 0 ∷ 0 ∷ 0 ∷ 0 ∷ 0 ∷ 0 ∷ 0 ∷ 0 ∷ 0 ∷ [])
    ++ (19 ∷ 0 ∷ 0 ∷ 0 ∷ 0 ∷ 0 ∷ 0 ∷ 0 ∷ 0 ∷ 0 ∷ 0 ∷ 0 ∷ [])
    ++ (11 ∷ 0 ∷ 0 ∷ 0 ∷ 0 ∷ 0 ∷ 0 ∷ 0 ∷ 0 ∷ 0 ∷ 0 ∷ 0 ∷ [])
    ++ (13 ∷ 0 ∷ 0 ∷ 0 ∷ 160 ∷ 134 ∷ 1 ∷ 0 ∷ 0 ∷ 0 ∷ 0 ∷ 0 ∷ [])
    ++ (15 ∷ 0 ∷ 0 ∷ 0 ∷ 1 ∷ 0 ∷ 0 ∷ 0 ∷ 0 ∷ 0 ∷ 0 ∷ 0 ∷ [])
    ++ (13 ∷ 0 ∷ 0 ∷ 0 ∷ 0 ∷ 0 ∷ 0 ∷ 0 ∷ 0 ∷ 0 ∷ 0 ∷ 0 ∷ [])
    ++ (99 ∷ 0 ∷ 0 ∷ 0 ∷ 0 ∷ 0 ∷ 0 ∷ 0 ∷ 0 ∷ 0 ∷ 0 ∷ 0 ∷ [])
    ++ (20 ∷ 2 ∷ 0 ∷ 0 ∷ 0 ∷ 0 ∷ 0 ∷ 0 ∷ 0 ∷ 0 ∷ 0 ∷ 0 ∷ [])
    ++ (7 ∷ 7 ∷ 7 ∷ [])

abbrev pub example_text : List ℕ
example_text =
    ascii "0 0 0 1\n"
    ++ ascii "1 0 0 1\n"
    ++ ascii "2 0 0 1\n"
    ++ ascii "3 0 0 2\n"
    ++ ascii "4 0 0 2\n"
    ++ ascii "5 1 0 1\n"
    ++ ascii "6 0 0 1\n"
    ++ ascii "7 -5 0 1\n"
    ++ ascii "8 -8 0 1\n"
    ++ ascii "9 0 0 1\n"
    ++ ascii "short 3\n"

abbrev pub ExampleRun : Type 0
ExampleRun = trace_text (trace printer example_input) ≡ example_text
