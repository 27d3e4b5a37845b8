-- Texts put one behind the other are one text. Assumes nothing.
use mathlib.Core.Path.{◌≡◌, refl, sym, ap, ◌∙◌}
use mathlib.Core.List.{List, [], ◌∷◌, ◌++◌, append_assoc}
use Prim.Native.Nat.{ℕ}
use Rattle.rules.specs.Trace.{TraceLine}
use Rattle.text.specs.Text.{line_text, trace_text}

-- the lines of two traces, one after the other
pub trace_append : (ls ms : List TraceLine) → trace_text (ls ++ ms) ≡ trace_text ls ++ trace_text ms
trace_append [] ms = refl
trace_append (l ∷ ls) ms = ap (λ (t : List ℕ). line_text l ++ t) (trace_append ls ms) ∙ sym (append_assoc (line_text l) (trace_text ls) (trace_text ms))
