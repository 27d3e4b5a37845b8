-- The first of a line, if it has one.
use Rattle.std.specs.Prelude.{if◌then◌else◌, Option, Some, None, List, ℕ, ltb, length}
use Rattle.rules.specs.Lines.{Line, first}
use Rattle.rules.specs.declared.Thread.{Thread}

abbrev pub first_if_any : Line → List Thread → Option ℕ
first_if_any l ts = if ltb (first l ts) (length ts) then Some (first l ts) else None
