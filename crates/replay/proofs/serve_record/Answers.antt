-- `replay::serve_record` meets its contract: its line is of what the door answered, on the board that the table's length says. Assumes nothing.
use mathlib.Core.Path.{ap, ◌∙◌}
use mathlib.Core.List.{◌++◌}
use native.Mathlib.Omega.{arith}
use mir.Syntax.{w32}
use mir.ValLaws.{to_z-of_z}
use Rattle.rules.specs.Board.{printer}
use Rattle.layout.proofs.Boards.{said_printer}
use Rattle.layout.proofs.Said.{running_said}
use Rattle.replay.proofs.Line.{line_same}
use Rattle.replay.proofs.serve_record.Goals as goal

pub overflow_cast-running : goal.overflow_cast-running
overflow_cast-running g c = grind (arith, c.running-running.ensures _ (said_printer _ (c.speltmallet_door-code.auto.table ∙ c.told-table)) ∙ running_said printer _)

pub returns-clause-line : goal.returns-clause-line
returns-clause-line g c =
    let called = c.speltmallet_door-code in
    let running = c.running-running.ensures _ (said_printer _ (called.auto.table ∙ c.told-table)) in
    let line = rw (to_z-of_z w32 _ (record { sfits = called.type_inv })) at c.put_line.ensures.puts in
    line ∙ ap (λ l. c.args.out.now ++ l) (line_same printer _ _ _ _ _ _ _ called.ensures.code called.ensures.area c.word_at-value.ensures called.ensures.table running)
