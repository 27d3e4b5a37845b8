-- `report::main` meets its contract: it hands `run` a fresh table, which is sound. Assumes nothing.
use Rattle.rules.specs.Board.{printer}
use Rattle.rules.specs.Door.{fresh_table}
use Rattle.laws.proofs.Tested.{tested_table, fresh_sound}
use Rattle.report.proofs.main.Goals as goal

pub run-requires-clause-sound : goal.run-requires-clause-sound
run-requires-clause-sound c = rw c.fresh-table.ensures ((tested_table printer (fresh_table printer)).0 fresh_sound).state
