-- `report::run` meets its contract: the report is of the table and of the accounts that all that has come has left. Assumes nothing.
use native.Mathlib.Omega.{arith}
use mathlib.Core.Path.{ap, ◌∙◌}
use lib.Dec.{leb}
use Rattle.rules.specs.Board.{printer}
use Rattle.rules.specs.Requests.{request_length}
use Rattle.rules.specs.Table.{decode}
use Rattle.lanes.specs.Report.{report_text}
use Rattle.lanes.specs.Kept.{of}
use Rattle.report.proofs.Turns.{sound_there, within_there, ended_by}
use Rattle.report.proofs.run.Goals as goal

pub close-requires-clause-sound : goal.close-requires-clause-sound
close-requires-clause-sound c = sound_there c.serve_all-reported.ensures c.requires.sound

pub close-requires-clause-within : goal.close-requires-clause-within
close-requires-clause-within c = λ i. omega (arith, within_there c.serve_all-reported.ensures c.requires.within i)

pub returns : goal.returns
returns c =
    let served = c.serve_all-reported in
    ended_by c.requires.first_le_most_records c.told-accounts served.ensures
    (c.close.ensures ∙ ap (λ n. report_text (leb request_length n) (of served.new.accounts) (decode printer served.new.table)) c.len.ensures.value)
