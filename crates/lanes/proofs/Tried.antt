-- The report of document 01's example run and of an input for each sentence, by computation. Assumes nothing.
use mathlib.Core.Path.{refl}
use Rattle.rules.proofs.Computing.{behind_the_door}
use Rattle.rules.specs.Trace.{records}
use Rattle.text.specs.Text.{digits, decimal}
use Rattle.fairness.specs.Doors.{single_ticks, run_of}
use Rattle.lanes.specs.Lag.{account_from, sum_over, lag_of, lag}
use Rattle.lanes.specs.Report.{lane_lines, report_on}
use Rattle.lanes.specs.Example.{Examples}

pub examples : Examples
unfolding behind_the_door records single_ticks run_of account_from sum_over lag_of lag lane_lines report_on digits decimal
examples = record { document = refl; empty = refl; short = refl; gone = refl; anew = refl; kept = refl; nobody = refl; slept = refl }
