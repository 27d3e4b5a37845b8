-- `accounts::serve_records` meets its contract: what is still to be served comes to what all records do. Assumes nothing.
use mathlib.Core.Path.{◌∙◌}
use native.Mathlib.Omega.{arith}
use Rattle.accounts.proofs.Served.{one_served, all_table, all_accounts}
use Rattle.accounts.proofs.serve_records.Goals as goal

pub loop-record-preserved : goal.loop-record-preserved
loop-record-preserved c =
    let steps = c.in-Some.ensures.steps in
    let inv = c.loop-record.invariant in
    let size = steps.0.0 ∙ inv.2 in
    let served = c.serve_record.ensures in
    (omega (arith, size), tt, size, one_served inv.3 _ steps.1 steps.0.1.0 (steps.0.1.1 ∙ inv.2) served.table served.accounts)

pub returns-clause-table : goal.returns-clause-table
returns-clause-table c = all_table c.loop-record.invariant.3 (λ h. omega (arith, (c.in-None.ensures.steps h).1.0, c.loop-record.invariant.2))

pub returns-clause-accounts : goal.returns-clause-accounts
returns-clause-accounts c = all_accounts c.loop-record.invariant.3 (λ h. omega (arith, (c.in-None.ensures.steps h).1.0, c.loop-record.invariant.2))
