-- `request::request_of` meets its contract: past the table there is no operation. What its arms ask is found alone. Assumes nothing.
use Rattle.std.proofs.Common.{rules, ◌≤◌}
use Rattle.std.specs.Prelude.{None}
use lib.ListN.{get_or-eq_default}
use Rattle.rules.specs.Requests.{operations, request_of}
use Rattle.request.proofs.request_of.Goals as goal

pub returns-in_default : goal.returns-in_default
unfolding request_of
returns-in_default c = let past : 25 ≤ c.args.fields.operation = search rules in rw (get_or-eq_default operations None {n = c.args.fields.operation} past)
