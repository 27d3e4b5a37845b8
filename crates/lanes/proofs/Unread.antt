-- Behind 1,000,001 whole records nothing is replayed and nothing is printed of. Assumes nothing.
use mathlib.Core.Path.{◌≡◌, sym, ap, ◌∙◌}
use mathlib.Core.List.{◌++◌, map}
use Prim.Native.Nat.{◌+◌, ◌-◌, ◌/◌, ◌≤◌}
use native.Mathlib.Omega.{arith}
use lib.Dec.{ltb}
use borrow.Author.Tests.{lt-ltb}
use lib.ListN.{length, take, length-append}
use lib.Seq.{take-append-le}
use Rattle.rules.specs.Table.{decode}
use Rattle.rules.specs.Requests.{request_length}
use Rattle.rules.specs.Trace.{cleanly, whole_records}
use Rattle.fairness.specs.Run.{end_of}
use Rattle.fairness.specs.Doors.{run_of}
use Rattle.parts.specs.LeftOver.{left_over}
use Rattle.parts.proofs.Whole.{records_length, whole_append}
use Rattle.lanes.specs.Lag.{account_from}
use Rattle.lanes.specs.Report.{most_records, report_text, report_on, Unread}

pub unread : Unread
unfolding report_on
unread b d n t charged seen more h =
    let enough : most_records - n ≤ length (whole_records seen) = omega (arith, records_length (length seen / request_length) seen) in
    let same : take (most_records - n) (whole_records (seen ++ more)) ≡ take (most_records - n) (whole_records seen) =
    ap (take (most_records - n)) (whole_append seen more) ∙ take-append-le (most_records - n) (whole_records seen) (whole_records (left_over seen ++ more)) enough in
    let stops : ltb most_records (n + length (seen ++ more) / request_length) ≡ ltb most_records (n + length seen / request_length) =
    lt-ltb most_records (n + length (seen ++ more) / request_length) (omega (arith, length-append seen more)) ∙ sym (lt-ltb most_records (n + length seen / request_length) h) in
    λ j.
    let run = run_of b d t (map cleanly (same j)) in
    report_text (stops j) (λ i. account_from i (charged i) run) (end_of (decode b t) run)
