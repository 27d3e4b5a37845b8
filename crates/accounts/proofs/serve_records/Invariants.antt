-- `accounts::serve_records` meets its contract: what is still to be served comes to what all records do. Assumes nothing.
use Rattle.std.specs.Iterator.Adapters.{take_source, take_count}
use Rattle.std.specs.Slice.Iter.{chunks_exact_rest, chunks_exact_size}
use mathlib.Core.Path.{◌≡◌}
use Rattle.rules.specs.Board.{printer}
use Rattle.rules.specs.Requests.{request_length}
use Rattle.rules.specs.Door.{table_after}
use Rattle.accounts.specs.Accounts.{accounts_from, handed, events_of}
use Rattle.accounts.proofs.Served.{Still}
use Rattle.accounts.proofs.serve_records.Given as goal

abbrev pub invariant-loop-record : goal.invariant-loop-record
invariant-loop-record l =
    let left = l.record-iterator in
    let records = take_source left in
    goal.iterator-loop-record.can_next left
    × goal.iterator-loop-record.is_finite left
    × (chunks_exact_size records ≡ request_length)
    × Still (table_after printer l.initial.table (handed l.k l.input)) (accounts_from 0 l.initial.accounts (events_of l.initial.table l.k l.input)) l.table l.accounts (take_count left) (chunks_exact_rest records)
