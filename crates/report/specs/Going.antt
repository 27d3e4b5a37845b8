-- What all turns of the program come to. No contract says which bytes a read gives, so `seen` is some bytes, as many as the reads say; all
-- that follows from them is said. The run is promised for every sound table, all accounts and every number of records that it may go on from, so
-- that one which takes a fresh table or new accounts between two reads does not meet it, nor one which counts the records anew or forgets what
-- is left over. Which bytes came it cannot say: docs/PROMISES.md, "What is not said", has what a run could then do and still meet it.
use Rattle.std.specs.Prelude.{◌≡◌, List, ℕ, ◌+◌, ◌*◌, length, drop}
use Rattle.rules.specs.Board.{printer}
use Rattle.rules.specs.Requests.{request_length}
use Rattle.rules.specs.Door.{door, table_after}
use Rattle.lanes.specs.Report.{report_on}
use Rattle.lanes.specs.Kept.{of}
use Rattle.accounts.specs.Accounts.{accounts_from, handed, events_of, servable}

-- so many bytes have come since the replay went on from `first` records with table t and accounts ns, and have left it where it stands: `number`
-- records are served, and the bytes that are held are not
pub record Stands (first : ℕ) (t ns : List ℕ) (bytes number : ℕ) (t' ns' held : List ℕ) : Type 0 where
  pub seen : List ℕ
  pub size : length seen ≡ bytes
  pub count : number ≡ first + servable first (length seen)
  pub table : t' ≡ table_after printer t (handed (servable first (length seen)) seen)
  pub accounts : ns' ≡ accounts_from 0 ns (events_of t (servable first (length seen)) seen)
  pub left : held ≡ drop (servable first (length seen) * request_length) seen

-- the replay ends: `out` is the report of the bytes that have come
pub record Ended (first : ℕ) (t ns : List ℕ) (bytes number : ℕ) (t' ns' held out : List ℕ) : Type 0 where
  pub stands : Stands first t ns bytes number t' ns' held
  pub prints : out ≡ report_on printer (door printer) first t (of ns) stands.seen
