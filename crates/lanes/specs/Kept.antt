-- The accounts as a program keeps them, a number for each thread, and how large they can be.
use Rattle.std.specs.Prelude.{◌≡◌, List, ℕ, ◌+◌, ◌*◌, ◌≤◌, length, get_or}
use Rattle.rules.specs.Board.{printer, most_ticks}
use Rattle.lanes.specs.Report.{most_charges}

-- what a thread has; the first of the accounts is thread 0's
abbrev pub of : List ℕ → ℕ → ℕ
of accounts i = get_or accounts i 0

-- so many more records leave every account within the most that the report reckons with
abbrev pub Within : ℕ → List ℕ → Type 0
Within more accounts = (i : ℕ) → of accounts i + most_ticks * more ≤ most_charges

-- an account for each thread of the board, with room for so many more records
abbrev pub Kept : ℕ → List ℕ → Type 0
Kept more accounts = (length accounts ≡ printer.threads) × Within more accounts
