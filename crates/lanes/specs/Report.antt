-- ORDER 5, the lane report: "A program replays a trace without printing its lines and then prints a line for each thread in use at the end,
-- by number". What it prints of an input is said here, byte for byte.
use Rattle.std.specs.Prelude.{if◌then◌else◌, Bool, ◌≡◌, List, [], ◌∷◌, ◌++◌, map, ℕ, suc, ◌+◌, ◌-◌, ◌*◌, ◌/◌, ◌<◌, ltb, ℤ, length, take}
use Rattle.rules.specs.Board.{Board, most_ticks}
use Rattle.rules.specs.State.{State}
use Rattle.rules.specs.Table.{decode}
use Rattle.rules.specs.Requests.{request_length}
use Rattle.rules.specs.Door.{door, fresh_table}
use Rattle.rules.specs.Trace.{cleanly, whole_records}
use Rattle.rules.specs.declared.Thread.{Thread}
use Rattle.text.specs.Text.{ascii, decimal, signed}
use Rattle.fairness.specs.Run.{end_of}
use Rattle.fairness.specs.Doors.{Door, run_of}
use Rattle.lanes.specs.Lag.{account_from, lag}

-- "If whole records are left after 1,000,000": no more are replayed
abbrev pub most_records : ℕ
most_records = 1000000

-- what a thread may be charged by then: a record charges at most 99,999, the ticks of an operation 21
abbrev pub most_charges : ℕ
most_charges = most_ticks * most_records

-- "its number, the ticks charged to it since its creation (Init: since the start), and its lag, in decimal with single spaces"
abbrev pub lane_line : ℕ → ℕ → ℤ → List ℕ
lane_line i n z = decimal i ++ ascii " " ++ decimal n ++ ascii " " ++ signed z ++ ascii "\n"

-- "a line for each thread in use at the end"
abbrev pub lane_of : (ℕ → ℕ) → State → ℕ → Thread → List ℕ
lane_of charged s i t = if t.used then lane_line i (charged i) (lag charged s i) else []

-- "by number": of a list of threads, the first of which has number i
unfoldable pub lane_lines : (ℕ → ℕ) → State → ℕ → List Thread → List ℕ
lane_lines charged s i [] = []
lane_lines charged s i (t ∷ ts) = lane_of charged s i t ++ lane_lines charged s (suc i) ts

-- "a line `stopped` comes before the report"
abbrev pub report_text : Bool → (ℕ → ℕ) → State → List ℕ
report_text stopped charged s = (if stopped then ascii "stopped\n" else []) ++ lane_lines charged s 0 s.threads

-- a replay that goes on where n records went before, and left table t and these charges; "`short N` isn't printed"
unfoldable pub report_on : Board → Door → ℕ → List ℕ → (ℕ → ℕ) → List ℕ → List ℕ
report_on b d n t charged input =
    let run = run_of b d t (map cleanly (take (most_records - n) (whole_records input))) in
    report_text (ltb most_records (n + length input / request_length)) (λ i. account_from i (charged i) run) (end_of (decode b t) run)

-- THE REPORT of an input, whose first record finds a fresh table; by any door
abbrev pub report_by : Board → Door → List ℕ → List ℕ
report_by b d input = report_on b d 0 (fresh_table b) (λ i. 0) input

abbrev pub report : Board → List ℕ → List ℕ
report b input = report_by b (door b) input

-- what stands behind 1,000,001 whole records makes no difference, so that nobody has to read it
abbrev pub Unread : Type 0
Unread =
    (b : Board) (d : Door) (n : ℕ) (t : List ℕ) (charged : ℕ → ℕ) (seen more : List ℕ)
    → most_records < n + length seen / request_length → report_on b d n t charged (seen ++ more) ≡ report_on b d n t charged seen
