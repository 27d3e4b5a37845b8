-- Document 01's numbers. Only `printer` says how many threads and semaphores there are.
use Rattle.std.specs.Prelude.{ℕ, ◌+◌, ◌*◌}

-- how many threads and semaphores a table has records for
pub record Board : Type 0 where
  pub threads : ℕ
  pub sems : ℕ

-- "16 threads (0 to 15) [..] 8 semaphores (0 to 7)."
abbrev pub printer : Board
printer = record { threads = 16; sems = 8 }

-- "25 records of 24 bytes, no header."
abbrev pub record_length : ℕ
record_length = 24

abbrev pub table_length : Board → ℕ
table_length b = (b.threads + b.sems + 1) * record_length

-- "Its length is 600": a table's length says which board it is of. One board is admitted, so that any length says the same.
abbrev pub board_of : ℕ → Board
board_of n = printer

-- the most threads that a board has
abbrev pub most_threads : ℕ
most_threads = printer.threads

-- "Priorities 0 to 31, larger outranks smaller."
abbrev pub top_priority : ℕ
top_priority = 31

-- "Turns and delays 1 to 99,999 ticks."
abbrev pub most_ticks : ℕ
most_ticks = 99999

-- "Semaphore count 0 to 99."
abbrev pub most_count : ℕ
most_count = 99

-- "Lock nesting 0 to 255."
abbrev pub most_lock : ℕ
most_lock = 255
