-- Numbers of threads and semaphores by a table's length. Every board has a semaphore for two threads, so each thread takes a record and a half
-- of the table, each semaphore twice that, and the kernel's record comes on top: all that is said here is linear in the length.
use Rattle.std.specs.Prelude.{◌≡◌, List, ℕ, ◌+◌, ◌*◌, ◌/◌, ◌≤◌, length}
use Rattle.rules.specs.Board.{record_length}

abbrev pub thread_share : ℕ
thread_share = record_length + record_length / 2

abbrev pub sem_share : ℕ
sem_share = 2 * thread_share

-- the table's board has a thread of that number, and a semaphore
abbrev pub HasThread : List ℕ → ℕ → Type 0
HasThread t i = i * thread_share + thread_share ≤ length t

abbrev pub HasSem : List ℕ → ℕ → Type 0
HasSem t k = k * sem_share + sem_share ≤ length t

-- the table's board has so many threads, and so many semaphores
abbrev pub HasThreads : List ℕ → ℕ → Type 0
HasThreads t n = n * thread_share + record_length ≡ length t

abbrev pub HasSems : List ℕ → ℕ → Type 0
HasSems t n = n * sem_share + record_length ≡ length t
