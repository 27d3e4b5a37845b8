-- What a table's length says of its board, and where the records of that board stand. Assumes nothing.
use mathlib.Core.Path.{◌≡◌, refl, sym, ap, subst, ◌∙◌}
use mathlib.Core.List.{List}
use mathlib.Core.Logic.{◌↔◌}
use Prim.Native.Nat.{ℕ, ◌+◌, ◌*◌, ◌≤◌, ◌<◌}
use native.Mathlib.Omega.{arith}
use lib.ListN.{length, get_or, get_or-eq_default}
use Rattle.rules.specs.Board.{Board, printer, board_of, most_threads, table_length, record_length}
use Rattle.rules.specs.State.{State, On, free, free_sem, at, sem_at}
use Rattle.rules.specs.Table.{thread_of, sem_of, decode}
use Rattle.layout.specs.Bytes.{sems_from, kernel_from, record_at}
use Rattle.layout.specs.Boards.{HasThread, HasSem, HasThreads, HasSems}
use Rattle.layout.specs.Held.{board, Long, said}
use Rattle.layout.proofs.RoundTrip.{on_decode}
use Rattle.layout.proofs.Said.{thread_said, sem_said, running_said, lock_said}

-- EVERY BOARD

-- what all boards have in common: two threads to a semaphore, and a semaphore at least
record Fits (b : Board) : Type 0 where
  pairs : b.threads ≡ 2 * b.sems
  some : 1 ≤ b.sems
  most : b.threads ≤ most_threads

fits : (n : ℕ) → Fits (board_of n)
fits n = record { pairs = refl; some = omega arith; most = omega arith }

-- a table's length by its board
pub record Counted (t : List ℕ) : Type 0 where
  pub threads : HasThreads t (board t).threads
  pub sems : HasSems t (board t).sems
  pub some : HasThread t 0
  pub pairs : (board t).threads ≡ 2 * (board t).sems
  pub most : (board t).threads ≤ most_threads

pub counted : (t : List ℕ) → Long t → Counted t
counted t l =
    let b = fits (length t) in
    record { threads = omega (arith, l.fits, b.pairs); sems = omega (arith, l.fits, b.pairs); some = omega (arith, l.fits, b.some); pairs = b.pairs; most = b.most }

-- the two-lane printer's board
pub printer_board : (n : ℕ) → n ≡ table_length printer → board_of n ≡ printer
printer_board n e = ap board_of e

pub printer_long : {t : List ℕ} → length t ≡ table_length printer → Long t
printer_long {t} e = record { fits = e ∙ ap table_length (sym (printer_board (length t) e)) }

-- the words of the length say what they should of the board
pub has_thread : {t : List ℕ} → Long t → (i : ℕ) → HasThread t i ↔ (i < (board t).threads)
has_thread {t} l i = let c = counted t l in (λ h. omega (arith, c.threads), λ h. omega (arith, c.threads))

pub has_sem : {t : List ℕ} → Long t → (k : ℕ) → HasSem t k ↔ (k < (board t).sems)
has_sem {t} l k = let c = counted t l in (λ h. omega (arith, c.sems), λ h. omega (arith, c.sems))

-- A STATE OF THE BOARD

-- the state that a table says is one of its board
pub said_on : (t : List ℕ) {s : State} → said t ≡ s → On (board t) s
unfolding said
said_on t e = subst (λ s. On (board t) s) e (on_decode (board t) t)

-- it has as many records as the table has room for
pub record Sized (t : List ℕ) (s : State) : Type 0 where
  pub threads : HasThreads t (length s.threads)
  pub sems : HasSems t (length s.sems)

pub sized : {t : List ℕ} → Long t → {s : State} → said t ≡ s → Sized t s
sized {t} l e =
    let c = counted t l in
    let on = said_on t e in
    record { threads = rw on.threads c.threads; sems = rw on.sems c.sems }

pub said_printer : (t : List ℕ) → length t ≡ table_length printer → said t ≡ decode printer t
unfolding said
said_printer t e = ap (λ b. decode b t) (printer_board (length t) e)

-- WHAT IS READ

module _ {t : List ℕ} (l : Long t) {s : State} (e : said t ≡ s) where
  pub thread_told : (i : ℕ) → HasThread t i → thread_of (record_at t (i * record_length)) ≡ at s.threads i
  unfolding said
  thread_told i h = sym (thread_said (board t) t l.fits i ((has_thread l i).0 h)) ∙ ap (λ s. at s.threads i) e

  pub sem_told : (k : ℕ) → HasSem t k → (base : ℕ) → base ≡ sems_from (board t) + k * record_length → sem_of (record_at t base) ≡ sem_at s.sems k
  unfolding said
  sem_told k h base at = ap (λ n. sem_of (record_at t n)) at ∙ sym (sem_said (board t) t l.fits k ((has_sem l k).0 h)) ∙ ap (λ s. sem_at s.sems k) e

  -- a number past the table's records reads as a free record
  pub no_thread_lem : (i n : ℕ) → HasThreads t n → n ≤ i → at s.threads i ≡ free
  no_thread_lem i n h q = get_or-eq_default s.threads free {n = i} (omega (arith, (sized l e).threads))

  pub no_sem_lem : (k n : ℕ) → HasSems t n → n ≤ k → sem_at s.sems k ≡ free_sem
  no_sem_lem k n h q = get_or-eq_default s.sems free_sem {n = k} (omega (arith, (sized l e).sems))

-- the kernel's record starts at byte `base`
module _ (t : List ℕ) {s : State} (e : said t ≡ s) (base : ℕ) (from : base ≡ kernel_from (board t)) where
  pub running_told : get_or t base 0 ≡ s.running
  unfolding said
  running_told = ap (λ n. get_or t n 0) from ∙ sym (running_said (board t) t) ∙ ap (λ s. s.running) e

  pub lock_told : get_or t (base + 1) 0 ≡ s.lock
  unfolding said
  lock_told = ap (λ n. get_or t (n + 1) 0) from ∙ sym (lock_said (board t) t) ∙ ap (λ s. s.lock) e
