-- Bytes written into the records, and what each makes of the state. Assumes nothing.
use mathlib.Core.Path.{◌≡◌, refl, ap, ◌∙◌}
use mathlib.Core.Bool.{Bool, true, false}
use mathlib.Core.List.{List, [], ◌∷◌}
use Prim.Native.Nat.{ℕ, ◌+◌, ◌*◌}
use native.Mathlib.Omega.{arith}
use lib.ListN.{set}
use lib.Seq.{sets}
use Rattle.std.specs.Int.{from_bool}
use Rattle.rules.specs.Basic.{bit}
use Rattle.rules.specs.Board.{record_length}
use Rattle.rules.specs.State.{counter_of, edit, with_place, with_counter, with_turn, with_outcome, with_mail, with_wait, with_suspended, with_priority, with_running, with_lock}
use Rattle.rules.specs.Table.{word_bytes, kind_of, object_of, outcome_byte, thread_row, sem_row, kernel_row}
use Rattle.rules.specs.declared.Wait.{Wait}
use Rattle.rules.specs.declared.Outcome.{Outcome}
use Rattle.rules.specs.declared.Sem.{Sem}
use Rattle.laws.proofs.Lines.{line_counter}
use Rattle.layout.specs.Bytes.{sems_from, kernel_from, put, put_word, puts}
use Rattle.layout.specs.Boards.{HasThread, HasSem}
use Rattle.layout.specs.Held.{board, Whole, Becomes, Laid, Changes, on_threads, on_sems}
use Rattle.layout.proofs.Held.{thread_changed, thread_written, sem_written, kernel_written}
use Rattle.layout.proofs.Flat.{Within}
use Rattle.records.specs.Fields.{with_used}
use Rattle.records.proofs.Rows.{counter_row}

-- std's byte of a flag is the rule's
flag : (b : Bool) → from_bool b ≡ bit b
flag true = refl
flag false = refl

-- THREADS: each byte and each word makes the row of the changed thread

module _ {t : List ℕ} (i : ℕ) (h : HasThread t i × Whole t) where
  pub place_written : (v : ℕ) → Becomes t (set t (i * record_length + 5) v) (on_threads (edit i (with_place v)))
  unfolding puts thread_row Within
  place_written v = thread_written h.1 i (with_place v) (put 5 v ∷ []) h.0 (omega arith) (λ x. refl) (λ x. refl) refl

  module _ {t' : List ℕ} where
    pub counter_written : (n : ℕ) → t' ≡ sets t (i * record_length + 12) (word_bytes n) → Becomes t t' (on_threads (edit i (with_counter n)))
    unfolding puts Within
    counter_written n e = thread_written h.1 i (with_counter n) (put_word 12 n ∷ []) h.0 (omega arith) (counter_row n) (line_counter n) e

    pub turn_written : (n : ℕ) → t' ≡ sets t (i * record_length + 8) (word_bytes n) → Becomes t t' (on_threads (edit i (with_turn n)))
    unfolding puts thread_row Within
    turn_written n e = thread_written h.1 i (with_turn n) (put_word 8 n ∷ []) h.0 (omega arith) (λ x. refl) (λ x. refl) e

    pub outcome_written : (o : Outcome) (n b : ℕ) → t' ≡ sets t (i * record_length + 20) (word_bytes n) → b ≡ outcome_byte o
        → Becomes t (set t' (i * record_length + 7) b) (on_threads (edit i (with_outcome o n)))
    unfolding puts thread_row Within
    outcome_written o n b e f =
        thread_written h.1 i (with_outcome o n) (put_word 20 n ∷ put 7 b ∷ []) h.0 (omega arith) (λ x. rw f) (λ x. refl)
        (ap (λ l. set l (i * record_length + 7) b) e)

    pub mail_written : (full : Bool) (n b : ℕ) → t' ≡ sets t (i * record_length + 16) (word_bytes n) → b ≡ from_bool full
        → Becomes t (set t' (i * record_length + 6) b) (on_threads (edit i (with_mail full n)))
    unfolding puts thread_row Within
    mail_written full n b e f =
        thread_written h.1 i (with_mail full n) (put_word 16 n ∷ put 6 b ∷ []) h.0 (omega arith) (λ x. rw (f ∙ flag full)) (λ x. refl)
        (ap (λ l. set l (i * record_length + 6) b) e)

-- what a thread's line goes by
module _ {t : List ℕ} (i : ℕ) (h : HasThread t i × Laid t) where
  pub used_written : (used : Bool) (b : ℕ) → b ≡ from_bool used → Changes t (set t (i * record_length + 0) b) (on_threads (edit i (with_used used)))
  unfolding puts thread_row Within
  used_written used b f = thread_changed h.1 i (with_used used) (put 0 b ∷ []) h.0 (omega arith) (λ x. rw (f ∙ flag used)) refl

  pub priority_written : (v : ℕ) → Changes t (set t (i * record_length + 1) v) (on_threads (edit i (with_priority v)))
  unfolding puts thread_row Within
  priority_written v = thread_changed h.1 i (with_priority v) (put 1 v ∷ []) h.0 (omega arith) (λ x. refl) refl

  pub suspended_written : (suspended : Bool) (b : ℕ) → b ≡ from_bool suspended
      → Changes t (set t (i * record_length + 2) b) (on_threads (edit i (with_suspended suspended)))
  unfolding puts thread_row Within
  suspended_written suspended b f = thread_changed h.1 i (with_suspended suspended) (put 2 b ∷ []) h.0 (omega arith) (λ x. rw (f ∙ flag suspended)) refl

  pub wait_written : {t' : List ℕ} (w : Wait) (n kind object : ℕ) → t' ≡ sets t (i * record_length + 12) (word_bytes n) → n ≡ counter_of w
      → kind ≡ kind_of w → object ≡ object_of w
      → Changes t (set (set t' (i * record_length + 3) kind) (i * record_length + 4) object) (on_threads (edit i (with_wait w)))
  unfolding puts thread_row Within
  wait_written w n kind object e c k o =
      thread_changed h.1 i (with_wait w) (put_word 12 n ∷ put 3 kind ∷ put 4 object ∷ []) h.0 (omega arith) (λ x. rw (c, k, o))
      (ap (λ l. set (set l (i * record_length + 3) kind) (i * record_length + 4) object) e)

-- A SEMAPHORE AND THE KERNEL

pub sem_set : {t : List ℕ} (k : ℕ) (e : Sem) → HasSem t k × Whole t → (b base : ℕ) → b ≡ from_bool e.used → base ≡ sems_from (board t) + k * record_length
    → Becomes t (set (set t (base + 0) b) (base + 1) e.count) (on_sems (λ es. set es k e))
unfolding puts sem_row Within
sem_set k e h b base f from = sem_written h.1 k e (put 0 b ∷ put 1 e.count ∷ []) h.0 (omega arith) (λ x. rw (f ∙ flag e.used)) base from refl

module _ {t : List ℕ} (w : Whole t) (base : ℕ) (from : base ≡ kernel_from (board t)) (n : ℕ) where
  pub running_written : Becomes t (set t (base + 0) n) (with_running n)
  unfolding puts kernel_row
  running_written = kernel_written w (λ r. n) (λ l. l) (put 0 n ∷ []) (λ r l v. refl) base from refl

  pub lock_written : Becomes t (set t (base + 1) n) (with_lock n)
  unfolding puts kernel_row
  lock_written = kernel_written w (λ r. r) (λ l. n) (put 1 n ∷ []) (λ r l v. refl) base from refl
