-- A thread's record passes exactly when all that is asked of it holds. A free record is all zero, so its bytes are tested as they
-- stand. Assumes nothing.
use mathlib.Core.Bool.{Bool, true, false}
use mathlib.Core.Path.{◌≡◌, refl, ap, sym, subst, ◌∙◌}
use mathlib.Core.List.{List}
use Prim.Native.Nat.{ℕ, ◌+◌, ◌*◌, ◌≤◌, ◌<◌}
use native.Mathlib.Nat.{add-zero}
use native.Mathlib.Omega.{arith}
use lib.ListN.{length, get_or, replicate, get_or-replicate}
use Rattle.rules.specs.Board.{record_length, most_threads, top_priority}
use Rattle.rules.specs.State.{State, free, free_sem, at}
use Rattle.rules.specs.Lines.{wait_line, line, ready_word}
use Rattle.rules.specs.Table.{wait_of, outcome_of, thread_row, thread_of, encode}
use Rattle.rules.specs.Test.{free_ok, object_ok, used_ok}
use Rattle.rules.specs.declared.Thread.{Thread}
use Rattle.rules.specs.declared.Sem.{Sem}
use Rattle.rules.specs.declared.Wait.{Wait}
use Rattle.rules.specs.declared.Wait.TheVariants.{Nothing, Delay, Receive, Send, Semaphore}
use Rattle.laws.proofs.Split.{clash}
use Rattle.laws.proofs.Reflect.{and_says, if_says, leb_says}
use Rattle.laws.proofs.Counts.{within}
use Rattle.laws.proofs.Records.{free_says}
use Rattle.layout.specs.Bytes.{record_at}
use Rattle.layout.specs.Boards.{HasThread}
use Rattle.layout.specs.Canon.{head_canon, thread_canon}
use Rattle.layout.specs.Held.{Long, said}
use Rattle.layout.proofs.Records.{record_is, thread_byte}
use Rattle.layout.proofs.Boards.{counted, has_thread, said_on, sized, thread_told}
use Rattle.canon.specs.Zero.{record_zero}
use Rattle.canon.proofs.Zeros.{record_zeros, zeros_record}
use Rattle.marks.specs.Numbers.{line_number}
use Rattle.places.specs.Rings.{Entries}
use Rattle.sound.specs.Tested.{Decides, InTable, Noted, Passes}
use Rattle.sound.proofs.Noting.{notes_none}

-- A THREAD IN USE

-- what it waits for is one of the state's
object_within : (s : State) (i : ℕ) (w : Wait) (full : Bool) → object_ok s i w full ≡ true → InTable s w
object_within s i (Nothing n) full e = tt
object_within s i (Delay n) full e = tt
object_within s i (Receive n) full e = tt
object_within s i (Send to n) full e =
    let x = simp and_says at e in
    within (λ (t : Thread). t.used) free refl s.threads to x.0.1
object_within s i (Semaphore k n) full e =
    let x = simp and_says at e in
    within (λ (e : Sem). e.used) free_sem refl s.sems k x.0

pub used_within : (s : State) (i : ℕ) (th : Thread) → used_ok s i th ≡ true → (th.priority ≤ top_priority) × InTable s th.wait
unfolding used_ok
used_within s i th e = let x = simp (and_says, leb_says) at e in (x.0.0.0.0.0.0, object_within s i th.wait th.full x.0.0.0.1)

-- its line's number fits in a byte, on every board
module _ (s : State) (threads : length s.threads ≤ most_threads) (sems : length s.sems ≤ most_threads) where
  wait_number : (w : Wait) (suspended : Bool) (p : ℕ) → p ≤ top_priority → InTable s w → line_number (wait_line w suspended p) < 256
  wait_number (Nothing n) true p h o = omega arith
  wait_number (Nothing n) false p h o = omega arith
  wait_number (Delay n) suspended p h o = omega arith
  wait_number (Receive n) suspended p h o = omega arith
  wait_number (Send to n) suspended p h o = omega arith
  wait_number (Semaphore on n) suspended p h o = omega arith

pub used_number : {t : List ℕ} → Long t → (s : State) → said t ≡ s → (i : ℕ) (th : Thread) → th.used ≡ true → used_ok s i th ≡ true → line_number (line th) < 256
used_number {t} l s e i th u o =
    let x = used_within s i th o in
    let n = sized l e in
    let most = counted t l in
    rw u (wait_number s (omega (arith, n.threads, most.threads, most.most)) (omega (arith, n.sems, most.threads, most.most)) th.wait th.suspended th.priority x.0 x.1)

-- THE WAYS OUT

-- what holds of a thread as it was read holds of the state's
pub as_read : (f : Thread → Bool) {th now : Thread} {b : Bool} → th ≡ now → f th ≡ b → f now ≡ b
as_read f p e = ap f (sym p) ∙ e

-- an answer decides what an equal one does
pub decides_as : {t : List ℕ} {P : Type 0} {a b : Bool} → a ≡ b → Decides a t P → Decides b t P
decides_as {t} {P} e d = subst (λ x. Decides x t P) e d

-- what fails fails
pub fails : {t : List ℕ} {P : Type 0} → (P → ⊥) → Decides false t P
fails h = record { passed = λ e. absurd (clash e refl); passes = λ w p. absurd (h p) }

module _ {t : List ℕ} (s : State) (i : ℕ) {th : Thread} (this : th ≡ at s.threads i) (u : th.used ≡ true) where
  pub used_fails : used_ok s i th ≡ false → Decides false t (Passes t s i)
  used_fails e = fails (λ p. clash (((if_says _ _ _).0 p.own).0 (as_read (λ th. th.used) this u)) (as_read (used_ok s i) this e))

  pub used_ends : thread_canon t (i * record_length) ≡ true → used_ok s i th ≡ true → Decides true t (Passes t s i)
  used_ends c o = record {
    passed = λ e. record {
      canon = c;
      own = (if_says _ _ _).1 (λ z. as_read (used_ok s i) this o, λ z. absurd (clash (as_read (λ th. th.used) this u) z));
    };
    passes = λ w p. refl;
  }

-- A FREE RECORD

zeros_free : (t : List ℕ) (base : ℕ) → ((k : ℕ) → k < record_length → get_or t (base + k) 0 ≡ 0) → thread_of (record_at t base) ≡ free
unfolding thread_of wait_of outcome_of
zeros_free t base z = ap thread_of (record_is (replicate record_length 0) t base refl (λ k h. z k h ∙ sym (get_or-replicate record_length k 0 0 h)))

zeros_canon : (t : List ℕ) (base : ℕ) → ((k : ℕ) → k < record_length → get_or t (base + k) 0 ≡ 0) → thread_canon t base ≡ true
unfolding thread_canon head_canon
zeros_canon t base z = rw (rw add-zero at (z 0 (omega arith)), z 2 (omega arith), z 3 (omega arith), z 4 (omega arith), z 6 (omega arith), z 7 (omega arith))

module _ (t : List ℕ) (s : State) (i : ℕ) (long : Long t) (e : said t ≡ s) (inside : HasThread t i)
    {r : Bool} (zero : r ≡ record_zero t (i * record_length)) where
  pub zero_free : r ≡ true → at s.threads i ≡ free
  zero_free q = sym (thread_told long e i inside) ∙ zeros_free t (i * record_length) (record_zeros t (i * record_length) (sym zero ∙ q))

  -- a free thread stands nowhere
  pub free_noted : {noted : Entries} → Noted noted s.threads i → r ≡ true → Noted noted s.threads (i + 1)
  free_noted old q = let f = zero_free q in notes_none old (ap line f) (ap (λ th. th.place) f)

  pub free_ends : {th : Thread} → th ≡ at s.threads i → th.used ≡ false → Decides r t (Passes t s i)
  unfolding free_ok thread_row encode
  free_ends this u =
      let base = i * record_length in
      record {
        passed = λ q. let f = zero_free q in record {
          canon = zeros_canon t base (record_zeros t base (sym zero ∙ q));
          own = rw f;
        };
        passes = λ w p.
            let out = as_read (λ th. th.used) this u in
            let f = (free_says (at s.threads i) out).0 (((if_says _ _ _).0 p.own).1 out) in
            zero ∙ zeros_record t base (λ k h. ap (λ l. get_or l (base + k) 0) w.meaning ∙ thread_byte (said_on t refl) (ready_word (said t).threads) i k ((has_thread long i).0 inside) h
            ∙ ap (λ th. get_or (thread_row th) k 0) (ap (λ s. at s.threads i) e ∙ f) ∙ get_or-replicate record_length k 0 0 h);
      }
