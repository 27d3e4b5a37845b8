-- The ends of waits keep what a table asks of its threads, and they shorten a line: each takes the line's first thread out of it, so
-- that as many ends as the line has members leave nobody in it. Assumes nothing.
use Rattle.std.specs.Prelude.{if◌then◌else◌}
use mathlib.Core.Bool.{Bool, true, false}
use mathlib.Core.Path.{◌≡◌, refl, ap}
use mathlib.Core.List.{List}
use Prim.Native.Nat.{ℕ, zero, suc, pred, ◌-◌, ◌<◌}
use native.Mathlib.Omega.{arith}
use native.Mathlib.Decide.{dec_lt}
use lib.ListN.{length}
use Rattle.rules.specs.Basic.{bit}
use Rattle.rules.specs.State.{free, at, with_place}
use Rattle.rules.specs.Lines.{Line, nowhere, ready, waiters, senders, same, in_line, line_length, is_first, first}
use Rattle.rules.specs.Waiting.{ended, end_wait, serve}
use Rattle.rules.specs.declared.Thread.{Thread}
use Rattle.rules.specs.declared.Outcome.{Outcome}
use Rattle.rules.specs.declared.Outcome.TheVariants.{Done}
use Rattle.laws.proofs.Split.{is, isnt, test, clash}
use Rattle.laws.proofs.Lines.{free_out}
use Rattle.laws.proofs.Counts.{find_hit}
use Rattle.laws.proofs.Places.{stands, first_there}
use Rattle.laws.proofs.Moves.{move_out}
use Rattle.laws.proofs.Placed.{move_count}
use Rattle.preservation.proofs.Fit.{Asks, Meets, meets_move}
use Rattle.preservation.proofs.Changes.{fit_ended}

pub meets_end : (i : ℕ) (o : Outcome) (x : ℕ) {a : Asks} {ts : List Thread} → (at ts i).used ≡ true → ((o ≡ Done → ⊥) → x ≡ 0) → Meets a ts → Meets a (end_wait i o x ts)
unfolding end_wait
meets_end i o x u h v = meets_move i (ended o x) (fit_ended (v.each i) u o x h) v

-- THE FIRST OF A LINE

pub first_in : (l : Line) (ts : List Thread) → first l ts < length ts → in_line l (at ts (first l ts)) ≡ true
first_in l ts h = ((stands l 1 (at ts (first l ts))).0 (find_hit (is_first l) free refl ts h)).0

pub first_used : (l : Line) (ts : List Thread) → first l ts < length ts → (at ts (first l ts)).used ≡ true
first_used l ts h = elim (test (at ts (first l ts)).used) [
  | is u ↦ u
  | isnt u ↦ absurd (clash (first_in l ts h) (free_out l (at ts (first l ts)) u))
]

meets_first : (l : Line) (o : Outcome) {a : Asks} {ts : List Thread} → Meets a ts → Meets a (end_wait (first l ts) o 0 ts)
unfolding end_wait
meets_first l o {ts = ts} v = elim (dec_lt (first l ts) (length ts)) [
  | yes h ↦ meets_end (first l ts) o 0 (first_used l ts h) (λ n. refl) v
  | no h ↦ rw (move_out (first l ts) (ended o 0) ts (omega arith)) v
]

pub meets_serve : (n : ℕ) (l : Line) (o : Outcome) {a : Asks} {ts : List Thread} → Meets a ts → Meets a (serve n l o ts)
unfolding serve
meets_serve zero l o v = v
meets_serve (suc n) l o v = meets_serve n l o (meets_first l o v)

-- WHO IS LEFT

-- a line of threads that wait
pub data Awaited : Line → Type 0 where
  semaphore : (k : ℕ) → Awaited (waiters k)
  mailbox : (i : ℕ) → Awaited (senders i)

ended_out : (l : Line) → Awaited l → (o : Outcome) (x : ℕ) (t : Thread) → in_line l (ended o x t) ≡ false
ended_out l w o x t = go l w t.used t.suspended t.priority
  where
    go : (l : Line) → Awaited l → (u s : Bool) (p : ℕ) → same (if u then (if s then nowhere else ready p) else nowhere) l ≡ false
    go l w false s p = refl
    go l w true true p = refl
    go l (semaphore k) true false p = refl
    go l (mailbox i) true false p = refl

first_count : (l : Line) → Awaited l → (o : Outcome) {a : Asks} (ts : List Thread) → Meets a ts → line_length l (end_wait (first l ts) o 0 ts) ≡ pred (line_length l ts)
unfolding end_wait
first_count l w o ts v = elim (dec_lt (first l ts) (length ts)) [
  | yes h ↦ omega (
    arith,
    move_count ts v.lines (first l ts) h (ended o 0) l,
    ap bit (first_in l ts h),
    ap bit (ended_out l w o 0 (with_place 0 (at ts (first l ts)))),
  )
  | no h ↦ rw (move_out (first l ts) (ended o 0) ts (omega arith)) (elim (dec_lt 0 (line_length l ts)) [
    | yes n ↦ absurd (h (first_there ts v.lines l n))
    | no n ↦ omega arith
  ])
]

pub serve_count : (n : ℕ) (l : Line) → Awaited l → (o : Outcome) {a : Asks} (ts : List Thread) → Meets a ts → line_length l (serve n l o ts) ≡ line_length l ts - n
unfolding serve
serve_count zero l w o ts v = omega arith
serve_count (suc n) l w o ts v = omega (arith, serve_count n l w o (end_wait (first l ts) o 0 ts) (meets_first l o v), first_count l w o ts v)
