-- A mark tells what it is for: of the eight bytes those that it asks are compared, byte by byte, since each stands in bits of its own.
-- Assumes nothing.
use Rattle.std.specs.Prelude.{if◌then◌else◌}
use mathlib.Core.Bool.{Bool, true, false, ◌&&◌}
use mathlib.Core.Path.{◌≡◌, refl, ap, sym, ◌∙◌}
use mathlib.Core.List.{List}
use Prim.Native.Nat.{ℕ, ◌+◌, ◌*◌, ◌-◌, ◌/◌, ◌^◌, ◌<◌}
use native.Mathlib.Nat.{mod-eq_of_lt, add-zero}
use native.Mathlib.Omega.{arith}
use borrow.Author.Tests.{ne_eqb, eqb-true, eqb-false, lt-leb, leb-true, leb-false}
use lib.Bits.{bit_and, and_block, and_mask, and_zero_r, and_le_l}
use lib.Dec.{eqb, leb}
use lib.ListN.{get_or}
use Rattle.rules.specs.Basic.{bit}
use Rattle.rules.specs.Board.{record_length}
use Rattle.rules.specs.State.{State, at}
use Rattle.rules.specs.Lines.{Line, nowhere, ready, waiters, senders, same, wait_line, line, in_line, is_first, ready_word}
use Rattle.rules.specs.Table.{kind_of, object_of, outcome_byte, thread_row, encode}
use Rattle.rules.specs.declared.Thread.{Thread}
use Rattle.rules.specs.declared.Wait.{Wait}
use Rattle.rules.specs.declared.Wait.TheVariants.{Nothing, Delay, Receive, Send, Semaphore}
use Rattle.laws.proofs.Split.{is, isnt, test}
use Rattle.laws.proofs.Lines.{same_nowhere}
use Rattle.layout.specs.Boards.{HasThread}
use Rattle.layout.specs.Held.{Holds}
use Rattle.layout.proofs.Records.{thread_byte}
use Rattle.layout.proofs.Boards.{has_thread}
use Rattle.layout.proofs.Held.{holds_on, holds_whole}
use Rattle.words.specs.Long.{long_at}
use Rattle.marks.specs.Numbers.{line_number}
use Rattle.marks.specs.Marks.{standing, head_of, nobody, mark_of, first_mark}
use Rattle.marks.specs.declared.Mark.{Mark}
use Rattle.marks.proofs.Numbered.{as_number}

-- what is said of a thread stands in bytes
pub record Small (t : Thread) : Type 0 where
  pub priority : t.priority < 256
  pub object : object_of t.wait < 256
  pub place : t.place < 256

-- NUMBERS

-- two numbers that differ, where the answer is to be no
apart : (a b : ℕ) → (a ≡ b → ⊥) → {x : Bool} → x ≡ false → eqb a b ≡ x
apart a b h e = ne_eqb a b h ∙ sym e

bit_low : (x : Bool) → bit x < 2
bit_low true = omega arith
bit_low false = omega arith

kind_low : (w : Wait) → kind_of w < 5
kind_low (Nothing n) = omega arith
kind_low (Delay n) = omega arith
kind_low (Receive n) = omega arith
kind_low (Send to n) = omega arith
kind_low (Semaphore on n) = omega arith

standing_low : (t : Thread) → Small t → standing t < 2 ^ 40
standing_low t h = omega (arith, bit_low t.used, bit_low t.suspended, kind_low t.wait, h.priority, h.object)

-- a mask of the five bytes that tell
masked : (high low mask : ℕ) → low < 2 ^ 40 → mask < 2 ^ 40 → bit_and (high * 2 ^ 40 + low) mask ≡ bit_and low mask
masked high low mask h q =
    let whole : mask ≡ 0 * 2 ^ 40 + mask = omega arith in
    ap (bit_and (high * 2 ^ 40 + low)) whole ∙ and_block 40 high 0 low mask h q ∙ rw (and_zero_r high) (omega arith)

all_five : (n : ℕ) → n < 2 ^ 40 → bit_and n 1099511627775 ≡ n
all_five n h = and_mask n 40 ∙ mod-eq_of_lt h

-- the first byte and the last two of them
outer : (first others wait : ℕ) → first < 256 → others < 65536 → wait < 65536 → bit_and (first + 256 * others + 16777216 * wait) 1099494850815 ≡ wait * 16777216 + first
outer first others wait h q w =
    let parts : first + 256 * others + 16777216 * wait ≡ wait * 2 ^ 24 + (first + 256 * others) = omega arith in
    let low : bit_and (first + 256 * others) 255 ≡ first = and_mask (first + 256 * others) 8 ∙ omega arith in
    let high : bit_and wait 65535 ≡ wait = and_mask wait 16 ∙ mod-eq_of_lt w in
    ap (λ n. bit_and n 1099494850815) parts
    ∙ and_block 24 wait 65535 (first + 256 * others) 255 (omega arith) (omega arith)
    ∙ rw (low, high) (omega arith)

-- LINES

-- the five bytes, and the three that tell of a wait
abbrev five : Bool → ℕ → Bool → Wait → ℕ
five u q s w = bit u + 256 * q + 65536 * bit s + 16777216 * (kind_of w + 256 * object_of w)

abbrev three : Bool → Wait → ℕ
three u w = (kind_of w + 256 * object_of w) * 16777216 + bit u

ready_tells : (p q : ℕ) → p < 256 → q < 256 → (u s : Bool) (w : Wait) → object_of w < 256 → eqb (five u q s w) (1 + 256 * p) ≡ same (if u then wait_line w s q else nowhere) (ready p)
ready_tells p q a b false s w o = apart (five false q s w) (1 + 256 * p) (λ e. omega arith) refl
ready_tells p q a b true true (Nothing n) o = apart (five true q true (Nothing n)) (1 + 256 * p) (λ e. omega arith) refl
ready_tells p q a b true false (Nothing n) o = as_number q p (five true q false (Nothing n)) (1 + 256 * p) (λ e. omega arith) (λ e. omega arith)
ready_tells p q a b true s (Delay n) o = apart (five true q s (Delay n)) (1 + 256 * p) (λ e. omega (arith, bit_low s)) refl
ready_tells p q a b true s (Receive n) o = apart (five true q s (Receive n)) (1 + 256 * p) (λ e. omega (arith, bit_low s)) refl
ready_tells p q a b true s (Send to n) o = apart (five true q s (Send to n)) (1 + 256 * p) (λ e. omega (arith, bit_low s)) refl
ready_tells p q a b true s (Semaphore on n) o = apart (five true q s (Semaphore on n)) (1 + 256 * p) (λ e. omega (arith, bit_low s)) refl

-- neither
others : (k : ℕ) (u : Bool) (w : Wait) → (three u w ≡ 1 + 4 * 16777216 + 4294967296 * k → ⊥) → (three u w ≡ 1 + 3 * 16777216 + 4294967296 * k → ⊥) → {x y : Bool} → x ≡ false → y ≡ false
    → (eqb (three u w) (1 + 4 * 16777216 + 4294967296 * k) ≡ x) × (eqb (three u w) (1 + 3 * 16777216 + 4294967296 * k) ≡ y)
others k u w f g p q = (apart (three u w) (1 + 4 * 16777216 + 4294967296 * k) f p, apart (three u w) (1 + 3 * 16777216 + 4294967296 * k) g q)

waits_tell : (k q : ℕ) → k < 256 → (u s : Bool) (w : Wait) → object_of w < 256
    → (eqb (three u w) (1 + 4 * 16777216 + 4294967296 * k) ≡ same (if u then wait_line w s q else nowhere) (waiters k))
    × (eqb (three u w) (1 + 3 * 16777216 + 4294967296 * k) ≡ same (if u then wait_line w s q else nowhere) (senders k))
waits_tell k q a false s w o = others k false w (λ e. omega arith) (λ e. omega arith) refl refl
waits_tell k q a true true (Nothing n) o = others k true (Nothing n) (λ e. omega arith) (λ e. omega arith) refl refl
waits_tell k q a true false (Nothing n) o = others k true (Nothing n) (λ e. omega arith) (λ e. omega arith) refl refl
waits_tell k q a true s (Delay n) o = others k true (Delay n) (λ e. omega arith) (λ e. omega arith) refl refl
waits_tell k q a true s (Receive n) o = others k true (Receive n) (λ e. omega arith) (λ e. omega arith) refl refl
waits_tell k q a true s (Send to n) o = (
  apart (three true (Send to n)) (1 + 4 * 16777216 + 4294967296 * k) (λ e. omega arith) refl,
  as_number to k (three true (Send to n)) (1 + 3 * 16777216 + 4294967296 * k) (λ e. omega arith) (λ e. omega arith),
)
waits_tell k q a true s (Semaphore on n) o = (
  as_number on k (three true (Semaphore on n)) (1 + 4 * 16777216 + 4294967296 * k) (λ e. omega arith) (λ e. omega arith),
  apart (three true (Semaphore on n)) (1 + 3 * 16777216 + 4294967296 * k) (λ e. omega arith) refl,
)

-- nobody has the mark of a line that no byte can name
none_beyond : (k q : ℕ) → 255 < k → q < 256 → (u s : Bool) (w : Wait) → object_of w < 256
    → (same (if u then wait_line w s q else nowhere) (ready k) ≡ false) × (same (if u then wait_line w s q else nowhere) (waiters k) ≡ false) × (same (if u then wait_line w s q else nowhere) (senders k) ≡ false)
none_beyond k q a b false s w o = (refl, refl, refl)
none_beyond k q a b true true (Nothing n) o = (refl, refl, refl)
none_beyond k q a b true false (Nothing n) o = (ne_eqb q k (omega arith), refl, refl)
none_beyond k q a b true s (Delay n) o = (refl, refl, refl)
none_beyond k q a b true s (Receive n) o = (refl, refl, refl)
none_beyond k q a b true s (Send to n) o = (refl, refl, ne_eqb to k (omega arith))
none_beyond k q a b true s (Semaphore on n) o = (refl, ne_eqb on k (omega arith), refl)

-- what a mark is, and that it asks the five bytes alone
marks_low : (l : Line) → ((mark_of l).mask < 2 ^ 40) × ((mark_of l).bytes < 2 ^ 40)
marks_low nowhere = (omega arith, omega arith)
marks_low (ready p) = elim (test (leb p 255)) [
  | is e ↦ rw e (omega arith, omega (arith, leb-true p 255 e))
  | isnt e ↦ rw e (omega arith, omega arith)
]
marks_low (waiters k) = elim (test (leb k 255)) [
  | is e ↦ rw e (omega arith, omega (arith, leb-true k 255 e))
  | isnt e ↦ rw e (omega arith, omega arith)
]
marks_low (senders i) = elim (test (leb i 255)) [
  | is e ↦ rw e (omega arith, omega (arith, leb-true i 255 e))
  | isnt e ↦ rw e (omega arith, omega arith)
]

module _ (t : Thread) (small : Small t) where
  wait_bytes : bit_and (standing t) 1099494850815 ≡ (kind_of t.wait + 256 * object_of t.wait) * 16777216 + bit t.used
  wait_bytes =
      let parts : standing t ≡ bit t.used + 256 * (t.priority + 256 * bit t.suspended) + 16777216 * (kind_of t.wait + 256 * object_of t.wait) = omega arith in
      ap (λ n. bit_and n 1099494850815) parts
      ∙ outer (bit t.used) (t.priority + 256 * bit t.suspended) (kind_of t.wait + 256 * object_of t.wait)
      (omega (arith, bit_low t.used)) (omega (arith, small.priority, bit_low t.suspended)) (omega (arith, kind_low t.wait, small.object))

  nobody_has : (n : ℕ) → eqb (bit_and n 0) 1 ≡ false
  nobody_has n = ap (λ x. eqb x 1) (and_zero_r n)

  stands_tells : (l : Line) → eqb (bit_and (standing t) (mark_of l).mask) (mark_of l).bytes ≡ in_line l t
  stands_tells nowhere = nobody_has (standing t) ∙ sym (same_nowhere (line t))
  stands_tells (ready p) = elim (test (leb p 255)) [
    | is e ↦ rw e (ap (λ x. eqb x (1 + 256 * p)) (all_five (standing t) (standing_low t small))
        ∙ ready_tells p t.priority (omega (arith, leb-true p 255 e)) small.priority t.used t.suspended t.wait small.object)
    | isnt e ↦ rw e (nobody_has (standing t) ∙ sym (none_beyond p t.priority (leb-false p 255 e) small.priority t.used t.suspended t.wait small.object).0)
  ]
  stands_tells (waiters k) = elim (test (leb k 255)) [
    | is e ↦ rw e (ap (λ x. eqb x (1 + 4 * 16777216 + 4294967296 * k)) wait_bytes
        ∙ (waits_tell k t.priority (omega (arith, leb-true k 255 e)) t.used t.suspended t.wait small.object).0)
    | isnt e ↦ rw e (nobody_has (standing t) ∙ sym (none_beyond k t.priority (leb-false k 255 e) small.priority t.used t.suspended t.wait small.object).1)
  ]
  stands_tells (senders i) = elim (test (leb i 255)) [
    | is e ↦ rw e (ap (λ x. eqb x (1 + 3 * 16777216 + 4294967296 * i)) wait_bytes
        ∙ (waits_tell i t.priority (omega (arith, leb-true i 255 e)) t.used t.suspended t.wait small.object).1)
    | isnt e ↦ rw e (nobody_has (standing t) ∙ sym (none_beyond i t.priority (leb-false i 255 e) small.priority t.used t.suspended t.wait small.object).2)
  ]

  pub line_tells : (l : Line) → eqb (bit_and (head_of t) (mark_of l).mask) (mark_of l).bytes ≡ in_line l t
  line_tells l =
      ap (λ x. eqb x (mark_of l).bytes) (masked (t.place + 256 * (bit t.full + 256 * outcome_byte t.outcome)) (standing t) (mark_of l).mask (standing_low t small) (marks_low l).0)
      ∙ stands_tells l

  -- the place stands in bits of its own
  pub first_tells : (l : Line) → eqb (bit_and (head_of t) (first_mark l).mask) (first_mark l).bytes ≡ is_first l t
  first_tells l =
      let behind = t.place + 256 * (bit t.full + 256 * outcome_byte t.outcome) in
      let m = (mark_of l).mask in
      let low = marks_low l in
      let five = bit_and (standing t) m in
      let own : bit_and behind 255 ≡ t.place = and_mask behind 8 ∙ omega (arith, small.place) in
      let mask : m + 255 * 1099511627776 ≡ 255 * 2 ^ 40 + m = omega arith in
      let both : bit_and (head_of t) (m + 255 * 1099511627776) ≡ t.place * 1099511627776 + five =
      ap (bit_and (head_of t)) mask ∙ and_block 40 behind 255 (standing t) m (standing_low t small) low.0 ∙ ap (λ p. p * 1099511627776 + five) own in
      ap (λ x. eqb x ((mark_of l).bytes + 1099511627776)) both
      ∙ digits five (mark_of l).bytes t.place (omega (arith, and_le_l (standing t) m, standing_low t small)) low.1
      ∙ ap (λ x. x && eqb t.place 1) (stands_tells l)
    where
      digits : (x b q : ℕ) → x < 2 ^ 40 → b < 2 ^ 40 → eqb (q * 1099511627776 + x) (b + 1099511627776) ≡ eqb x b && eqb q 1
      digits x b q h k = elim (test (eqb x b)) [
        | is e ↦ rw e (as_number q 1 (q * 1099511627776 + x) (b + 1099511627776) (λ d. omega (arith, eqb-true x b e)) (λ d. omega (arith, eqb-true x b e)))
        | isnt e ↦ rw e (ne_eqb (q * 1099511627776 + x) (b + 1099511627776) (λ d. eqb-false x b e (omega arith)))
      ]

-- THE MARK OF A NUMBER

-- an object that no byte can name
pub beyond : (l : Line) (n : ℕ) → n ≡ line_number l → 255 < (n - 1) / 3 → nobody ≡ mark_of l
beyond nowhere n e h = refl
beyond (ready p) n e h = rw (lt-leb p 255 (omega arith))
beyond (waiters k) n e h = rw (lt-leb k 255 (omega arith))
beyond (senders i) n e h = rw (lt-leb i 255 (omega arith))

-- THE RECORD

-- a record's first eight bytes are what the thread that it says has there
module _ {t : List ℕ} {s : State} (holds : Holds t s) (byte : (k : ℕ) → get_or t k 0 < 256) (i : ℕ) (inside : HasThread t i) where
  field : (k : ℕ) → k < record_length → get_or t (i * record_length + k) 0 ≡ get_or (thread_row (at s.threads i)) k 0
  unfolding encode
  field k h = ap (λ l. get_or l (i * record_length + k) 0) holds.bytes ∙ thread_byte (holds_on holds) (ready_word s.threads) i k ((has_thread (holds_whole holds).long i).0 inside) h

  pub small : Small (at s.threads i)
  unfolding thread_row
  small = record {
    priority = omega (arith, byte (i * record_length + 1), field 1 (omega arith));
    object = omega (arith, byte (i * record_length + 4), field 4 (omega arith));
    place = omega (arith, byte (i * record_length + 5), field 5 (omega arith));
  }

  pub head_said : long_at t (i * record_length) ≡ head_of (at s.threads i)
  unfolding thread_row
  head_said =
      let base = i * record_length in
      let zero-th : get_or t base 0 ≡ bit (at s.threads i).used = rw add-zero at (field 0 (omega arith)) in
      let later : (k : ℕ) → 4 + k < record_length → get_or t (base + 4 + k) 0 ≡ get_or (thread_row (at s.threads i)) (4 + k) 0 =
      λ k h. let e : base + 4 + k ≡ base + (4 + k) = omega arith in rw e (field (4 + k) h) in
      omega (arith, zero-th, field 1 (omega arith), field 2 (omega arith), field 3 (omega arith), field 4 (omega arith), later 1 (omega arith), later 2 (omega arith), later 3 (omega arith))

  -- whatever mark a line has, it tells of the record
  pub line_known : {m : Mark} (l : Line) → m ≡ mark_of l → eqb (bit_and (long_at t (i * record_length)) m.mask) m.bytes ≡ in_line l (at s.threads i)
  line_known l e = rw (e, head_said) (line_tells (at s.threads i) small l)

  pub first_known : {m : Mark} (l : Line) → m ≡ first_mark l → eqb (bit_and (long_at t (i * record_length)) m.mask) m.bytes ≡ is_first l (at s.threads i)
  first_known l e = rw (e, head_said) (first_tells (at s.threads i) small l)
