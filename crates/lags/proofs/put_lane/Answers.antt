-- `lags::put_lane` meets its contract: the parts of the line are put one behind the other, and none is longer than its share of the room.
-- Assumes nothing.
use borrow.Author.Rules.{rules}
use mathlib.Core.Bool.{true, false}
use mathlib.Core.Path.{◌≡◌, refl, sym, ap, ◌∙◌}
use mathlib.Core.List.{List, [], ◌∷◌, ◌++◌, append_assoc, append-nil}
use Prim.Native.Nat.{ℕ, ◌+◌, ◌<◌, ◌≤◌}
use native.Mathlib.Omega.{arith}
use borrow.Author.Tests.{not-true, not-false}
use lib.ListN.{length, length-append}
use mir.Syntax.{w64}
use mir.ValLaws.{to_z-of_z}
use Rattle.rules.specs.Board.{printer}
use Rattle.rules.specs.declared.Thread.{Thread}
use Rattle.rules.specs.State.{State, at}
use Rattle.rules.specs.Table.{decode}
use Rattle.layout.proofs.Boards.{said_printer}
use Rattle.text.specs.Text.{decimal, signed}
use Rattle.text.proofs.Decimal.{decimal_room}
use Rattle.text.proofs.Sign.{read}
use Rattle.lanes.specs.Lag.{lag}
use Rattle.lanes.specs.Report.{lane_line, lane_of}
use Rattle.lanes.specs.Kept.{Within, of}
use Rattle.lags.proofs.put_lane.Goals as goal

-- the thread's number, and the ticks charged to it
number : (i : ℕ) → i < printer.threads → length (decimal i) ≤ 2
number i h = decimal_room 1 (omega (arith, h))

charges : (i : ℕ) (ns : List ℕ) → Within 0 ns → length (decimal (of ns i)) ≤ 11
charges i ns k = decimal_room 10 (omega (arith, k i))

-- two fields, the lag and a line feed, put one behind the other: how long they are, and that they are one text
module _ (l l₁ l₂ l₃ l₄ a b own : List ℕ) (p : l₁ ≡ l ++ (a ++ 32 ∷ [])) (q : l₂ ≡ l₁ ++ (b ++ 32 ∷ [])) (r : l₃ ≡ l₂ ++ own) (t : l₄ ≡ l₃ ++ 10 ∷ []) where
  long : length l₄ ≡ length l + length a + length b + length own + 3
  long = grind (arith, length-append, p, q, r, t)

  one_text : l₄ ≡ l ++ (a ++ 32 ∷ [] ++ b ++ 32 ∷ [] ++ own ++ 10 ∷ [])
  one_text = grind (arith, append_assoc, p, q, r, t)

-- the line of a thread that is in use
used_line : (f : ℕ → ℕ) (s : State) (i : ℕ) (t : Thread) → t.used ≡ true → lane_of f s i t ≡ lane_line i (f i) (lag f s i)
used_line f s i t e = rw e refl

pub returns-then-not-th-clause-line : goal.returns-then-not-th-clause-line
returns-then-not-th-clause-line g c =
    let s = decode printer c.args.table.now in
    let unused : (at s.threads c.args.i).used ≡ false = ap (λ t. t.used) (sym (c.load_thread-th.ensures _ (said_printer _ c.told-table))) ∙ not-true _ c.if-not-th.true in
    rw unused (sym (append-nil c.args.out.now))

pub put_field-requires : goal.put_field-requires
put_field-requires g c = (search rules, omega (arith, number c.args.i c.requires.i_lt_threads, c.requires.lane_room_in_bounds))

pub put_field-requires-2 : goal.put_field-requires-2
put_field-requires-2 g c =
    (search rules, grind (arith, length-append, c.put_field.ensures, number c.args.i c.requires.i_lt_threads, charges c.args.i c.args.accounts.now c.requires.within, c.requires.lane_room_in_bounds))

pub put_signed-requires : goal.put_signed-requires
put_signed-requires g c =
    let digits : length (signed (read c.lag_of-own.result)) ≤ 19 = rw (to_z-of_z w64 c.lag_of-own.result (record { sfits = c.lag_of-own.type_inv })) c.lag_of-own.ensures.room in
    let i = number c.args.i c.requires.i_lt_threads in
    (search rules, grind (arith, length-append, c.put_field.ensures, c.put_field-2.ensures, digits, i, charges c.args.i c.args.accounts.now c.requires.within, c.requires.lane_room_in_bounds))

pub push-requires : goal.push-requires
push-requires g c =
    let digits : length (signed (read c.lag_of-own.result)) ≤ 19 = rw (to_z-of_z w64 c.lag_of-own.result (record { sfits = c.lag_of-own.type_inv })) c.lag_of-own.ensures.room in
    let line = long c.args.out.now _ _ c.put_signed.new.out _ (decimal c.args.i) (decimal (of c.args.accounts.now c.args.i)) (signed (read c.lag_of-own.result)) c.put_field.ensures c.put_field-2.ensures c.put_signed.ensures refl in
    (search rules, omega (arith, line, length-append c.put_signed.new.out (10 ∷ []), digits, number c.args.i c.requires.i_lt_threads, charges c.args.i c.args.accounts.now c.requires.within, c.requires.lane_room_in_bounds))

pub returns-clause-line : goal.returns-clause-line
returns-clause-line g c =
    let i = c.args.i in
    let s = decode printer c.args.table.now in
    let used : (at s.threads i).used ≡ true = ap (λ t. t.used) (sym (c.load_thread-th.ensures _ (said_printer _ c.told-table))) ∙ not-false _ c.if-not-th.false in
    let same = to_z-of_z w64 c.lag_of-own.result (record { sfits = c.lag_of-own.type_inv }) in
    one_text _ _ _ _ _ (decimal i) (decimal (of c.args.accounts.now i)) (signed (lag (of c.args.accounts.now) s i)) c.put_field.ensures c.put_field-2.ensures
    (rw (same, c.lag_of-own.ensures.value) at c.put_signed.ensures) c.push.ensures
    ∙ ap (λ l. c.args.out.now ++ l) (sym (used_line (of c.args.accounts.now) s i (at s.threads i) used))

pub returns-clause-room : goal.returns-clause-room
returns-clause-room g c =
    let digits : length (signed (read c.lag_of-own.result)) ≤ 19 = rw (to_z-of_z w64 c.lag_of-own.result (record { sfits = c.lag_of-own.type_inv })) c.lag_of-own.ensures.room in
    let line = long c.args.out.now _ _ _ c.push.new.self (decimal c.args.i) (decimal (of c.args.accounts.now c.args.i)) (signed (read c.lag_of-own.result)) c.put_field.ensures c.put_field-2.ensures c.put_signed.ensures c.push.ensures in
    omega (arith, line, digits, number c.args.i c.requires.i_lt_threads, charges c.args.i c.args.accounts.now c.requires.within)
