-- `text::put_digits` meets its contract: what it puts is by then the digits before the last, and the last. Assumes nothing.
use native.Mathlib.Omega.{arith}
use mathlib.Core.Path.{sym, ap, ◌∙◌}
use mathlib.Core.List.{[], ◌∷◌, ◌++◌}
use Prim.Native.Nat.{◌+◌, ◌%◌}
use Rattle.std.proofs.lemmas.List.{take_more_set}
use Rattle.text.proofs.Decimal.{decimal_one, decimal_more, length_one, length_more}
use Rattle.text.proofs.Room.{room_64}
use Rattle.text.proofs.+put_digits.Goals as goal

pub bounds-digits-last : goal.bounds-digits-last
bounds-digits-last t c = omega (arith, room_64 c.ranges.n, length_more c.args.n c.if-n-lt10.false, c.put_digits-last.ensures.value)

pub returns-then-n-lt10-clause-value : goal.returns-then-n-lt10-clause-value
returns-then-n-lt10-clause-value t c = sym (length_one c.args.n c.if-n-lt10.true)

pub returns-then-n-lt10-clause-digits : goal.returns-then-n-lt10-clause-digits
returns-then-n-lt10-clause-digits t c = take_more_set c.args.digits.now 0 (48 + c.args.n) (omega (arith, c.told-digits)) ∙ sym (decimal_one c.args.n c.if-n-lt10.true)

pub returns-else-n-lt10-clause-value : goal.returns-else-n-lt10-clause-value
returns-else-n-lt10-clause-value t c = omega (arith, length_more c.args.n c.if-n-lt10.false, c.put_digits-last.ensures.value)

pub returns-else-n-lt10-clause-digits : goal.returns-else-n-lt10-clause-digits
returns-else-n-lt10-clause-digits t c =
    let before = c.put_digits-last in
    take_more_set before.new.digits before.result (48 + c.args.n % 10)
    (omega (arith, room_64 c.ranges.n, length_more c.args.n c.if-n-lt10.false, before.ensures.value, before.array_long))
    ∙ ap (λ l. l ++ (48 + c.args.n % 10) ∷ []) before.ensures.digits ∙ sym (decimal_more c.args.n c.if-n-lt10.false)
