-- `text::put_small` meets its contract: a digit, or two. Assumes nothing.
use borrow.Author.Rules.{rules}
use native.Mathlib.Omega.{arith}
use mathlib.Core.Path.{sym, ap, ◌∙◌}
use mathlib.Core.List.{[], ◌∷◌, ◌++◌, append_assoc}
use Prim.Native.Nat.{◌+◌, ◌/◌, ◌%◌}
use lib.ListN.{length-append}
use Rattle.text.proofs.Decimal.{decimal_one, two_digits, length_one, length_two}
use Rattle.text.proofs.put_small.Goals as goal

pub push-requires : goal.push-requires
push-requires g c = (search rules, omega (arith, length_one c.args.n c.if-n-lt10.true, c.requires.1))

pub returns-then-n-lt10 : goal.returns-then-n-lt10
returns-then-n-lt10 g c = c.push.ensures ∙ ap (λ l. c.args.out.now ++ l) (sym (decimal_one c.args.n c.if-n-lt10.true))

pub push-requires-2 : goal.push-requires-2
push-requires-2 g c = (search rules, omega (arith, length_two c.args.n c.requires.0 c.if-n-lt10.false, c.requires.1))

pub push-requires-3 : goal.push-requires-3
push-requires-3 g c = (search rules, grind (arith, length-append, length_two c.args.n c.requires.0 c.if-n-lt10.false, c.requires.1, c.push-2.ensures))

pub returns : goal.returns
returns g c =
    let n = c.args.n in
    rw (c.push-3.ensures, c.push-2.ensures, two_digits n c.requires.0 c.if-n-lt10.false) (append_assoc c.args.out.now ((48 + n / 10) ∷ []) ((48 + n % 10) ∷ []))
