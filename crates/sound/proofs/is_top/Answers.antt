-- `sound::is_top` meets its contract: a word has one highest bit, and 0 has none. Assumes nothing.
use mathlib.Core.Path.{◌≡◌}
use native.Mathlib.Omega.{arith}
use borrow.Author.Tests.{eq-eqb, eqb-true}
use Rattle.laws.proofs.Word.{power_low}
use Rattle.sound.proofs.is_top.Goals as goal

pub returns-then-word-ne0 : goal.returns-then-word-ne0
returns-then-word-ne0 c =
    let w = c.args.word in
    let p = c.args.priority in
    let r = c.highest.result in
    let top = c.highest.ensures in (
      λ e. let same : r ≡ p = eqb-true r p e in rw (← same) (top.1, top.2),
      λ h. eq-eqb r p (omega (arith, power_low w p r h.0 top.2, power_low w r p top.1 h.1)),
    )
