-- A line in code is that of the rules and of nothing else: two that are the same line there are the same. Assumes nothing.
use mathlib.Core.Path.{◌≡◌, refl, ap, sym, ◌∙◌}
use Rattle.std.specs.Prelude.{Option, Some, None}
use Rattle.rules.specs.Lines as rules
use Rattle.marks.specs.Named.{named_or_nowhere}
use Rattle.marks.specs.declared.Line.{Line}
use Rattle.marks.specs.declared.Line.TheVariants.{Ready, Waiters, Senders}

abbrev coded : rules.Line → Option Line
coded rules.nowhere = None
coded (rules.ready p) = Some (Ready p)
coded (rules.waiters k) = Some (Waiters k)
coded (rules.senders i) = Some (Senders i)

coded_named : (line : Option Line) → coded (named_or_nowhere line) ≡ line
coded_named None = refl
coded_named (Some (Ready priority)) = refl
coded_named (Some (Waiters semaphore)) = refl
coded_named (Some (Senders thread)) = refl

pub one_line : {a b : Option Line} → named_or_nowhere a ≡ named_or_nowhere b → a ≡ b
one_line {a} {b} e = sym (coded_named a) ∙ ap coded e ∙ coded_named b
