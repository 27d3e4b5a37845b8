-- The rules' line that a line in code is.
use Rattle.std.specs.Prelude.{Option, Some, None}
use Rattle.rules.specs.Lines as rules
use Rattle.marks.specs.declared.Line.{Line}
use Rattle.marks.specs.declared.Line.TheVariants.{Ready, Waiters, Senders}

abbrev pub named : Line → rules.Line
named (Ready priority) = rules.ready priority
named (Waiters semaphore) = rules.waiters semaphore
named (Senders thread) = rules.senders thread

-- where there may be none
abbrev pub named_or_nowhere : Option Line → rules.Line
named_or_nowhere None = rules.nowhere
named_or_nowhere (Some line) = named line
