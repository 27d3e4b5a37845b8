-- `waiting::serve_first` meets its contract: the wait of the line's first thread ends, and where it has none, no wait ends. Assumes nothing.
use mathlib.Core.Path.{sym, ap}
use Rattle.rules.specs.Waiting.{end_wait, serve}
use Rattle.rules.specs.State.{with_threads}
use Rattle.layout.proofs.Held.{becomes_as, becomes_same}
use Rattle.marks.specs.Named.{named}
use Rattle.lines.proofs.First.{first_some, first_none}
use Rattle.waiting.proofs.Waits.{end_out}
use Rattle.waiting.proofs.serve_first.Goals as goal

pub returns-in-Some : goal.returns-in-Some
unfolding serve
returns-in-Some c = becomes_as c.end_wait.ensures (λ s h. ap (λ i. with_threads (end_wait i c.args.outcome 0 s.threads) s) (first_some (named c.args.line) s.threads (c.in-Some.ensures.first s h.says)).0)

pub returns-in_default : goal.returns-in_default
unfolding serve
returns-in_default c = becomes_same c.requires (λ s h. ap (λ ts. with_threads ts s) (sym (end_out _ c.args.outcome 0 s.threads (first_none (named c.args.line) s.threads (c.in_default.ensures.first s h.says)))))
