-- `lines::leave` meets its contract: the place is cleared and the gap closed by the line and the place that the thread had. Assumes nothing.
use mathlib.Core.Path.{ap, sym, ◌∙◌}
use Rattle.rules.specs.Lines.{line, line_length}
use Rattle.rules.specs.State.{edit, with_place, with_threads}
use Rattle.laws.proofs.Placed.{count_nowhere}
use Rattle.layout.proofs.Held.{◌⨾◌, becomes_as, whole_says}
use Rattle.marks.specs.Named.{named}
use Rattle.lines.proofs.Standing.{placed_length, gap_closed, no_gap}
use Rattle.lines.proofs.leave.Goals as goal

pub returns-in-Some : goal.returns-in-Some
returns-in-Some c =
    let i = c.args.i in
    let th = c.load_thread-th in
    let set = c.set_place.ensures in
    let gap = c.close_gap.ensures in record {
      count = λ s e. gap.count (with_threads (edit i (with_place 0) s.threads) s) (set.holds s (whole_says c.requires.1 e))
          ∙ placed_length i 0 (named c.in-Some.line) s.threads ∙ ap (λ l. line_length l s.threads) (c.in-Some.ensures ∙ ap line (th.ensures s e));
      table = becomes_as (set ⨾ gap.table) (λ s h. ap (λ ts. with_threads ts s) (gap_closed i s.threads (th.ensures s h.says) c.in-Some.ensures));
    }

pub returns-in-None : goal.returns-in-None
returns-in-None c =
    let th = c.load_thread-th in record {
      count = λ s e. sym (count_nowhere s.threads) ∙ ap (λ l. line_length l s.threads) (c.in-None.ensures ∙ ap line (th.ensures s e));
      table = becomes_as c.set_place.ensures (λ s h. ap (λ ts. with_threads ts s) (no_gap c.args.i s.threads (th.ensures s h.says) c.in-None.ensures));
    }
