-- `lines::first_if_any` meets its contract: the threads are asked in their order. Assumes nothing.
use Rattle.std.proofs.Common.{rules}
use Rattle.std.proofs.lemmas.Iterator.{first_from_Range}
use mathlib.Core.Bool.{true, false}
use mathlib.Core.Path.{◌≡◌, refl, sym}
use native.Mathlib.Omega.{arith}
use Rattle.rules.specs.Lines.{Line, is_first}
use Rattle.rules.specs.State.{State, at}
use Rattle.layout.specs.Held.{said, Holds}
use Rattle.layout.proofs.Boards.{sized}
use Rattle.layout.proofs.Held.{whole_says}
use Rattle.marks.specs.Marks.{first_mark}
use Rattle.marks.specs.Named.{named}
use Rattle.lines.proofs.First.{first_found, first_inside}
use Rattle.lines.proofs.first_if_any.Goals as goal
use Rattle.lines.proofs.first_if_any.Goals.{After-find}
use Rattle.lines.specs.First.{first_if_any}

found : (c : After-find) (s : State) → said c.args.t.now ≡ s → c.find.result ≡ first_if_any (named c.args.line) s.threads
found c s e =
    let l = named c.args.line in
    first_found l s.threads c.threads-threads.result c.find.result (omega (arith, c.threads-threads.ensures, (sized c.requires.long e).threads))
    (first_from_Range _ _ _ _ (λ i. is_first l (at s.threads i) ≡ true) (λ i. is_first l (at s.threads i) ≡ false) c.find.ensures.ran
    (λ x q k. let d : (s : State) (l : Line) → Holds c.args.t.now s → c.first_mark-m.result ≡ first_mark l → true ≡ is_first l (at s.threads x) = search rules in sym (d s l (whole_says c.requires e) c.first_mark-m.ensures))
    (λ x q k. let d : (s : State) (l : Line) → Holds c.args.t.now s → c.first_mark-m.result ≡ first_mark l → false ≡ is_first l (at s.threads x) = search rules in (search rules, sym (d s l (whole_says c.requires e) c.first_mark-m.ensures))))

pub returns : goal.returns
returns c = let first = found (goal.at.returns c).After-find in record { thread = first_inside c.requires.long (named c.args.line) c.find.result (first (said _) refl); first = first }
