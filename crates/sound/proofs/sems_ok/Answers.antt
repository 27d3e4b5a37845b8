-- `sound::sems_ok` meets its contract: all semaphores pass. Assumes nothing.
use mathlib.Core.Path.{◌≡◌, refl, ap, ◌∙◌}
use native.Mathlib.Omega.{arith}
use Rattle.std.proofs.Common.{rules}
use Rattle.rules.specs.Basic.{all_below}
use Rattle.layout.specs.Held.{board}
use Rattle.layout.proofs.Boards.{counted}
use Rattle.std.proofs.lemmas.Iterator.{YieldsList-from_range}
use Rattle.std.proofs.lemmas.Iterator.Search.{all_from_yields_List}
use Rattle.sound.specs.Tested.{sem_test}
use Rattle.sound.proofs.Range.{below_range}
use Rattle.sound.proofs.sems_ok.Goals as goal

pub returns : goal.returns
returns c s e =
    let n = c.semaphores.result in
    let all : n ≡ (board c.args.t.now).sems = omega (arith, c.semaphores.ensures, (counted _ c.requires).sems) in
    all_from_yields_List (sem_test c.args.t.now s) _ _ c.all.result c.all.ensures.ran (YieldsList-from_range 0 n n refl (omega arith)) (λ x b q k. search (rules, e))
    ∙ below_range n (sem_test c.args.t.now s) ∙ ap (λ n. all_below n (sem_test c.args.t.now s)) all
