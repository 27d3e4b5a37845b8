-- `kernel::serve` meets its contract: a sound table can be served, and a step on it is what the door says. Assumes nothing.
use Rattle.std.specs.Prelude.{Some}
use mathlib.Core.Bool.{true, ◌&&◌}
use mathlib.Core.Path.{◌≡◌, sym, ap, ◌∙◌}
use mathlib.Core.List.{List}
use Prim.Native.Nat.{ℕ}
use mir.Syntax.{w32}
use mir.ValLaws.{to_z-of_z}
use lib.Dec.{eqb}
use lib.ListN.{length}
use Rattle.rules.specs.Answers.{Answer, area_length}
use Rattle.rules.specs.Test.{sound_table}
use Rattle.rules.specs.Steps.{step}
use Rattle.rules.specs.Door.{answered, serve_decoded, door}
use Rattle.rules.specs.declared.Request.{Request}
use Rattle.waiting.specs.Does.{Serves, Does}
use Rattle.waiting.proofs.Doing.{sound_serves}
use Rattle.laws.proofs.Split.{and_true}
use Rattle.laws.proofs.Tested.{tested_table}
use Rattle.layout.specs.Held.{board, said}
use Rattle.layout.proofs.Held.{whole_holds}
use Rattle.kernel.proofs.serve.Goals as goal

-- a table that passes the test can be served
can_be_served : (t a : List ℕ) → (eqb (length a) area_length && sound_table (board t) t) ≡ true → Serves t
can_be_served t a e = sound_serves t ((tested_table (board t) t).0 (and_true (eqb (length a) area_length) (sound_table (board t) t) e).1)

-- what a step makes of it and answers is what the door says
served : (t : List ℕ) (q : Request) {t' : List ℕ} {a : Answer} → Serves t → Does t t' a (λ s. step s q) → answered t' a ≡ serve_decoded (board t) t (Some q)
unfolding serve_decoded said
served t q v d = let h = whole_holds v.whole in λ j. answered ((d.holds (said t) h).bytes j) (d.answer (said t) h j)

pub step-given-requires : goal.step-given-requires
step-given-requires c = can_be_served _ c.args.answer.now c.requires

pub returns : goal.returns
unfolding door
returns c =
    let can = c.requires in
    let asked = sym c.decode.ensures ∙ c.in-Some.is in
    let d = served _ _ (can_be_served _ c.args.answer.now c.requires) c.step-given.ensures in
    let k = c.code in record {
      code = rw (can, asked) (to_z-of_z w32 k.result (record { sfits = k.type_inv }) ∙ k.ensures ∙ ap (λ x. x.code) d);
      table = rw (can, asked) (ap (λ x. x.table) d);
      area = rw (can, asked) (c.put_answer-2.ensures ∙ ap (λ x. x.area) d);
    }
