-- `sound::sound` meets its contract: each part that fails decides, and else the last one does. Assumes nothing.
use mathlib.Core.Path.{refl, sym, ◌∙◌}
use native.Mathlib.Omega.{arith}
use Rattle.laws.proofs.Split.{clash, pass_together}
use Rattle.sound.proofs.Parts.{sound_whole, sound_parts, parts_sound, unsound}
use Rattle.sound.proofs.sound.Goals.{then-is_long, else-is_long, then-kernel_canon, else-kernel_canon, then-sems_ok, else-sems_ok}
use Rattle.sound.proofs.sound.Goals as goal

pub returns-then-init_ok : goal.returns-then-init_ok
returns-then-init_ok c = elim c.if-sems_ok.branch [
  | else-sems_ok w ↦ absurd (clash c.if-init_ok.true (w.value-is ∙ w.if-sems_ok.false))
  | then-sems_ok w ↦ elim c.if-kernel_canon.branch [
    | else-kernel_canon v ↦ absurd (clash w.if-sems_ok.true (v.value-is ∙ v.if-kernel_canon.false))
    | then-kernel_canon v ↦ elim c.if-is_long.branch [
      | else-is_long u ↦ absurd (clash v.if-kernel_canon.true (u.value-is ∙ u.if-is_long.false))
      | then-is_long u ↦
          let t = c.args.t.now in
          let runs = c.runs_ok.ensures _ refl in
          pass_together _ _ (
            λ e. parts_sound t (λ k. omega (arith, c.type_inv.t k)) (record {
              long = c.is_long.ensures.0 u.if-is_long.true;
              kernel = sym (u.value-is ∙ u.kernel_canon.ensures) ∙ v.if-kernel_canon.true;
              sems = sym (v.value-is ∙ v.sems_ok.ensures _ refl) ∙ w.if-sems_ok.true;
              init = sym (w.value-is ∙ w.init_ok.ensures _ refl) ∙ c.if-init_ok.true;
              runs = runs.passed e;
            }),
            λ e. runs.passes (sound_whole t e) (sound_parts t e).runs,
          )
    ]
  ]
]

pub returns-else-init_ok : goal.returns-else-init_ok
returns-else-init_ok c = c.if-init_ok.false ∙ unsound _ (λ p. elim c.if-sems_ok.branch [
  | then-sems_ok w ↦ clash p.init (sym (w.value-is ∙ w.init_ok.ensures _ refl) ∙ c.if-init_ok.false)
  | else-sems_ok w ↦ elim c.if-kernel_canon.branch [
    | then-kernel_canon v ↦ clash p.sems (sym (v.value-is ∙ v.sems_ok.ensures _ refl) ∙ w.if-sems_ok.false)
    | else-kernel_canon v ↦ elim c.if-is_long.branch [
      | then-is_long u ↦ clash p.kernel (sym (u.value-is ∙ u.kernel_canon.ensures) ∙ v.if-kernel_canon.false)
      | else-is_long u ↦ clash (c.is_long.ensures.1 p.long) u.if-is_long.false
    ]
  ]
])
