-- `lines::close_gap` meets its contract: before turn j the first j threads have moved up, and the power is that of how many of them stand in
-- the line. Assumes nothing.
use mathlib.Core.Path.{refl, ap, ◌∙◌}
use native.Mathlib.Nat.{pow-suc}
use native.Mathlib.Numerals.{add-one}
use native.Mathlib.Omega.{arith}
use lib.Seq.{take_all}
use lib.ListN.{take}
use Rattle.rules.specs.Basic.{count}
use Rattle.rules.specs.Lines.{in_line, move_up}
use Rattle.rules.specs.State.{free, with_threads}
use Rattle.laws.proofs.Turns.{map_to, map_to_none, map_to_next, map_to_turn, map_to_all}
use Rattle.layout.proofs.Held.{◌⨾◌, becomes_as, becomes_same, holds_sized}
use Rattle.marks.specs.Named.{named}
use Rattle.lines.proofs.Powers.{counted_turn}
use Rattle.lines.proofs.close_gap.Goals as goal

pub loop-j-init : goal.loop-j-init
loop-j-init c = (
  omega arith,
  omega arith,
  omega arith,
  c.requires,
  refl,
  λ s h. refl,
  becomes_same c.requires (λ s h. ap (λ ts. with_threads ts s) (map_to_none (move_up (named c.args.line) c.args.place) s.threads)),
)

pub loop-j-preserved : goal.loop-j-preserved
loop-j-preserved c =
    let l = named c.args.line in
    let q = c.args.place in
    let j = c.loop-j.j in
    let turn = c.move_up-power.ensures in
    let before = c.loop-j.invariant in
    let mark = c.line_mark-m.ensures in (
      omega arith,
      omega (arith, turn.bounds.0, before.1),
      rw add-one (omega (arith, turn.bounds.1, before.2, pow-suc 2 j)),
      turn.whole,
      omega (arith, c.move_up-power.auto, before.4),
      λ s h. turn.count (with_threads (map_to (move_up l q) j s.threads) s) l (before.6.holds s h) mark
          ∙ counted_turn (in_line l) s.threads j (omega (arith, c.threads-threads.ensures, (holds_sized h).threads)) (before.5 s h) (ap (in_line l) (map_to_next (move_up l q) j s.threads free)),
      becomes_as (before.6 ⨾ turn.table l mark)
          (λ s h. ap (λ ts. with_threads ts s) (map_to_turn (move_up l q) j s.threads free (omega (arith, c.threads-threads.ensures, (holds_sized h).threads)))),
    )

pub returns : goal.returns
returns c =
    let l = named c.args.line in
    let q = c.args.place in
    let j = c.loop-j.j in
    let after = c.loop-j.invariant in record {
      count = λ s h. c.exponent.ensures (count (in_line l) (take j s.threads)) (after.5 s h)
          ∙ ap (count (in_line l)) (take_all j s.threads (omega (arith, c.threads-threads.ensures, (holds_sized h).threads)));
      table = becomes_as after.6 (λ s h. ap (λ ts. with_threads ts s) (map_to_all (move_up l q) j s.threads (omega (arith, c.threads-threads.ensures, (holds_sized h).threads))));
    }
