-- `writer::lent::put_at` meets its contract: a copy into a place is a store. Assumes nothing.
use native.Mathlib.Omega.{arith}
use mathlib.Core.Path.{◌∙◌}
use Prim.Native.Nat.{◌+◌, ◌-◌}
use Rattle.writer.proofs.Stored.{copied}
use Rattle.writer.proofs.lent.put_at.Goals as goal

pub returns : goal.returns
returns g c =
    copied c.args.out.now c.args.at (c.args.at + c.len.result - c.args.at) (omega (arith, c.requires)) (c.copy_from_slice.ensures.after ∙ c.as_slice.ensures) (omega (arith, c.len.ensures.value))
    (omega (arith, c.len.ensures.value))
