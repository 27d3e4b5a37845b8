-- `places::misplaced_at` meets its contract: what the thread asks of the ring is what is counted and what is found. Assumes nothing.
use Prim.Native.Nat.{◌+◌}
use native.Mathlib.Omega.{arith}
use lib.ListN.{get_or}
use Rattle.places.specs.Rings.{half}
use Rattle.places.proofs.Ring.{part_count, part_free}
use Rattle.places.proofs.misplaced_at.Goals as goal

pub returns : goal.returns
returns c =
    let asked = c.misplaced.ensures in
    let lines = c.args.lines.now in
    let own = get_or lines (c.args.j + c.args.n) 0 in
    let counted = part_count c.args.j c.args.n lines own (omega (arith, c.requires.1)) in
    let taken = part_free (c.args.j + half c.args.n) (half c.args.n) lines c.args.places.now own (get_or c.args.places.now (c.args.j + c.args.n) 0) (omega (arith, c.requires.1)) in (
      λ e. let h = asked.0 e in record {
        nowhere = h.0;
        low = λ n. (h.1 n).0;
        high = λ n. omega (arith, (h.1 n).1, c.length_of-length.ensures, counted);
        alone = λ n. taken.0 (c.shared-taken.ensures.0 (h.1 n).2);
      },
      λ w. asked.1 (w.nowhere, λ n. (w.low n, omega (arith, w.high n, c.length_of-length.ensures, counted), c.shared-taken.ensures.1 (taken.1 (w.alone n)))),
    )
