use Rattle.std.proofs.Common.{rules, length, ap, arith}
use Rattle.buffer.proofs.Place.{fewer_by_text}
use Rattle.buffer.proofs.Buffer.extend.Goals as goal

pub invariant_of-self : goal.invariant_of-self
invariant_of-self g c = (search rules, search (fewer_by_text, c.self.invariant.1, ap length c.copy_from_slice.ensures.after, c.self.told, c.self.invariant.0, arith))
