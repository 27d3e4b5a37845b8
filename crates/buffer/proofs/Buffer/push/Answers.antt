use Rattle.std.proofs.Common.{rules}
use Rattle.buffer.proofs.Place.{fewer_by_one}
use Rattle.buffer.proofs.Buffer.push.Goals as goal

pub invariant_of-self : goal.invariant_of-self
invariant_of-self g c = (search rules, search (rules, fewer_by_one, c.self.invariant.1))
