-- `lines::exponent` meets its contract: a power of 2 has its one bit right below its leading zeros. Assumes nothing.
use borrow.Author.Rules.{rules}
use Rattle.lines.proofs.Powers.{exponent_is}
use Rattle.lines.proofs.exponent.Goals as goal

pub returns : goal.returns
returns c = (exponent_is c.args.power c.requires (search rules)).1
