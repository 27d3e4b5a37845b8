-- `ready::highest` meets its contract: the highest bit of a word that is not 0 stands right below its leading zeros. Assumes nothing.
use native.Mathlib.Omega.{arith}
use borrow.Author.Rules.{rules}
use Rattle.ready.proofs.Mended.{top_bit}
use Rattle.ready.proofs.highest.Goals as goal

pub returns : goal.returns
returns c = let x = top_bit c.args.word c.requires (search rules) in (omega arith, x.1, x.2)
