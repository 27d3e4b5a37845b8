-- `replay::serve` meets its contract: the replay is that of the copy, which goes back, and what is left over moves to the front. Assumes nothing.
use native.Mathlib.Omega.{arith}
use mathlib.Core.Path.{sym, ap, ◌∙◌}
use Prim.Native.Nat.{◌*◌, ◌/◌}
use lib.ListN.{take, drop}
use lib.Seq.{sets, length-take-le}
use Rattle.rules.specs.Requests.{request_length}
use Rattle.parts.proofs.Moved.{moved}
use Rattle.replay.proofs.lent.serve.Goals as goal

pub returns-clause-block : goal.returns-clause-block
returns-clause-block c =
    let block = c.args.block.now in
    let n = c.args.n in
    c.copy_within.ensures.after ∙ moved block (n / request_length * request_length) n (omega arith) c.requires.n_in_bounds
    ∙ ap (λ k. sets block 0 (drop (k / request_length * request_length) (take n block))) (sym (length-take-le n block c.requires.n_in_bounds))
