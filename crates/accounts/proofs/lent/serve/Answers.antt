-- `accounts::serve` meets its contract: as many records are served as may be, on copies that go back, and what is left over moves to the front.
-- Assumes nothing.
use mathlib.Core.Path.{ap, ◌∙◌}
use Prim.Native.Nat.{◌*◌}
use native.Mathlib.Omega.{arith}
use lib.ListN.{take, drop}
use lib.Seq.{sets}
use Rattle.rules.specs.Requests.{request_length}
use Rattle.parts.proofs.Moved.{moved}
use Rattle.accounts.proofs.lent.serve.Goals as goal

pub returns-clause-block : goal.returns-clause-block
returns-clause-block c =
    let block = c.args.block.now in
    let n = c.args.n in
    let k = c.servable-k.ensures in
    c.copy_within.ensures.after ∙ moved block (c.servable-k.result * request_length) n (omega (arith, k)) c.requires.number_le_most_records.1
    ∙ ap (λ m. sets block 0 (drop (m * request_length) (take n block))) k
