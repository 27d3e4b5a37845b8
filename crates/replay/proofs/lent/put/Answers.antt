-- `put` meets its contract: bytes that are copied into their place are stores, one behind the other. Assumes nothing.
use mathlib.Core.Path.{refl, sym, ap, ◌∙◌}
use mathlib.Core.List.{◌++◌}
use Prim.Native.Nat.{◌+◌}
use native.Mathlib.Omega.{arith}
use lib.ListN.{length, take, drop}
use lib.Seq.{sets-eq, take_all}
use Rattle.std.proofs.lemmas.Slice.{put_mid-paste}
use Rattle.replay.proofs.lent.put.Goals as goal

pub returns : goal.returns
returns c =
    let out = c.args.out.now in
    let at = c.args.at in
    let bytes = c.args.bytes.now in
    record {
      bytes =
          put_mid-paste at _ out _ bytes (length bytes) c.copy_from_slice.ensures.after (omega arith) refl
          ∙ ap (λ l. take at out ++ l ++ drop (at + length bytes) out) (take_all (length bytes) bytes (omega arith))
          ∙ sym (sets-eq bytes out at c.requires);
      place = refl;
    }
