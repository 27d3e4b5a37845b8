-- `text::put_short` meets its contract: the line, copied to its place, is the stores of `sets`. Assumes nothing.
use native.Mathlib.Omega.{arith}
use mathlib.Core.Path.{◌≡◌, refl, sym, ap, ◌∙◌}
use mathlib.Core.List.{◌++◌}
use Prim.Native.Nat.{◌+◌}
use lib.ListN.{length, take, drop}
use lib.Seq.{sets-eq, take_all}
use Rattle.std.proofs.lemmas.Slice.{put_mid-paste}
use Rattle.rules.specs.Trace.{short}
use Rattle.text.specs.Text.{line_text}
use Rattle.text.proofs.lent.put_short.Goals as goal

pub returns-clause-puts : goal.returns-clause-puts
returns-clause-puts c =
    let line = line_text (short c.args.n) in
    let all = c.args.out.now in
    let put : c.put_short_line.new.out ≡ line = c.put_short_line.ensures.puts ∙ ap (λ l. l ++ line) c.new-line.ensures in
    let size : c.len.result ≡ length line = c.len.ensures.value ∙ ap length put in
    let written : c.copy_from_slice.new.self ≡ line = c.copy_from_slice.ensures.after ∙ c.as_slice.ensures ∙ put in
    record {
      bytes =
          put_mid-paste c.args.at _ all _ line (length line) written (omega arith) refl
          ∙ ap (λ l. take c.args.at all ++ l ++ drop (c.args.at + length line) all) (take_all (length line) line (omega arith))
          ∙ sym (sets-eq line all c.args.at (omega arith));
      place = omega arith;
    }
