-- `lags::put_report` meets its contract: the report is that of the copies, and its bytes go to the front. Assumes nothing.
use mathlib.Core.Path.{◌≡◌, refl, ap, sym, ◌∙◌}
use mathlib.Core.List.{◌++◌}
use Prim.Native.Nat.{◌+◌}
use native.Mathlib.Omega.{arith}
use lib.ListN.{length, take, drop}
use lib.Seq.{sets-eq, take_all}
use Rattle.std.proofs.lemmas.Slice.{put_mid-paste}
use Rattle.rules.specs.Board.{printer}
use Rattle.rules.specs.Table.{decode}
use Rattle.lanes.specs.Report.{report_text}
use Rattle.lanes.specs.Kept.{of}
use Rattle.lags.proofs.lent.put_report.Goals as goal

pub returns-clause-text : goal.returns-clause-text
returns-clause-text c =
    let out = c.args.out.now in
    let text = report_text c.args.stopped (of c.args.accounts.now) (decode printer c.args.table.now) in
    let made : c.put_lanes.new.out ≡ text = rw (c.new-report.ensures, c.copy_from_slice.ensures.after, c.copy_from_slice-2.ensures.after) at c.put_lanes.ensures.text in
    let end : c.len-end.result ≡ length text = c.len-end.ensures.value ∙ ap length made in
    record {
      bytes =
          put_mid-paste 0 _ out _ text (length text) (c.copy_from_slice-3.ensures.after ∙ c.as_slice.ensures ∙ made) (sym end) refl
          ∙ ap (λ l. take 0 out ++ l ++ drop (0 + length text) out) (take_all (length text) text (omega arith))
          ∙ sym (sets-eq text out 0 (omega (arith, end, c.put_lanes.ensures.room, c.requires.report_room_in_bounds)));
      place = omega (arith, end);
    }
