-- What is served goes on as the trace does: the bytes that are held and those that a read put behind them are those of the block, and so is
-- what they leave over. Assumes nothing.
use mathlib.Core.Path.{◌≡◌, refl, sym, ap, subst, ◌∙◌}
use mathlib.Core.List.{List, [], ◌++◌, map}
use Prim.Native.Nat.{ℕ, ◌+◌, ◌/◌}
use native.Mathlib.Omega.{arith}
use lib.ListN.{length, take, length-append}
use lib.Seq.{take_all}
use Rattle.rules.specs.Board.{printer}
use Rattle.rules.specs.Requests.{request_length}
use Rattle.rules.specs.Door.{table_after}
use Rattle.rules.specs.Trace.{cleanly, short_line, whole_records}
use Rattle.text.specs.Text.{trace_text}
use Rattle.parts.specs.LeftOver.{left_over}
use Rattle.parts.proofs.Behind.{part, come, part_size}
use Rattle.replay.specs.Replay.{Replayed}
use Rattle.replay.specs.Parts.{Stand, begins, after}
use Rattle.replay.proofs.Parts.{as_one, after_nothing}
use Rattle.trace.specs.Going.{standing, Traced, Ended}

-- where a trace stands after some bytes at hand
abbrev on : ℕ → List ℕ → List ℕ → Stand
on number t l = standing (number + length l / request_length) (table_after printer t (map cleanly (whole_records l))) (left_over l)

-- nothing has come
pub none_seen : (t : List ℕ) → Traced t 0 (standing 0 t [])
none_seen t = record { seen = []; size = refl; stands = sym (after_nothing printer (begins t) (omega arith)) }

-- a part comes
traced_on : {t : List ℕ} {bytes : ℕ} {s s' : Stand} (part : List ℕ) → Traced t bytes s → s' ≡ after printer s part → Traced t (bytes + length part) s'
traced_on {t} {bytes} part p e = record {
  seen = p.seen ++ part;
  size = length-append p.seen part ∙ ap (λ k. k + length part) p.size;
  stands = e ∙ ap (λ x. after printer x part) p.stands ∙ as_one printer (begins t) p.seen part;
}

-- a read has put n bytes behind those that are held, and they are served
module _ (held block : List ℕ) (n : ℕ) (stay : take (length held) block ≡ held) (more : length block ≡ length held + n) where
  served_on : (number : ℕ) (t : List ℕ) {out t' out' block' : List ℕ} {number' : ℕ} → Replayed t block number out t' out' → number' ≡ number + length block / request_length
      → block' ≡ left_over block → standing number' t' block' ≡ after printer (standing number t held) (part held block n stay more)
  unfolding after
  served_on number t r en eb = (λ j. standing (en j) (r.table j) (eb j)) ∙ ap (on number t) (sym (come held block n stay more))

  pub traced_part : {t : List ℕ} {bytes : ℕ} (number : ℕ) (t₁ t' : List ℕ) {out out' block' : List ℕ} {number' : ℕ} → Traced t bytes (standing number t₁ held)
      → Replayed t₁ block number out t' out' → number' ≡ number + length block / request_length → block' ≡ left_over block → Traced t (bytes + n) (standing number' t' block')
  traced_part {t} {bytes} number t₁ t' {block'} {number'} p r en eb =
      subst (λ k. Traced t (bytes + k) (standing number' t' block')) (part_size held block n stay more) (traced_on (part held block n stay more) p (served_on number t₁ r en eb))

-- a read has put nothing behind them
pub nothing_came : (held block : List ℕ) (n : ℕ) → take (length held) block ≡ held → length block ≡ length held + n → n ≡ 0 → block ≡ held
nothing_came held block n stay more none = sym (take_all (length held) block (omega (arith, more, none))) ∙ stay

-- the run ends
pub ended_by : {t t' t₁ block block₁ out : List ℕ} {bytes bytes₁ number number₁ : ℕ} → Traced t bytes₁ (standing number₁ t₁ block₁)
    → t' ≡ t₁ → block ≡ block₁ → bytes ≡ bytes₁ → number ≡ number₁ → out ≡ trace_text (short_line (length block)) → Ended t bytes number t' out
ended_by {block₁} p et eh eb en q = rw (et, eb, en) (record { held = block₁; traced = p; prints = q ∙ ap (λ l. trace_text (short_line (length l))) eh })
