-- How far a replay into lent bytes has come: the lines of which `Progress` speaks stand at their front. Assumes nothing.
use mathlib.Core.Path.{◌≡◌, refl, ap, subst, ◌∙◌}
use mathlib.Core.List.{List, [], ◌∷◌, ◌++◌}
use Prim.Native.Nat.{ℕ, suc, ◌+◌, ◌≤◌, ◌<◌}
use native.Mathlib.Omega.{arith}
use native.Mathlib.Nat.{add-zero}
use lib.ListN.{length, set, take, drop, length-append}
use lib.Seq.{sets}
use Rattle.rules.specs.Board.{printer}
use Rattle.rules.specs.Requests.{request_length}
use Rattle.rules.specs.Door.{door}
use Rattle.rules.specs.Trace.{clean_area, trace_line}
use Rattle.text.specs.Text.{line_text}
use Rattle.text.specs.Puts.{Puts}
use Rattle.text.specs.Rooms.{line_room}
use Rattle.replay.specs.Replay.{ReplayedAt}
use Rattle.replay.proofs.Progress.{Progress, started, turned, ended}

sets_append : (l : List ℕ) (at : ℕ) (t u : List ℕ) → sets (sets l at t) (at + length t) u ≡ sets l at (t ++ u)
sets_append l at [] u = ap (λ (k : ℕ). sets l k u) (add-zero at)
sets_append l at (b ∷ t) u = ap (λ (k : ℕ). sets (sets (set l at b) (suc at) t) k u) (omega arith) ∙ sets_append (set l at b) (suc at) t u

-- texts put one behind the other are one text
followed : {entry mid exit t u : List ℕ} {at end next : ℕ} → Puts entry at t mid end → Puts mid end u exit next → Puts entry at (t ++ u) exit next
followed {entry} {mid} {exit} {t} {u} {at} p q = record {
  bytes = q.bytes ∙ (λ i. sets (p.bytes i) (p.place i) u) ∙ sets_append entry at t u;
  place = omega (arith, length-append t u, p.place, q.place);
}

pub record InPlace (t₀ input : List ℕ) (first : ℕ) (out₀ t out : List ℕ) (at number next : ℕ) : Type 0 where
  pub text : List ℕ
  pub progress : Progress t₀ input first [] t text at number
  pub puts : Puts out₀ 0 text out next

module _ (t₀ input : List ℕ) (first : ℕ) (out₀ : List ℕ) where
  pub begun : InPlace t₀ input first out₀ t₀ out₀ 0 first 0
  begun = record { text = []; progress = started t₀ input first []; puts = record { bytes = refl; place = refl } }

  module _ {t out : List ℕ} {at number next : ℕ} (p : InPlace t₀ input first out₀ t out at number next) where
    -- a record that stands where the next one is looked for is served
    pub gone_on : (i : ℕ) → i ≡ at → at + request_length ≤ length input → (t' out' : List ℕ) (next' : ℕ)
        → t' ≡ (door printer t (take request_length (drop i input)) clean_area).table
        → Puts out next (line_text (trace_line printer number (door printer t (take request_length (drop i input)) clean_area))) out' next'
        → next' ≤ next + line_room → InPlace t₀ input first out₀ t' out' (i + request_length) (number + 1) next'
    gone_on i e h t' out' next' et q r =
        let line = line_text (trace_line printer number (door printer t (take request_length (drop i input)) clean_area)) in
        record {
          text = p.text ++ line;
          progress = turned t₀ input first [] p.progress i e h t' (p.text ++ line) et refl (omega (arith, length-append p.text line, q.place, r));
          puts = followed p.puts q;
        }

    pub ended_at : length input < at + request_length → ReplayedAt t₀ input first out₀ t out next
    ended_at h =
        let all = ended t₀ input first [] p.progress h in
        record {
          table = all.table;
          lines = subst (λ l. Puts out₀ 0 l out next) all.lines p.puts;
          room = omega (arith, all.room, p.puts.place);
        }
