-- What is served goes on as the input does: the bytes that are held and those that a read put behind them are those of the block, and what
-- is left over of them is held next. At the end the report of the table and of the accounts is the report of all that came. Assumes nothing.
use Rattle.std.specs.Prelude.{if◌then◌else◌}
use mathlib.Core.Path.{◌≡◌, refl, sym, ap, subst, ◌∙◌}
use mathlib.Core.List.{List, [], ◌++◌, map}
use Prim.Native.Nat.{ℕ, ◌+◌, ◌-◌, ◌*◌, ◌/◌, ◌≤◌}
use native.Mathlib.Omega.{arith}
use lib.Dec.{ltb, leb}
use borrow.Author.Tests.{leb-true, leb-false, lt-ltb, le-ltb}
use lib.ListN.{length, take, drop, length-append, length-drop}
use lib.Seq.{drop-drop, drop-append-le}
use Rattle.rules.specs.Board.{printer}
use Rattle.rules.specs.Requests.{request_length}
use Rattle.rules.specs.Sound.{Sound}
use Rattle.rules.specs.Table.{decode}
use Rattle.rules.specs.Door.{door, table_after}
use Rattle.rules.specs.Trace.{records, cleanly, whole_records}
use Rattle.laws.proofs.Split.{is, isnt, test}
use Rattle.layout.proofs.RoundTrip.{on_decode}
use Rattle.text.specs.Text.{ascii}
use Rattle.parts.proofs.Behind.{come, part_size}
use Rattle.parts.proofs.Whole.{records_front, records_take}
use Rattle.fairness.specs.Run.{Event, end_of}
use Rattle.fairness.specs.Doors.{run_of}
use Rattle.fairness.proofs.Doors.{run_by_rules, run_end, table_follows, run_follows}
use Rattle.lanes.specs.Lag.{account_from}
use Rattle.lanes.specs.Report.{most_records, lane_lines, report_text, report_on}
use Rattle.lanes.proofs.Lag.{run_sound}
use Rattle.lanes.proofs.Lines.{lines_as}
use Rattle.lanes.specs.Kept.{of, Within}
use Rattle.accounts.specs.Accounts.{accounts_from, handed, events_of, servable}
use Rattle.accounts.proofs.Accounts.{account_at, accounts_none, accounts_append, still_within}
use Rattle.accounts.proofs.Served.{handed_add, most_events}
use Rattle.report.specs.Going.{Stands, Ended}

-- BYTES THAT COME

-- what was served of the first bytes, and what is served of those that are left over with the next
module _ (first : ℕ) (low : first ≤ most_records) (seen part : List ℕ) where
  abbrev before : ℕ
  before = servable first (length seen)

  abbrev rest : List ℕ
  rest = drop (before * request_length) seen

  abbrev now_served : ℕ
  now_served = servable (first + before) (length (rest ++ part))

  size : length (rest ++ part) + before * request_length ≡ length seen + length part
  size = omega (arith, length-append rest part, length-drop (before * request_length) seen)

  served_more : servable first (length (seen ++ part)) ≡ before + now_served
  served_more = omega (arith, length-append seen part, size)

  behind : drop (before * request_length) (seen ++ part) ≡ rest ++ part
  behind = drop-append-le (before * request_length) seen part (omega arith)

  handed_more : handed (before + now_served) (seen ++ part) ≡ handed before seen ++ handed now_served (rest ++ part)
  handed_more =
      handed_add before now_served (seen ++ part)
      ∙ (λ j. map cleanly (records_front before seen part (omega arith) j) ++ handed now_served (behind j))

  table_more : (t : List ℕ) → table_after printer t (handed (servable first (length (seen ++ part))) (seen ++ part))
      ≡ table_after printer (table_after printer t (handed before seen)) (handed now_served (rest ++ part))
  table_more t =
      ap (λ k. table_after printer t (handed k (seen ++ part))) served_more
      ∙ ap (table_after printer t) handed_more
      ∙ table_follows printer t (handed before seen) (handed now_served (rest ++ part))

  accounts_more : (t ns : List ℕ) → accounts_from 0 ns (events_of t (servable first (length (seen ++ part))) (seen ++ part))
      ≡ accounts_from 0 (accounts_from 0 ns (events_of t before seen)) (events_of (table_after printer t (handed before seen)) now_served (rest ++ part))
  accounts_more t ns =
      ap (λ k. accounts_from 0 ns (events_of t k (seen ++ part))) served_more
      ∙ ap (λ hs. accounts_from 0 ns (run_of printer (door printer) t hs)) handed_more
      ∙ ap (accounts_from 0 ns) (run_follows printer t (handed before seen) (handed now_served (rest ++ part)))
      ∙ accounts_append 0 ns (events_of t before seen) (events_of (table_after printer t (handed before seen)) now_served (rest ++ part))

  left_more : drop (servable first (length (seen ++ part)) * request_length) (seen ++ part) ≡ drop (now_served * request_length) (rest ++ part)
  left_more =
      (let places : servable first (length (seen ++ part)) * request_length ≡ before * request_length + now_served * request_length = omega (arith, served_more) in
      ap (λ j. drop j (seen ++ part)) places)
      ∙ sym (drop-drop (now_served * request_length) (before * request_length) (seen ++ part))
      ∙ ap (drop (now_served * request_length)) behind

-- nothing has come
pub none_seen : (first : ℕ) (t ns : List ℕ) → Stands first t ns 0 first t ns []
unfolding table_after run_of records
none_seen first t ns =
    let none : servable first 0 ≡ 0 = omega arith in
    record {
      seen = [];
      size = refl;
      count = omega arith;
      table = ap (λ k. table_after printer t (handed k [])) (sym none);
      accounts = sym (ap (λ k. accounts_from 0 ns (events_of t k [])) none ∙ accounts_none 0 ns);
      left = ap (λ k. drop (k * request_length) []) (sym none);
    }

-- a read has put n bytes behind those that are held, and they are served
pub stands_part : {first bytes number : ℕ} {t ns t₁ ns₁ : List ℕ} (held block : List ℕ) (n : ℕ) → take (length held) block ≡ held → length block ≡ length held + n
    → first ≤ most_records → Stands first t ns bytes number t₁ ns₁ held
    → (t' ns' block' : List ℕ) (number' : ℕ) → number' ≡ number + servable number (length block)
    → t' ≡ table_after printer t₁ (handed (servable number (length block)) block)
    → ns' ≡ accounts_from 0 ns₁ (events_of t₁ (servable number (length block)) block)
    → block' ≡ drop (servable number (length block) * request_length) block
    → Stands first t ns (bytes + n) number' t' ns' block'
stands_part {first} {bytes} {number} {t} {ns} {t₁} {ns₁} held block n stay more low p t' ns' block' number' en et ea eb =
    let part = drop (length held) block in
    let seen = p.seen in
    let k = servable number (length block) in
    let at-hand : rest first low seen part ++ part ≡ block = ap (λ l. l ++ part) (sym p.left) ∙ come held block n stay more in
    let same : now_served first low seen part ≡ k = λ j. servable (sym p.count j) (length (at-hand j)) in
    record {
      seen = seen ++ part;
      size = length-append seen part ∙ (λ j. p.size j + part_size held block n stay more j);
      count = omega (arith, en, p.count, served_more first low seen part, same);
      table = et ∙ (λ j. table_after printer (p.table j) (handed (sym same j) (sym at-hand j))) ∙ sym (table_more first low seen part t);
      accounts = ea ∙ (λ j. accounts_from 0 (p.accounts j) (events_of (p.table j) (sym same j) (sym at-hand j))) ∙ sym (accounts_more first low seen part t ns);
      left = eb ∙ (λ j. drop (sym same j * request_length) (sym at-hand j)) ∙ sym (left_more first low seen part);
    }

-- WHERE IT STANDS

module _ {first bytes number : ℕ} {t ns t' ns' held : List ℕ} (p : Stands first t ns bytes number t' ns' held) where
  abbrev run : List Event
  run = events_of t (servable first (length p.seen)) p.seen

  -- the state that the table says is the run's last
  ends : decode printer t' ≡ end_of (decode printer t) run
  ends = ap (decode printer) p.table ∙ sym (run_end printer t (handed (servable first (length p.seen)) p.seen))

  pub sound_there : Sound (decode printer t) → Sound (decode printer t')
  sound_there σ = subst Sound (sym ends) (run_sound (decode printer t) run (run_by_rules printer t (handed (servable first (length p.seen)) p.seen)) σ)

  pub count_low : first ≤ most_records → number ≤ most_records
  count_low low = omega (arith, p.count)

  pub within_there : Within (most_records - first) ns → Within (most_records - number) ns'
  within_there w i =
      let k = servable first (length p.seen) in
      omega (arith, still_within k (most_records - first) ns run (omega arith) (most_events t k p.seen) w i, ap (λ l. of l i) p.accounts, p.count)

  -- THE REPORT of the table and of the accounts is that of all that came
  module _ (low : first ≤ most_records) (long : length ns ≡ printer.threads) where
    stops : leb request_length (length held) ≡ ltb most_records (first + length p.seen / request_length)
    stops =
        let rest : length held ≡ length p.seen - servable first (length p.seen) * request_length = ap length p.left ∙ length-drop (servable first (length p.seen) * request_length) p.seen in
        elim (test (leb request_length (length held))) [
          | is e ↦ e ∙ sym (lt-ltb most_records (first + length p.seen / request_length) (omega (arith, rest, leb-true request_length (length held) e)))
          | isnt e ↦ e ∙ sym (le-ltb most_records (first + length p.seen / request_length) (omega (arith, rest, leb-false request_length (length held) e)))
        ]

    lines : lane_lines (of ns') (decode printer t') 0 (decode printer t').threads ≡ lane_lines (λ i. account_from i (of ns i) run) (decode printer t') 0 (decode printer t').threads
    lines = lines_as (of ns') (λ i. account_from i (of ns i) run) (decode printer t') (λ j h.
        ap (λ l. of l j) p.accounts ∙ account_at ns run j (omega (arith, (on_decode printer t').threads))) 0 (decode printer t').threads (omega arith)

    pub reported : report_text (leb request_length (length held)) (of ns') (decode printer t') ≡ report_on printer (door printer) first t (of ns) p.seen
    unfolding report_on
    reported =
        let recs : take (most_records - first) (whole_records p.seen) ≡ records (servable first (length p.seen)) p.seen = records_take (most_records - first) (length p.seen / request_length) p.seen in
        (λ j. (if stops j then ascii "stopped\n" else []) ++ lines j)
        ∙ ap (λ s. report_text (ltb most_records (first + length p.seen / request_length)) (λ i. account_from i (of ns i) run) s) ends
        ∙ ap
        (λ rs.
        let es = run_of printer (door printer) t (map cleanly rs) in
        report_text (ltb most_records (first + length p.seen / request_length)) (λ i. account_from i (of ns i) es) (end_of (decode printer t) es))
        (sym recs)

-- the run ends
pub ended_by : {first bytes number : ℕ} {t ns t' ns' block out : List ℕ} → first ≤ most_records → length ns ≡ printer.threads
    → Stands first t ns bytes number t' ns' block → out ≡ report_text (leb request_length (length block)) (of ns') (decode printer t')
    → Ended first t ns bytes number t' ns' block out
ended_by low long p q = record { stands = p; prints = q ∙ reported p low long }
