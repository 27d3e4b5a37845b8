-- What a record makes of the accounts, and what some make of the table and of them, one after the other. Assumes nothing.
use Rattle.std.specs.Prelude.{None}
use mathlib.Core.Bool.{true, false}
use mathlib.Core.Path.{◌≡◌, refl, sym, ap, subst, ◌∙◌}
use mathlib.Core.List.{List, [], ◌∷◌, ◌++◌, map, map-append}
use Prim.Native.Nat.{ℕ, suc, ◌+◌, ◌*◌, ◌≤◌, ◌<◌}
use native.Mathlib.Omega.{arith}
use native.Mathlib.Decide.{ℕ_discrete}
use lib.ListN.{length, drop, length-append}
use lib.Seq.{take_at, drop_at}
use Rattle.rules.specs.Board.{printer, most_ticks}
use Rattle.rules.specs.Table.{decode}
use Rattle.rules.specs.Requests.{request_length, decode_request}
use Rattle.rules.specs.Door.{Handed, door, table_after}
use Rattle.rules.specs.Sound.{SoundTable}
use Rattle.rules.specs.Trace.{records, clean_area, cleanly}
use Rattle.parts.proofs.Whole.{records_add, records_length}
use Rattle.fairness.specs.Run.{Event, Deed, other, deed, at_once, is_zero}
use Rattle.fairness.specs.Doors.{event_of, counted_as, run_of}
use Rattle.layout.proofs.Boards.{printer_board}
use Rattle.waiting.specs.Does.{Serves}
use Rattle.waiting.proofs.Doing.{sound_serves}
use Rattle.leaps.specs.Charges.{tick_events}
use Rattle.accounts.specs.Accounts.{Fits, accounts_from, entered, handed, events_here, events_of}
use Rattle.lanes.specs.Kept.{of, Within}
use Rattle.accounts.proofs.Accounts.{accounts_none, accounts_append, grown, not_entered, by_deed}
use Rattle.accounts.proofs.Accepted.{on_sound}
use Rattle.accounts.proofs.Counted.{counted_most, awake_one, refused_one, asleep_ticks, asleep_most}

-- ONE RECORD

module _ (t r ns : List ℕ) where
  abbrev called : Event
  called = event_of printer t (cleanly r) (door printer t r clean_area)

  pub refused_record : is_zero (door printer t r clean_area).code ≡ false → ns ≡ accounts_from 0 ns (events_here t r)
  refused_record a = sym (ap (accounts_from 0 ns) (refused_one printer t (cleanly r) a) ∙ not_entered called ns a)

  module _ (a : is_zero (door printer t r clean_area).code ≡ true) where
    pub awake_record : at_once (deed (decode_request r)) ≡ 0 → (d : Deed) → deed (decode_request r) ≡ d
        → entered ns d (decode printer t).running (decode printer t).lock ≡ accounts_from 0 ns (events_here t r)
    awake_record none d e = sym (ap (accounts_from 0 ns) (awake_one printer t (cleanly r) none) ∙ by_deed called ns a d e)

    -- a call whose record says nothing
    pub unread_record : decode_request r ≡ None → ns ≡ accounts_from 0 ns (events_here t r)
    unread_record e = awake_record (rw e refl) other (ap deed e)

    -- its table is sound
    pub can_serve : Serves t
    can_serve =
        let sound = (on_sound printer t r clean_area a).0 in
        sound_serves t (subst (λ b. SoundTable b t) (sym (printer_board (length t) sound.long)) sound)

    -- and its ticks at once are not too many
    pub ticks_fit : (n : ℕ) → at_once (deed (decode_request r)) ≡ n → Within 1 ns → Fits (λ i. n) ns
    ticks_fit n e w i = omega (arith, w i, asleep_most printer t (cleanly r) n e a)

    pub asleep_record : (n : ℕ) → at_once (deed (decode_request r)) ≡ n → 1 ≤ n → accounts_from 0 ns (tick_events n (decode printer t)) ≡ accounts_from 0 ns (events_here t r)
    asleep_record n e some = sym (ap (accounts_from 0 ns) (asleep_ticks printer t (cleanly r) n e some a))

-- SOME RECORDS, then others

pub handed_add : (j k : ℕ) (bytes : List ℕ) → handed (j + k) bytes ≡ handed j bytes ++ handed k (drop (j * request_length) bytes)
handed_add j k bytes = ap (map cleanly) (records_add j k bytes) ∙ map-append cleanly (records j bytes) (records k (drop (j * request_length) bytes))

-- so many records at the front of some bytes are still to be served from a table and accounts on, which comes to table T and accounts A
pub record Still (T A t ns : List ℕ) (k : ℕ) (bytes : List ℕ) : Type 0 where
  pub whole : k * request_length ≤ length bytes
  pub within : Within k ns
  pub table : table_after printer t (handed k bytes) ≡ T
  pub accounts : accounts_from 0 ns (events_of t k bytes) ≡ A

-- where they begin with a whole record, it is the first
first_handed : (j k : ℕ) (bytes r rest : List ℕ) → j + 1 ≡ k → bytes ≡ r ++ rest → length r ≡ request_length → handed k bytes ≡ cleanly r ∷ handed j rest
unfolding records
first_handed j k bytes r rest more cut long =
    let count : k ≡ suc j = omega arith in
    (λ i. handed (count i) (cut i)) ∙ (λ i. cleanly (take_at r rest request_length long i) ∷ handed j (drop_at r rest request_length long i))

module _ {T A t ns bytes : List ℕ} {k : ℕ} (s : Still T A t ns k bytes) where
  -- it is served
  pub one_served : {j : ℕ} (r : List ℕ) {rest t' ns' : List ℕ} → j + 1 ≡ k → bytes ≡ r ++ rest → length r ≡ request_length
      → t' ≡ (door printer t r clean_area).table → ns' ≡ accounts_from 0 ns (events_here t r) → Still T A t' ns' j rest
  unfolding table_after run_of
  one_served {j} r {rest} more cut long p q =
      let first = first_handed j k bytes r rest more cut long in
      record {
        whole = omega (arith, more, s.whole, ap length cut, length-append r rest, long);
        within = λ i. omega (arith, more, s.within i, ap (λ l. of l i) q, grown 0 ns (events_here t r) i, counted_most printer t (cleanly r));
        table = ap (λ t. table_after printer t (handed j rest)) p ∙ sym (ap (table_after printer t) first) ∙ s.table;
        accounts = (λ i. accounts_from 0 (q i) (events_of (p i) j rest)) ∙ sym (accounts_append 0 ns (events_here t r) (events_of (p 1) j rest))
            ∙ sym (ap (λ hs. accounts_from 0 ns (run_of printer (door printer) t hs)) first) ∙ s.accounts;
      }

  -- there is room for it
  pub room_for_one : 1 ≤ k → Within 1 ns
  room_for_one h i = omega (arith, h, s.within i)

  -- none is left
  none_left : (0 < k → length bytes < request_length) → k ≡ 0
  none_left h = elim (ℕ_discrete k 0) [
    | yes e ↦ e
    | no n ↦ absurd (let l = h (omega arith) in omega (arith, s.whole))
  ]

  pub all_table : (0 < k → length bytes < request_length) → t ≡ T
  unfolding table_after records
  all_table h = ap (λ k. table_after printer t (handed k bytes)) (sym (none_left h)) ∙ s.table

  pub all_accounts : (0 < k → length bytes < request_length) → ns ≡ A
  unfolding run_of records
  all_accounts h = sym (accounts_none 0 ns) ∙ ap (λ k. accounts_from 0 ns (events_of t k bytes)) (sym (none_left h)) ∙ s.accounts

-- a call counts as at most the most ticks that are done at once
most_run : (t : List ℕ) (hs : List Handed) → length (run_of printer (door printer) t hs) ≤ most_ticks * length hs
unfolding run_of
most_run t [] = omega arith
most_run t (h ∷ hs) =
    let r = door printer t h.request h.area in
    omega (
      arith,
      length-append (counted_as printer (door printer) t h r) (run_of printer (door printer) r.table hs),
      counted_most printer t h,
      most_run r.table hs,
    )

length_handed : (rs : List (List ℕ)) → length (map cleanly rs) ≡ length rs
length_handed [] = refl
length_handed (r ∷ rs) = ap suc (length_handed rs)

pub most_events : (t : List ℕ) (k : ℕ) (bytes : List ℕ) → length (events_of t k bytes) ≤ most_ticks * k
most_events t k bytes = omega (arith, most_run t (handed k bytes), length_handed (records k bytes), records_length k bytes)
