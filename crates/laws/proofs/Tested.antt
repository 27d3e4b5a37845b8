-- The test of soundness says what the record for the reader says, in both directions, for lists of any length: what is tested of
-- each record is what is said of it, the rule of the places apart, which `Places` has. Assumes nothing.
use mathlib.Core.Bool.{true, false}
use mathlib.Core.Path.{◌≡◌, refl}
use mathlib.Core.Logic.Iff
use mathlib.Core.Logic.{◌↔◌}
use mathlib.Core.List.{List}
use Prim.Native.Nat.{ℕ, ◌≤◌}
use native.Mathlib.Omega.{arith}
use native.Mathlib.Decide.{dec_lt}
use borrow.Author.Tests.{eq-eqb}
use lib.ListN.{length, get_or-eq_default}
use Rattle.rules.specs.Basic.{all, all_below}
use Rattle.rules.specs.Board.{Board, printer, most_count, most_lock}
use Rattle.rules.specs.State.{State, free, free_sem, at, sem_at, caller, is_ready}
use Rattle.rules.specs.Lines.{bits_below, ready_word}
use Rattle.rules.specs.Table.{wait_of, outcome_of, thread_row, thread_of, sem_row, sem_of, kernel_row, flat, encode_with, encode, rows, decode}
use Rattle.rules.specs.Sound.{SoundThread, Sound, SoundTable}
use Rattle.rules.specs.Test.{place_ok, free_ok, used_ok, thread_ok, sem_ok, init_ok, not_above, kernel_ok, sound, sound_table}
use Rattle.rules.specs.Answers.{area_length}
use Rattle.rules.specs.Requests.{decode_request}
use Rattle.rules.specs.Door.{fresh, fresh_table, serve_decoded, door}
use Rattle.rules.specs.declared.Thread.{Thread}
use Rattle.rules.specs.declared.Sem.{Sem}
use Rattle.rules.specs.declared.Wait.TheVariants.{Nothing}
use Rattle.laws.proofs.Split.{is, isnt, test}
use Rattle.laws.proofs.Reflect.{and_says, or_says, not_fails, if_says, eqb_says, leb_says, reflect}
use Rattle.laws.proofs.Counts.{all_at, all_of, below_at, below_of, bytes_same}
use Rattle.laws.proofs.Places.{placed, ready_place}
use Rattle.laws.proofs.Records.{Object, object_says, used_says, free_says}

-- EACH THREAD, EACH SEMAPHORE, THE KERNEL

-- a number out of range reads as a free record, which passes
pub threads_say : (s : State) → all_below (length s.threads) (thread_ok s) ≡ true ↔ ((i : ℕ) → thread_ok s i ≡ true)
unfolding thread_ok place_ok free_ok
threads_say s = (there, λ h. below_of (length s.threads) (thread_ok s) (λ i q. h i))
  where
    there : all_below (length s.threads) (thread_ok s) ≡ true → (i : ℕ) → thread_ok s i ≡ true
    there e i = elim (dec_lt i (length s.threads)) [
      | yes q ↦ below_at (length s.threads) (thread_ok s) e i q
      | no q ↦ rw (get_or-eq_default s.threads free {n = i} (omega arith))
    ]

pub sems_say : (es : List Sem) → all sem_ok es ≡ true ↔ ((k : ℕ) → sem_ok (sem_at es k) ≡ true)
unfolding sem_ok
sems_say es = (λ e. all_at sem_ok free_sem es e refl, all_of sem_ok free_sem es)

sem_says : (e : Sem) → sem_ok e ≡ true ↔ ((e.count ≤ most_count) × (e.used ≡ false → e ≡ free_sem))
unfolding sem_ok
sem_says e = (
  λ q. let x = simp reflect at q in (x.0, λ u j. record { used = u j; count = x.1 u j }),
  λ h. simp reflect (h.0, λ u j. (h.1 u j).count),
)

init_says : (t : Thread) → init_ok t ≡ true ↔ ((is_ready t ≡ true) × (t.priority ≡ 0))
unfolding init_ok
init_says t = simp reflect Iff.rfl

none_above : (p : ℕ) (ts : List Thread) → all (not_above p) ts ≡ true ↔ ((i : ℕ) → is_ready (at ts i) ≡ true → (at ts i).priority ≤ p)
none_above p ts = (
  λ e i. simp (or_says, not_fails, leb_says) at (all_at (not_above p) free ts e refl i),
  λ h. all_of (not_above p) free ts (λ i. simp (or_says, not_fails, leb_says) (h i)),
)

pub kernel_says : (s : State) → kernel_ok s ≡ true
    ↔ (((s.lock ≤ most_lock) × (is_ready (caller s) ≡ true))
    × (s.lock ≤ 0 → ((caller s).place ≡ 1) × ((i : ℕ) → is_ready (at s.threads i) ≡ true → (at s.threads i).priority ≤ (caller s).priority)))
unfolding kernel_ok
kernel_says s = simp (reflect, none_above (caller s).priority s.threads) Iff.rfl

-- THE STATE AND THE TABLE

pub tested : (s : State) → sound s ≡ true ↔ Sound s
unfolding sound thread_ok
tested s = (there, back)
  where
    there : sound s ≡ true → Sound s
    there e =
        let ts = s.threads in
        let x = simp and_says at e in
        let each : (i : ℕ) → _ = λ i. simp (and_says, if_says) at ((threads_say s).0 x.0.0.0 i) in
        let lines = (placed ts).0 (λ i. (each i).0) in
        let sem : (k : ℕ) → _ = λ k. (sem_says (sem_at s.sems k)).0 ((sems_say s.sems).0 x.0.0.1 k) in
        let kernel = (kernel_says s).0 x.1 in
        let used : (i : ℕ) (u : (at ts i).used ≡ true) → SoundThread (at ts i) × Object s i (at ts i).wait (at ts i).full =
        λ i u. (used_says (at ts i) u s i (ready_place ts lines i)).0 ((each i).1.0 u) in
        let frees : (i : ℕ) → (at ts i).used ≡ false → at ts i ≡ free = λ i u. (free_says (at ts i) u).0 ((each i).1.1 u) in
        let object : (i : ℕ) → Object s i (at ts i).wait (at ts i).full =
        λ i. elim (test (at ts i).used) [ is u ↦ (used i u).1 | isnt u ↦ rw (frees i u) ((object_says s i (Nothing 0) false).0 refl) ] in
        record {
          free_thread = frees;
          free_semaphore = λ k. (sem k).1;
          threads = λ i u. (used i u).0;
          counts = λ k. (sem k).0;
          lock = kernel.0.0;
          init = (init_says (at ts 0)).0 x.0.1;
          lines = lines;
          sends = λ i. (object i).sends;
          pends = λ i. (object i).pends;
          runs = kernel.0.1;
          leads = λ z. (kernel.1 (omega arith)).0;
          highest = λ z. (kernel.1 (omega arith)).1;
        }

    back : Sound s → sound s ≡ true
    back h =
        let ts = s.threads in
        let each : (i : ℕ) → thread_ok s i ≡ true = λ i. simp (and_says, if_says) (
          (placed ts).1 h.lines i,
          (
            λ u. (used_says (at ts i) u s i (ready_place ts h.lines i)).1
                (h.threads i u, record { receiver = (h.threads i u).receiver; sends = h.sends i; pends = h.pends i }),
            λ u. (free_says (at ts i) u).1 (h.free_thread i u),
          ),
        ) in
        simp and_says (
          (
            ((threads_say s).1 each, (sems_say s.sems).1 (λ k. (sem_says (sem_at s.sems k)).1 (h.counts k, h.free_semaphore k))),
            (init_says (at ts 0)).1 h.init,
          ),
          (kernel_says s).1 ((h.lock, h.runs), λ z. (h.leads (omega arith), h.highest (omega arith))),
        )

pub tested_table : (b : Board) (t : List ℕ) → sound_table b t ≡ true ↔ SoundTable b t
unfolding sound_table
tested_table b t = (
  λ e. let x = simp (and_says, eqb_says, bytes_same, tested) at e in record { long = x.0.0; meaning = x.0.1; state = x.1 },
  λ h. simp (and_says, eqb_says, bytes_same, tested) ((h.long, h.meaning), h.state),
)

pub fresh_sound : sound_table printer (fresh_table printer) ≡ true
unfolding wait_of outcome_of thread_row thread_of sem_row sem_of kernel_row flat encode_with encode bits_below ready_word rows decode place_ok free_ok used_ok thread_ok sem_ok init_ok kernel_ok sound sound_table fresh fresh_table
fresh_sound = refl

-- a table and an area that the door lets in
pub let_in : (b : Board) (t r a : List ℕ) → SoundTable b t → length a ≡ area_length → door b t r a ≡ serve_decoded b t (decode_request r)
unfolding door
let_in b t r a σ e = rw (eq-eqb (length a) area_length e, (tested_table b t).1 σ)
