-- A table is sound exactly when each part of it that is tested passes: its bytes are those of its state when those of every record
-- are, and the state is sound when every record is, and who runs. Assumes nothing.
use mathlib.Core.Bool.{true, false}
use mathlib.Core.Path.{◌≡◌, refl, ap, ◌∙◌}
use mathlib.Core.List.{List}
use Prim.Native.Nat.{ℕ, ◌+◌, ◌*◌, ◌<◌}
use native.Mathlib.Omega.{arith}
use native.Mathlib.Decide.{dec_lt}
use lib.ListN.{length, get_or}
use Rattle.rules.specs.Basic.{all_below}
use Rattle.rules.specs.Board.{record_length}
use Rattle.rules.specs.State.{at, sem_at}
use Rattle.rules.specs.Table.{encode_with, encode}
use Rattle.rules.specs.Test.{sem_ok, thread_ok, init_ok, kernel_ok, sound, sound_table}
use Rattle.laws.proofs.Split.{clash, pass_together, and_true, and_both}
use Rattle.laws.proofs.Reflect.{and_says, eqb_says}
use Rattle.laws.proofs.Counts.{below_at, below_of, bytes_same}
use Rattle.laws.proofs.Tested.{threads_say, sems_say}
use Rattle.layout.specs.Bytes.{sems_from, kernel_from}
use Rattle.layout.specs.Canon.{rest_zero, sem_canon, Canon}
use Rattle.layout.specs.Held.{board, Long, said, Whole}
use Rattle.layout.proofs.Boards.{counted, has_thread, sized, no_sem_lem}
use Rattle.layout.proofs.Canonical.{canon_encoded, encoded_canon}
use Rattle.sound.specs.Tested.{Threads, sem_test}

pub record Parts (t : List ℕ) : Type 0 where
  pub long : Long t
  pub kernel : rest_zero 6 t (kernel_from (board t)) ≡ true
  pub sems : all_below (board t).sems (sem_test t (said t)) ≡ true
  pub init : init_ok (at (said t).threads 0) ≡ true
  pub runs : Threads t (said t) × (kernel_ok (said t) ≡ true)

module _ (t : List ℕ) where
  pub sound_whole : sound_table (board t) t ≡ true → Whole t
  unfolding sound_table said
  sound_whole e = let x = simp (and_says, eqb_says, bytes_same) at e in record { long = record { fits = x.0.0 }; meaning = x.0.1 }

  pub sound_parts : sound_table (board t) t ≡ true → Parts t
  unfolding sound_table sound sem_test said
  sound_parts e =
      let x = simp (and_says, eqb_says, bytes_same) at e in
      let s = said t in
      let whole = sound_whole e in
      let canon = encoded_canon {b = board t} whole.meaning in
      record {
        long = whole.long;
        kernel = canon.0.kernel;
        sems = below_of (board t).sems (sem_test t s) (λ k h. and_both _ _ (canon.0.sems k h) ((sems_say s.sems).0 x.1.0.0.1 k));
        init = x.1.0.1;
        runs = (
          record { canon = λ i h. canon.0.threads i ((has_thread whole.long i).0 h); each = λ i h. (threads_say s).0 x.1.0.0.0 i; word = canon.1 },
          x.1.1,
        );
      }

  pub parts_sound : ((k : ℕ) → get_or t k 0 < 256) → Parts t → sound_table (board t) t ≡ true
  unfolding sound_table sound sem_ok sem_test encode said
  parts_sound byte p =
      let s = said t in
      let many = counted t p.long in
      let sem : (k : ℕ) (h : k < (board t).sems) → _ = λ k h. and_true (sem_canon t (sems_from (board t) + k * record_length)) (sem_ok (sem_at s.sems k)) (below_at (board t).sems (sem_test t s) p.sems k h) in
      let canon : Canon (board t) t = record {
        long = p.long.fits;
        threads = λ i h. p.runs.0.canon i (omega (arith, many.threads));
        sems = λ k h. (sem k h).0;
        kernel = p.kernel;
      } in
      let each : (k : ℕ) → sem_ok (sem_at s.sems k) ≡ true = λ k. elim (dec_lt k (board t).sems) [
        | yes h ↦ (sem k h).1
        | no h ↦ rw (no_sem_lem p.long refl k (board t).sems many.sems (omega arith))
      ] in
      simp (and_says, eqb_says, bytes_same) (
        (p.long.fits, canon_encoded byte canon ∙ ap (λ w. encode_with w s) p.runs.0.word),
        (((below_of (length s.threads) (thread_ok s) (λ i h. p.runs.0.each i (omega (arith, (sized p.long refl).threads))), (sems_say s.sems).1 each), p.init), p.runs.1),
      )

  -- a test that fails
  pub unsound : (Parts t → ⊥) → false ≡ sound_table (board t) t
  unsound h = pass_together _ _ (λ e. absurd (clash e refl), λ e. absurd (h (sound_parts e)))
