-- Soundness is kept by the operations on semaphores: Make, Drop, Pend, Abort, Post, Post from interrupt. A semaphore's count rises above
-- 0, and its record becomes free, only where nobody waits on it. Assumes nothing.
use mathlib.Core.Bool.{true, false, ◌||◌}
use mathlib.Core.Path.{◌≡◌, refl}
use Prim.Native.Nat.{ℕ, pred, ◌≤◌, min}
use native.Mathlib.Omega.{arith}
use lib.Dec.{leb, ltb}
use lib.ListN.{length, set}
use Rattle.rules.specs.Board.{most_ticks, most_count}
use Rattle.rules.specs.State.{State, free_sem, sem_at, caller, with_threads, with_sems}
use Rattle.rules.specs.Lines.{waiters, line_length}
use Rattle.rules.specs.Waiting.{serve}
use Rattle.rules.specs.Semaphores.{no_sem, count_of, with_count, too_many, posted, do_make, do_drop, do_pend, do_post, do_post_from_interrupt}
use Rattle.rules.specs.Sound.{Sound}
use Rattle.rules.specs.declared.Wait.TheVariants.{Semaphore}
use Rattle.rules.specs.declared.Outcome.TheVariants.{Done, Failed}
use Rattle.laws.proofs.Split.{clash, and_true}
use Rattle.laws.proofs.Reflect.{reflect}
use Rattle.preservation.proofs.Fit.{Meets}
use Rattle.preservation.proofs.Changes.{Begins}
use Rattle.preservation.proofs.Waits.{meets_serve, semaphore, serve_count}
use Rattle.preservation.proofs.Settled.{asks, SoundSem, Unsettled, sound_meets, kept_sem}
use Rattle.preservation.proofs.Safe.{Safe, ladder, safe_wait}

counted : (n : ℕ) → n ≤ most_count → SoundSem (record { used = true; count = n })
counted n h = record { blank = λ e. absurd (clash refl e); most = h }

module _ (s : State) (σ : Sound s) where
  v : Meets (asks s) s.threads
  v = sound_meets σ

  makes : (k n : ℕ) → leb (length s.sems) k || (sem_at s.sems k).used ≡ false → ltb most_count n ≡ false → Unsettled (with_count k n s)
  makes k n a b = kept_sem s.threads σ k _ v (counted n (simp reflect at b))
      (λ m q. let x = simp reflect at a in absurd (clash (and_true _ _ q).0 x.1))

  pub safe_make : (k n : ℕ) → Safe (do_make s k n)
  unfolding do_make
  safe_make k n = search (ladder, makes) depth 8

  drops : (k : ℕ) → Unsettled (with_sems (set s.sems k free_sem) (with_threads (serve (line_length (waiters k) s.threads) (waiters k) Failed s.threads) s))
  drops k =
      let n = line_length (waiters k) s.threads in
      kept_sem _ σ k free_sem (meets_serve n (waiters k) Failed v) (record { blank = λ e. refl; most = omega arith })
      (λ m q. absurd (omega (arith, serve_count n (waiters k) (semaphore k) Failed s.threads v)))

  pub safe_drop : (k : ℕ) → Safe (do_drop s k)
  unfolding do_drop
  safe_drop k = search (ladder, drops) depth 8

  takes : (k : ℕ) → ltb 0 (count_of s k) ≡ true → Unsettled (with_count k (pred (count_of s k)) s)
  takes k e = kept_sem s.threads σ k _ v (counted _ (omega (arith, σ.counts k)))
      (λ m q. let x = simp reflect at q in let y : 1 ≤ count_of s k = simp reflect at e in absurd (omega (arith, x.1)))

  awaits : (k : ℕ) → no_sem s k ≡ false → ltb 0 (count_of s k) ≡ false → (c : ℕ) → c ≤ most_ticks → Begins (asks s) s.running (caller s) (Semaphore k c) 0
  awaits k a b c h = record {
    waits = refl;
    delay = λ q. absurd (clash q refl);
    timed = h;
    receiver = λ q. absurd (clash q refl);
    parcel = λ q. refl;
    stands = let u = simp reflect at a in let z : count_of s k ≤ 0 = simp reflect at b in simp reflect (u, omega arith);
  }

  pub safe_pend : (k n : ℕ) → Safe (do_pend s k n)
  unfolding do_pend
  safe_pend k n = search (ladder, safe_wait, takes, awaits) depth 8

  -- a unit is left over only where all waiters are served
  posts : (k n : ℕ) → too_many s k n ≡ false → Unsettled (posted s k n)
  unfolding posted
  posts k n e =
      let m = min n (line_length (waiters k) s.threads) in
      let x = simp reflect at e in
      kept_sem _ σ k _ (meets_serve m (waiters k) Done v) (counted _ (omega (arith, x.1)))
      (λ j q. let y = simp reflect at q in simp reflect (refl, omega (arith, y.1, serve_count m (waiters k) (semaphore k) Done s.threads v)))

  pub safe_post : (k n : ℕ) → Safe (do_post s k n)
  unfolding do_post
  safe_post k n = search (ladder, posts) depth 8

  pub safe_post_from_interrupt : (k n : ℕ) → Safe (do_post_from_interrupt s k n)
  unfolding do_post_from_interrupt
  safe_post_from_interrupt k n = search (ladder, safe_post) depth 8
