-- Order 7 over the door: a tick of a sound table leaves the table of the next state, so n of them leave that of `ticks n`, which operation 21
-- makes at once; any other table gets −7 each time. Operation 22's value is that of the states. Assumes nothing.
use Rattle.std.specs.Prelude.{Ok}
use mathlib.Core.Bool.{false, true≢false, ◌&&◌}
use mathlib.Core.Path.{◌≡◌, refl, ap, sym, ◌∙◌}
use mathlib.Core.List.{List, [], ◌∷◌}
use Prim.Native.Nat.{ℕ, zero, suc, pred, ◌≤◌}
use native.Mathlib.Omega.{arith}
use lib.Dec.{eqb}
use lib.IntN.{ℤ, pos, negsuc}
use lib.ListN.{length}
use borrow.Author.Tests.{eqb-true, ne_eqb, le-ltb}
use Rattle.rules.specs.Board.{Board, most_ticks}
use Rattle.rules.specs.State.{State, at, waiting}
use Rattle.rules.specs.Table.{encode, decode}
use Rattle.rules.specs.Threads.{bad_ticks}
use Rattle.rules.specs.Time.{do_tick}
use Rattle.rules.specs.Sleep.{ticks, do_ticks, time_left, sooner, nearest, do_nearest}
use Rattle.rules.specs.Steps.{step}
use Rattle.rules.specs.Answers.{area_length, area_of}
use Rattle.rules.specs.Sound.{SoundTable}
use Rattle.rules.specs.Test.{sound_table}
use Rattle.rules.specs.Door.{answered, serve_decoded, door}
use Rattle.rules.specs.declared.Thread.{Thread}
use Rattle.rules.specs.declared.Reply.TheVariants.{Done}
use Rattle.rules.specs.declared.Request.TheVariants as Ask
use Rattle.laws.proofs.Split.{is, isnt, test, and_true}
use Rattle.laws.proofs.Tested.{tested_table, let_in}
use Rattle.layout.proofs.RoundTrip.{on_decode, decode_encode}
use Rattle.preservation.proofs.Frame.{on_ticks}
use Rattle.fairness.proofs.Calls.{ticked, ticked_says, ticked_sound}
use Rattle.leaps.proofs.Nearest.{nearest_end}
use Rattle.request.specs.Written.{written}
use Rattle.request.proofs.Back.{decode_written}
use Rattle.promises.specs.Slept.{tick_times, found, after_ticks, Soonest, Slept}

module _ (b : Board) where
  -- WHAT GETS −7 gets it each time, and nothing is written

  refused_times : (t a : List ℕ) → eqb (length a) area_length && sound_table b t ≡ false → (n : ℕ) (c : ℤ) → tick_times b (suc n) (found c t a) ≡ found (negsuc 6) t a
  unfolding tick_times door
  refused_times t a e zero c = rw e
  refused_times t a e (suc n) c = rw e (refused_times t a e n (negsuc 6))

  -- SINGLE TICKS OF A SOUND TABLE

  times : (n : ℕ) (t a : List ℕ) → SoundTable b t → length a ≡ area_length → (c : ℤ) → tick_times b (suc n) (found c t a) ≡ answered (encode (ticks (suc n) (decode b t))) (Ok (Done 0))
  unfolding tick_times ticks area_of
  times zero t a σ l c = ticked b t a σ l
  times (suc n) t a σ l c =
      let u = encode (do_tick (decode b t)).state in
      ap (tick_times b (suc n)) (ticked b t a σ l)
      ∙ times n u (area_of (Ok (Done 0))) (ticked_sound b t σ) refl (pos 0)
      ∙ ap (λ s. answered (encode (ticks (suc n) s)) (Ok (Done 0))) (ticked_says b t)

  -- the state that the table after n ticks says
  says : (t a : List ℕ) → SoundTable b t → length a ≡ area_length → (n : ℕ) → decode b (after_ticks b t a n) ≡ ticks n (decode b t)
  unfolding tick_times ticks
  says t a σ l zero = refl
  says t a σ l (suc n) = ap (λ d. decode b d.table) (times n t a σ l (pos 0)) ∙ decode_encode (on_ticks b (decode b t) (suc n) (on_decode b t))

  -- OPERATION 21

  at_once_lem : (t a : List ℕ) (n : ℕ) → SoundTable b t → length a ≡ area_length → bad_ticks n ≡ false
      → door b t (written (Ask.Ticks n)) a ≡ answered (encode (ticks n (decode b t))) (Ok (Done 0))
  unfolding serve_decoded step do_ticks
  at_once_lem t a n σ l e = let_in b t (written (Ask.Ticks n)) a σ l ∙ rw (decode_written (Ask.Ticks n), e)

  same : (t a : List ℕ) (c : ℤ) (n : ℕ) → bad_ticks n ≡ false → door b t (written (Ask.Ticks n)) a ≡ tick_times b n (found c t a)
  unfolding door
  same t a c zero h = absurd (true≢false h)
  same t a c (suc n) h = elim (test (eqb (length a) area_length && sound_table b t)) [
    | is e ↦
        let x = and_true (eqb (length a) area_length) (sound_table b t) e in
        let σ = (tested_table b t).0 x.1 in
        let l = eqb-true (length a) area_length x.0 in
        at_once_lem t a (suc n) σ l h ∙ sym (times n t a σ l c)
    | isnt e ↦ rw e (sym (refused_times t a e n c))
  ]

-- OPERATION 22

-- no wait is longer than 99,999 ticks
nearest_fits : (m : ℕ) (ts : List Thread) → ((i : ℕ) → time_left (at ts i).wait ≤ m) → nearest ts ≤ m
unfolding nearest
nearest_fits m [] h = omega arith
nearest_fits m (t ∷ ts) h = sooner_fits (time_left t.wait) (nearest ts) (h 0) (nearest_fits m ts (λ i. h (suc i)))
  where
    sooner_fits : (x y : ℕ) → x ≤ m → y ≤ m → sooner x y ≤ m
    sooner_fits x y p q = elim (test (eqb x 0)) [
      | is e ↦ rw e q
      | isnt e ↦ elim (test (eqb y 0)) [ is f ↦ rw (e, f) p | isnt f ↦ rw (e, f) (omega arith) ]
    ]

module _ (b : Board) (t a : List ℕ) (σ : SoundTable b t) (l : length a ≡ area_length) where
  abbrev s : State
  s = decode b t

  -- a free thread doesn't wait, and any other has a counter in range
  fits : nearest s.threads ≤ 99999
  fits = nearest_fits 99999 s.threads (λ i. elim (test (at s.threads i).used) [
    | isnt u ↦ rw (σ.state.free_thread i u) (omega arith)
    | is u ↦ elim (test (waiting (at s.threads i).wait)) [
      | is e ↦ rw e ((σ.state.threads i u).timed e)
      | isnt e ↦ rw e (omega arith)
    ]
  ])

  answers : door b t (written Ask.Nearest) a ≡ answered t (Ok (Done (nearest s.threads)))
  unfolding serve_decoded step do_nearest
  answers = let_in b t (written Ask.Nearest) a σ l ∙ rw (decode_written Ask.Nearest, ← σ.meaning)

  soonest : Soonest b t a (door b t (written Ask.Nearest) a)
  soonest =
      let v = nearest s.threads in
      let n = nearest_end s σ.state in
      record {
        value = v;
        fits = fits;
        answer = answers;
        before = λ k h i w. rw (says b t a σ l k) (n.before k (omega arith) i w);
        after = λ h.
            let p : suc (pred v) ≡ v = omega arith in
            let x = rw p at (n.then (pred v) p) in
            record { thread = x.thread; waited = x.waited; timed = x.timed; ended = rw (says b t a σ l v) x.ended };
        none = λ z k i w. rw (says b t a σ l k) (n.none z k i w);
      }

pub slept : Slept
slept = record {
  same = λ b t a c n low high. same b t a c n (rw (ne_eqb n 0 (omega arith), le-ltb most_ticks n (omega arith)));
  nearest = soonest;
}
