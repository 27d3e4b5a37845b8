-- The former Set is operations 24 and 23, in either order. A turn leaves a thread in its line, so that who stands behind it moves up as before;
-- a counter that is filled twice is filled; and of two settlings the second decides. Assumes nothing.
use Rattle.std.specs.Prelude.{if◌then◌else◌, Err, Ok}
use mathlib.Core.Bool.{Bool, true, false, not, ◌&&◌, and-false}
use mathlib.Core.Path.{◌≡◌, refl, ap, sym, ◌∙◌}
use mathlib.Core.List.{List}
use mathlib.Core.Logic.{◌≢◌}
use Prim.Native.Nat.{ℕ, ◌<◌}
use native.Mathlib.Omega.{arith}
use native.Mathlib.Decide.{ℕ_discrete}
use lib.Dec.{eqb}
use lib.ListN.{length, set}
use lib.Seq.{ext_get_or, set-get_or}
use borrow.Author.Tests.{eq-eqb, ne_eqb, le-ltb}
use Rattle.rules.specs.Board.{Board, top_priority}
use Rattle.rules.specs.State.{State, free, at, with_counter_of, is_ready, with_place, with_wait, with_priority, with_turn, with_threads, edit}
use Rattle.rules.specs.Lines.{Line, same, line, in_line, line_length, move_up, filled, move, settle}
use Rattle.rules.specs.Table.{encode, decode}
use Rattle.rules.specs.Answers.{area_length}
use Rattle.rules.specs.Waiting.{Step, accept_threads}
use Rattle.rules.specs.Threads.{no_thread, bad_priority, bad_ticks, do_set_priority, do_set_turn}
use Rattle.rules.specs.Steps.{step}
use Rattle.rules.specs.Sound.{Sound, SoundTable}
use Rattle.rules.specs.Door.{answered, serve_decoded, door}
use Rattle.rules.specs.declared.Thread.{Thread}
use Rattle.rules.specs.declared.Wait.{Wait}
use Rattle.rules.specs.declared.Wait.TheVariants.{Nothing, Delay, Receive, Send, Semaphore}
use Rattle.rules.specs.declared.Reply.TheVariants.{Done}
use Rattle.rules.specs.declared.Refusal.{Refusal}
use Rattle.rules.specs.declared.Request.{Request}
use Rattle.rules.specs.declared.Request.TheVariants as Ask
use Rattle.laws.proofs.Split.{is, isnt, test, if_case}
use Rattle.laws.proofs.Reflect.{reflect}
use Rattle.laws.proofs.Lines.{line_counter, ready_counter, filled_field, line_filled}
use Rattle.laws.proofs.Members.{edit_same, edit_other, length_edit, count_ext, used_range}
use Rattle.laws.proofs.Moves.{length_move, move_other, move_self, changed, changed_self, changed_other, length_changed}
use Rattle.laws.proofs.Top.{settle_sound}
use Rattle.laws.proofs.Tested.{let_in}
use Rattle.layout.proofs.Held.{edit_edit}
use Rattle.layout.proofs.RoundTrip.{on_decode, decode_encode}
use Rattle.layout.proofs.Sound.{encode_sound}
use Rattle.preservation.proofs.Frame.{on_kept}
use Rattle.preservation.proofs.Steps.{kept}
use Rattle.fairness.proofs.Operations.{settle_threads}
use Rattle.request.specs.Written.{written}
use Rattle.request.proofs.Back.{decode_written}
use Rattle.promises.specs.FormerSet.{with_settings, former_set, Gives, FormerSet, SamePriority}

-- A COUNTER THAT IS FILLED

recounted : (m n : ℕ) (w : Wait) → with_counter_of n (with_counter_of m w) ≡ with_counter_of n w
recounted m n (Nothing k) = refl
recounted m n (Delay k) = refl
recounted m n (Receive k) = refl
recounted m n (Send i k) = refl
recounted m n (Semaphore i k) = refl

-- a thread that was filled before it was given a turn is then filled with that turn
filled_anew : (n : ℕ) (t : Thread) → filled (with_turn n (filled t)) ≡ filled (with_turn n t)
filled_anew n t = elim (test (is_ready t)) [
  | is e ↦ rw (e, ready_counter t.turn t, e) (ap (λ w. with_wait w (with_turn n t)) (recounted t.turn n t.wait))
  | isnt e ↦ rw (e, e)
]

-- a thread that was filled first goes to its place as one that was not
filled_first : (p q : ℕ) (t : Thread) → filled (with_place q (with_priority p (with_place 0 (filled t)))) ≡ filled (with_place q (with_priority p (with_place 0 t)))
filled_first p q t = elim (test (is_ready t)) [
  | is e ↦ rw (e, ready_counter t.turn t, e) (ap (λ w. with_wait w (with_place q (with_priority p t))) (recounted t.turn t.turn t.wait))
  | isnt e ↦ rw (e, e)
]

priority_filled : (p : ℕ) (t : Thread) → with_priority p (filled t) ≡ filled (with_priority p t)
priority_filled p t = elim (test (is_ready t)) [ is e ↦ rw e | isnt e ↦ rw e ]

-- A CHANGE BEFORE A MOVE, AND BEHIND IT

-- two lists right before thread i joins, which differ in nothing but thread i: where it goes to one line, that line is as long in both
as_long : (i : ℕ) (us ts : List Thread) (g k : Thread → Thread) → i < length ts → length us ≡ length ts
    → line (g (with_place 0 (at us i))) ≡ line (k (with_place 0 (at ts i))) → ((j : ℕ) → j ≢ i → at (changed i g us) j ≡ at (changed i k ts) j)
    → (l : Line) → line_length l (changed i g us) ≡ line_length l (changed i k ts)
as_long i us ts g k h e new others l =
    count_ext (in_line l) (changed i k ts) (changed i g us) (length_changed i g us ∙ e ∙ sym (length_changed i k ts)) (λ j. elim (ℕ_discrete j i) [
      | yes q ↦ rw (q, changed_self i g us (rw e h), changed_self i k ts h) (ap (λ m. same m l) new)
      | no q ↦ ap (in_line l) (others j q)
    ])

module _ (i : ℕ) (ts : List Thread) (h : i < length ts) where
  -- thread i is changed by f, which leaves it where it stands, and moves by g: as if it moved by k at once
  move_edited : (f g k : Thread → Thread) → line (f (at ts i)) ≡ line (at ts i) → (f (at ts i)).place ≡ (at ts i).place
      → line (g (with_place 0 (f (at ts i)))) ≡ line (k (with_place 0 (at ts i)))
      → ((q : ℕ) → filled (with_place q (g (with_place 0 (f (at ts i))))) ≡ filled (with_place q (k (with_place 0 (at ts i)))))
      → move i g (edit i f ts) ≡ move i k ts
  move_edited f g k l z new full =
      let us = edit i f ts in
      let e : length us ≡ length ts = length_edit ts i f in
      let self : at us i ≡ f (at ts i) = edit_same ts i f h in
      let others : (j : ℕ) → j ≢ i → move_up (line (at us i)) (at us i).place (at us j) ≡ move_up (line (at ts i)) (at ts i).place (at ts j) = λ j q.
      rw (edit_other ts i j f q, self, l, z) in
      let long = as_long i us ts g k h e (rw self new) (λ j q. changed_other i j g us q ∙ others j q ∙ sym (changed_other i j k ts q)) in
      ext_get_or free (move i g us) (move i k ts) (length_move i g us ∙ e ∙ sym (length_move i k ts)) (λ j r. elim (ℕ_discrete j i) [
        | yes q ↦ rw (q, move_self i g us (rw e h), move_self i k ts h, self, new, long (line (k (with_place 0 (at ts i))))) (full (line_length (line (k (with_place 0 (at ts i)))) (changed i k ts)))
        | no q ↦ move_other i j g us q ∙ others j q ∙ sym (move_other i j k ts q)
      ])

  -- thread i moves by g, and is then changed by f: as if it moved by k at once
  edit_moved : (f g k : Thread → Thread) → line (g (with_place 0 (at ts i))) ≡ line (k (with_place 0 (at ts i)))
      → ((q : ℕ) → f (filled (with_place q (g (with_place 0 (at ts i))))) ≡ filled (with_place q (k (with_place 0 (at ts i)))))
      → edit i f (move i g ts) ≡ move i k ts
  edit_moved f g k new full =
      let us = move i g ts in
      let long = as_long i ts ts g k h refl new (λ j q. changed_other i j g ts q ∙ sym (changed_other i j k ts q)) in
      ext_get_or free (edit i f us) (move i k ts) (length_edit us i f ∙ length_move i g ts ∙ sym (length_move i k ts)) (λ j r. elim (ℕ_discrete j i) [
        | yes q ↦ rw (q, edit_same us i f (rw (length_move i g ts) h), move_self i g ts h, move_self i k ts h, new, long (line (k (with_place 0 (at ts i))))) (full (line_length (line (k (with_place 0 (at ts i)))) (changed i k ts)))
        | no q ↦ edit_other us i j f q ∙ move_other i j g ts q ∙ sym (move_other i j k ts q)
      ])

-- of two settlings the second decides
settled_again : (s : State) (us vs : List Thread) → accept_threads (settle (with_threads us s)) vs ≡ accept_threads s vs
unfolding settle
settled_again s us vs = elim (test (eqb s.lock 0)) [ is e ↦ rw (e, e) | isnt e ↦ rw (e, e) ]

-- WHAT IS ACCEPTED

refused_not : (why : Refusal) → Err why ≡ Ok (Done 0) → ⊥
refused_not why e = let z : ◌≡◌ {A = ℕ} 0 1 = cc in omega arith

-- thread i is in use, and is not Init
record Open (s : State) (i : ℕ) : Type 0 where
  used : no_thread s i ≡ false
  other : eqb i 0 ≡ false

abbrev Done0 : Step → Type 0
Done0 r = r.answer ≡ Ok (Done 0)

turn_open : (s : State) (i n : ℕ) → Done0 (do_set_turn s i n) → (bad_ticks n ≡ false) × Open s i
unfolding do_set_turn
turn_open s i n =
    let P : Step → Type 0 = λ r. Done0 r → (bad_ticks n ≡ false) × Open s i in
    if_case P (bad_ticks n) (λ a h. absurd (refused_not _ h)) (λ a.
    if_case P (no_thread s i) (λ b h. absurd (refused_not _ h)) (λ b.
    if_case P (eqb i 0) (λ c h. absurd (refused_not _ h)) (λ c h. (a, record { used = b; other = c }))))

priority_open : (s : State) (i p : ℕ) → Done0 (do_set_priority s i p) → bad_priority p ≡ false
unfolding do_set_priority
priority_open s i p = if_case (λ (r : Step). Done0 r → bad_priority p ≡ false) (bad_priority p) (λ a h. absurd (refused_not _ h)) (λ a h. a)

former_open : (s : State) (i p n : ℕ) → Done0 (former_set s i p n) → (bad_priority p ≡ false) × (bad_ticks n ≡ false) × Open s i
unfolding former_set
former_open s i p n =
    let P : Step → Type 0 = λ r. Done0 r → (bad_priority p ≡ false) × (bad_ticks n ≡ false) × Open s i in
    if_case P (bad_priority p) (λ a h. absurd (refused_not _ h)) (λ a.
    if_case P (bad_ticks n) (λ b h. absurd (refused_not _ h)) (λ b.
    if_case P (no_thread s i) (λ c h. absurd (refused_not _ h)) (λ c.
    if_case P (eqb i 0) (λ d h. absurd (refused_not _ h)) (λ d h. (a, b, record { used = c; other = d })))))

-- does thread i, given that priority, go to another line
abbrev goes : State → ℕ → ℕ → Bool
goes s i p = is_ready (at s.threads i) && not (eqb (at s.threads i).priority p)

former : (s : State) (i p n : ℕ) → bad_priority p ≡ false → bad_ticks n ≡ false → Open s i
    → former_set s i p n ≡ (if goes s i p then accept_threads s (move i (with_settings p n) s.threads) else accept_threads s (edit i (λ t. filled (with_settings p n t)) s.threads))
unfolding former_set
former s i p n a b o = rw (a, b, o.used, o.other)

turned : (s : State) (i n : ℕ) → bad_ticks n ≡ false → Open s i → do_set_turn s i n ≡ accept_threads s (edit i (λ t. filled (with_turn n t)) s.threads)
unfolding do_set_turn
turned s i n b o = rw (b, o.used, o.other)

ranked : (s : State) (i p : ℕ) → bad_priority p ≡ false → Open s i
    → do_set_priority s i p ≡ (if goes s i p then accept_threads s (move i (with_priority p) s.threads) else accept_threads s (edit i (with_priority p) s.threads))
unfolding do_set_priority
ranked s i p a o = rw (a, o.used, o.other)

done_if : (s : State) (c : Bool) (us vs : List Thread) → Done0 (if c then accept_threads s us else accept_threads s vs)
done_if s true us vs = refl
done_if s false us vs = refl

if_both : {A : Type 0} (f : A → A) (c : Bool) {x y v w : A} → f x ≡ v → f y ≡ w → f (if c then x else y) ≡ (if c then v else w)
if_both f true d e = d
if_both f false d e = e

-- a thread that is changed, and still in use, may be set as before
open_behind : (s : State) (us : List Thread) (i : ℕ) → (at us i).used ≡ (at s.threads i).used → Open s i → Open (settle (with_threads us s)) i
open_behind s us i e o = record { used = rw (settle_threads (with_threads us s), e) o.used; other = o.other }

module _ (s : State) (i p n : ℕ) (a : bad_priority p ≡ false) (b : bad_ticks n ≡ false) (o : Open s i) where
  abbrev x : Thread
  x = at s.threads i

  h : i < length s.threads
  h = used_range s.threads i (simp reflect at o.used)

  -- 23 BEHIND 24

  -- the thread with its new turn
  abbrev y : Thread
  y = with_turn n x

  abbrev us : List Thread
  us = edit i (λ t. filled (with_turn n t)) s.threads

  there : at us i ≡ filled y
  there = edit_same s.threads i (λ t. filled (with_turn n t)) h

  -- where it goes is as before
  goes_still : is_ready (at us i) && not (eqb (at us i).priority p) ≡ goes s i p
  goes_still = ap (λ t. is_ready t && not (eqb t.priority p)) there ∙ filled_field (λ t. is_ready t && not (eqb t.priority p)) y (ap (λ r. r && not (eqb x.priority p)) (ready_counter n y))

  turn_first_lem : do_set_priority (settle (with_threads us s)) i p ≡ former_set s i p n
  turn_first_lem =
      let u = settle (with_threads us s) in
      let ways : Bool → List Thread → Step = λ c vs. if c then accept_threads u (move i (with_priority p) vs) else accept_threads u (edit i (with_priority p) vs) in
      ranked u i p a (open_behind s us i (ap (λ t. t.used) there ∙ filled_field (λ t. t.used) y refl) o)
      ∙ ap (λ vs. ways (is_ready (at vs i) && not (eqb (at vs i).priority p)) vs) (settle_threads (with_threads us s))
      ∙ ap (λ c. ways c us) goes_still
      ∙ if_both (λ r. r) (goes s i p)
      (settled_again s us (move i (with_priority p) us) ∙ ap (accept_threads s) (move_edited i s.threads h (λ t. filled (with_turn n t)) (with_priority p) (with_settings p n)
      (line_filled y) (filled_field (λ t. t.place) y refl) (filled_field (λ t. line (with_priority p (with_place 0 t))) y (line_counter n (with_priority p (with_place 0 y)))) (λ q. filled_first p q y)))
      (settled_again s us (edit i (with_priority p) us) ∙ ap (accept_threads s) (edit_edit s.threads i (λ t. filled (with_turn n t)) (with_priority p) h ∙ ap (set s.threads i) (priority_filled p y)))
      ∙ sym (former s i p n a b o)

  -- 24 BEHIND 23

  turn_behind : (vs ws : List Thread) → (at vs i).used ≡ x.used → edit i (λ t. filled (with_turn n t)) vs ≡ ws → do_set_turn (settle (with_threads vs s)) i n ≡ accept_threads s ws
  turn_behind vs ws e f =
      turned (settle (with_threads vs s)) i n b (open_behind s vs i e o)
      ∙ ap (λ us. accept_threads (settle (with_threads vs s)) (edit i (λ t. filled (with_turn n t)) us)) (settle_threads (with_threads vs s))
      ∙ settled_again s vs (edit i (λ t. filled (with_turn n t)) vs) ∙ ap (accept_threads s) f

  priority_first_lem : do_set_turn (do_set_priority s i p).state i n ≡ former_set s i p n
  priority_first_lem =
      let moved = move i (with_priority p) s.threads in
      let edited = edit i (with_priority p) s.threads in
      let place = line_length (line (with_priority p (with_place 0 x))) (changed i (with_priority p) s.threads) in
      ap (λ r. do_set_turn r.state i n) (ranked s i p a o)
      ∙ if_both (λ r. do_set_turn r.state i n) (goes s i p)
      (turn_behind moved _ (ap (λ t. t.used) (move_self i (with_priority p) s.threads h) ∙ filled_field (λ t. t.used) (with_place place (with_priority p (with_place 0 x))) refl)
      (edit_moved i s.threads h (λ t. filled (with_turn n t)) (with_priority p) (with_settings p n) refl (λ q. filled_anew n (with_place q (with_priority p (with_place 0 x))))))
      (turn_behind edited _ (ap (λ t. t.used) (edit_same s.threads i (with_priority p) h)) (edit_edit s.threads i (with_priority p) (λ t. filled (with_turn n t)) h))
      ∙ sym (former s i p n a b o)

-- OVER BYTES

-- a request that is accepted, at a sound table
called : (b : Board) (t a : List ℕ) (q : Request) → SoundTable b t → length a ≡ area_length
    → door b t (written q) a ≡ answered (encode (step (decode b t) q).state) (step (decode b t) q).answer
unfolding serve_decoded
called b t a q σ l = let_in b t (written q) a σ l ∙ ap (serve_decoded b t) (decode_written q)

at_the_door_lem : (b : Board) (t a c : List ℕ) (q r : Request) (x : Step) → SoundTable b t → length a ≡ area_length → length c ≡ area_length → Gives (decode b t) q r x
    → door b (door b t (written q) a).table (written r) c ≡ answered (encode x.state) x.answer
at_the_door_lem b t a c q r x σ l m g =
    let s = decode b t in
    let u = (step s q).state in
    let on = on_kept b s q (on_decode b t) in
    ap (λ d. door b d.table (written r) c) (called b t a q σ l)
    ∙ called b (encode u) c r (encode_sound b u on (kept s q σ.state)) m
    ∙ ap (λ s. answered (encode (step s r).state) (step s r).answer) (decode_encode on)
    ∙ ap (λ x. answered (encode x.state) x.answer) g.ends

turn_first_gives : (s : State) (i p n : ℕ) → Done0 (former_set s i p n) → Gives s (Ask.SetTurn i n) (Ask.SetPriority i p) (former_set s i p n)
unfolding step
turn_first_gives s i p n e =
    let r = former_open s i p n e in
    let done = turned s i n r.1 r.2 in
    record { begins = ap (λ r. r.answer) done; ends = ap (λ r. do_set_priority r.state i p) done ∙ turn_first_lem s i p n r.0 r.1 r.2 }

priority_first_gives : (s : State) (i p n : ℕ) → Done0 (former_set s i p n) → Gives s (Ask.SetPriority i p) (Ask.SetTurn i n) (former_set s i p n)
unfolding step
priority_first_gives s i p n e =
    let r = former_open s i p n e in
    record { begins = rw (ranked s i p r.0 r.2) (done_if s (goes s i p) _ _); ends = priority_first_lem s i p n r.0 r.1 r.2 }

both_accepted : (s : State) (i p n : ℕ) → Done0 (step s (Ask.SetTurn i n)) → Done0 (step s (Ask.SetPriority i p)) → Done0 (former_set s i p n)
unfolding step
both_accepted s i p n d e = let r = turn_open s i n d in rw (former s i p n (priority_open s i p e) r.0 r.1) (done_if s (goes s i p) _ _)

pub former_set_lem : FormerSet
former_set_lem = record {
  turn_first = turn_first_gives;
  priority_first = priority_first_gives;
  accepted = both_accepted;
  at_the_door = λ b t a c i p n σ l m e.
      let s = decode b t in
      at_the_door_lem b t a c (Ask.SetTurn i n) (Ask.SetPriority i p) (former_set s i p n) σ l m (turn_first_gives s i p n e) ∙ ap (answered (encode (former_set s i p n).state)) e;
}

-- THE SAME PRIORITY

-- a ready thread that has the priority stays where it is, and any other too
goes_not : (s : State) (i : ℕ) → goes s i (at s.threads i).priority ≡ false
goes_not s i = let p = (at s.threads i).priority in rw (eq-eqb p p refl) (and-false (is_ready (at s.threads i)))

unchanged : (s : State) (i : ℕ) → Sound s → Open s i → do_set_priority s i (at s.threads i).priority ≡ record { state = s; answer = Ok (Done 0) }
unchanged s i σ o =
    let p = (at s.threads i).priority in
    ranked s i p (le-ltb top_priority p (σ.threads i (simp reflect at o.used)).priority) o
    ∙ rw (goes_not s i, set-get_or s.threads i free, settle_sound s σ) refl

pub same_priority : SamePriority
unfolding step
same_priority b t a i σ l low u =
    let s = decode b t in
    let o : Open s i = record { used = ap not u; other = ne_eqb i 0 (omega arith) } in
    called b t a (Ask.SetPriority i (at s.threads i).priority) σ l
    ∙ ap (λ r. answered (encode r.state) r.answer) (unchanged s i σ.state o)
    ∙ ap (λ t. answered t (Ok (Done 0))) (sym σ.meaning)
