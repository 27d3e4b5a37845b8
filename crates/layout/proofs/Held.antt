-- Tables that hold states: bytes written into one record of such a table make the table of the state with that record changed,
-- and steps follow one another. Assumes nothing.
use mathlib.Core.Path.{◌≡◌, refl, sym, ap, subst, ◌∙◌}
use mathlib.Core.List.{List, [], ◌∷◌}
use Prim.Native.Nat.{ℕ, ◌+◌, ◌*◌, ◌<◌}
use lib.ListN.{length, set, length-set}
use lib.Seq.{set-set, set-get_or}
use Rattle.rules.specs.Board.{board_of, record_length}
use Rattle.rules.specs.State.{State, On, free, at, edit, with_threads, with_running, with_lock}
use Rattle.rules.specs.Lines.{line, ready_word}
use Rattle.rules.specs.Table.{word_at, thread_row, sem_row, kernel_row, encode_with, encode, decode}
use Rattle.rules.specs.declared.Thread.{Thread}
use Rattle.rules.specs.declared.Sem.{Sem}
use Rattle.laws.proofs.Members.{edit_same, length_edit}
use Rattle.laws.proofs.Word.{word_edit}
use Rattle.layout.specs.Bytes.{sems_from, kernel_from, word_from, Put, put_word, puts}
use Rattle.layout.specs.Boards.{HasThread, HasSem}
use Rattle.layout.specs.Held.{board, Long, said, Holds, Whole, Becomes, Shows, Laid, Changes, on_threads, on_sems}
use Rattle.layout.proofs.Boards.{Sized, has_thread, has_sem, said_on, sized}
use Rattle.layout.proofs.Flat.{Within}
use Rattle.layout.proofs.Records.{length_encode, thread_puts, sem_puts, kernel_puts}
use Rattle.layout.proofs.RoundTrip.{decode_with}
use Rattle.layout.proofs.Canonical.{word_back}

module _ {t : List ℕ} where
  pub holds_on : {s : State} → Holds t s → On (board t) s
  holds_on h = said_on t h.says

  pub holds_whole : {s : State} → Holds t s → Whole t
  unfolding encode
  holds_whole {s} h = record {
    long = record { fits = ap length h.bytes ∙ length_encode (holds_on h) (ready_word s.threads) };
    meaning = h.bytes ∙ ap encode (sym h.says);
  }

  pub whole_says : Whole t → {s : State} → said t ≡ s → Holds t s
  whole_says w e = record { bytes = w.meaning ∙ ap encode e; says = e }

  pub whole_holds : Whole t → Holds t (said t)
  whole_holds w = whole_says w refl

  pub holds_sized : {s : State} → Holds t s → Sized t s
  holds_sized h = sized (holds_whole h).long h.says

module _ {t : List ℕ} where
  -- what is so of every state that a whole table may hold
  pub becomes : {t' : List ℕ} {rule : State → State} → Whole t → ((s : State) → Holds t s → Holds t' (rule s)) → Becomes t t' rule
  becomes w f = record { whole = holds_whole (f _ (whole_holds w)); holds = f }

  -- one step after the other
  infixl 20 ◌⨾◌
  pub ◌⨾◌ : {t' t'' : List ℕ} {f g : State → State} → Becomes t t' f → Becomes t' t'' g → Becomes t t'' (λ s. g (f s))
  p ⨾ q = record { whole = q.whole; holds = λ s h. q.holds _ (p.holds s h) }

  -- the same by another rule
  pub becomes_as : {t' : List ℕ} {f g : State → State} → Becomes t t' f → ((s : State) → Holds t s → f s ≡ g s) → Becomes t t' g
  becomes_as {t'} p e = record { whole = p.whole; holds = λ s h. subst (λ z. Holds t' z) (e s h) (p.holds s h) }

  -- nothing is written
  pub becomes_same : {g : State → State} → Whole t → ((s : State) → Holds t s → s ≡ g s) → Becomes t t g
  becomes_same w e = becomes w (λ s h. subst (λ z. Holds t z) (e s h) h)

-- THE PROMISES ARE TIGHT

-- two tables that a writer may leave are one
pub becomes_one : {t t' t'' : List ℕ} {rule : State → State} → Whole t → Becomes t t' rule → Becomes t t'' rule → t' ≡ t''
becomes_one w p q = (p.holds _ (whole_holds w)).bytes ∙ sym (q.holds _ (whole_holds w)).bytes

-- two answers that a reader may give are one
pub said_one : {A : Type 0} {x y : A} (t : List ℕ) (read : State → A) → ((s : State) → said t ≡ s → x ≡ read s) → ((s : State) → said t ≡ s → y ≡ read s) → x ≡ y
said_one t read p q = p (said t) refl ∙ sym (q (said t) refl)

-- CHANGES OF ONE THREAD

-- two changes are one
pub edit_edit : (ts : List Thread) (i : ℕ) (f g : Thread → Thread) → i < length ts → edit i g (edit i f ts) ≡ edit i (λ x. g (f x)) ts
edit_edit ts i f g h = rw (edit_same ts i f h) (set-set ts i (f (at ts i)) (g (f (at ts i))))

-- what a change does goes by the thread that was read
module _ {t : List ℕ} (i : ℕ) (x : Thread) (is : (s : State) → said t ≡ s → x ≡ at s.threads i) where
  pub edit_as : {t' : List ℕ} (f g : Thread → Thread) → f x ≡ g x → Becomes t t' (on_threads (edit i f)) → Becomes t t' (on_threads (edit i g))
  edit_as f g e p =
      becomes_as p (λ s h. let r = is s h.says in ap (λ y. with_threads (set s.threads i y) s) (sym (ap f r) ∙ e ∙ ap g r))

  pub edit_kept : (g : Thread → Thread) → g x ≡ x → Whole t → Becomes t t (on_threads (edit i g))
  edit_kept g e w =
      becomes_same w (λ s h. let r = is s h.says in
      ap (λ ts. with_threads ts s) (sym (ap (set s.threads i) (sym (ap g r) ∙ e ∙ r) ∙ set-get_or s.threads i free)))

-- BUT FOR THE READY WORD

module _ {t : List ℕ} where
  -- the word that is shown is the one that the table holds
  pub shows_word : {s : State} {word : ℕ} → Shows t s word → word_at t (word_from (board t)) ≡ word
  shows_word {word = word} h = ap (λ l. word_at l (word_from (board t))) h.bytes ∙ word_back (said_on t h.says) word

  pub shows_laid : {s : State} {word : ℕ} → Shows t s word → Laid t
  shows_laid {word = word} h = record {
    long = record { fits = ap length h.bytes ∙ length_encode (said_on t h.says) word };
    meaning = h.bytes ∙ (λ j. encode_with (sym (shows_word h) j) (sym h.says j));
  }

  pub laid_shows : Laid t → Shows t (said t) (word_at t (word_from (board t)))
  laid_shows l = record { bytes = l.meaning; says = refl }

  -- a table that holds a state shows it with the word of its lines, and the other way round
  pub holds_shows : {s : State} → Holds t s → Shows t s (ready_word s.threads)
  unfolding encode
  holds_shows h = record { bytes = h.bytes; says = h.says }

  pub shows_holds : {s : State} {word : ℕ} → Shows t s word → word ≡ ready_word s.threads → Holds t s
  unfolding encode
  shows_holds {s} h e = record { bytes = h.bytes ∙ ap (λ w. encode_with w s) e; says = h.says }

  pub whole_laid : Whole t → Laid t
  whole_laid w = shows_laid (holds_shows (whole_holds w))

  pub whole_word : Whole t → word_at t (word_from (board t)) ≡ ready_word (said t).threads
  whole_word w = shows_word (holds_shows (whole_holds w))

module _ {t : List ℕ} where
  -- what is so of every state that a laid table may show
  pub changes : {t' : List ℕ} {rule : State → State} → Laid t → ((s : State) (word : ℕ) → Shows t s word → Shows t' (rule s) word) → Changes t t' rule
  changes l f = record { laid = shows_laid (f _ _ (laid_shows l)); shows = f }

  -- one change after the other
  infixl 20 ◌⨟◌
  pub ◌⨟◌ : {t' t'' : List ℕ} {f g : State → State} → Changes t t' f → Changes t' t'' g → Changes t t'' (λ s. g (f s))
  p ⨟ q = record { laid = q.laid; shows = λ s w h. q.shows _ w (p.shows s w h) }

  -- the same by another rule
  pub changes_as : {t' : List ℕ} {f g : State → State} → Changes t t' f → ((s : State) → On (board t) s → f s ≡ g s) → Changes t t' g
  changes_as {t'} p e = record { laid = p.laid; shows = λ s w h. subst (λ z. Shows t' z w) (e s (said_on t h.says)) (p.shows s w h) }

  -- where the lines stay as they are, the word stays right, and is no other
  pub changes_becomes : {t' : List ℕ} {rule : State → State} → Whole t → Changes t t' rule
      → ((s : State) → Holds t s → ready_word (rule s).threads ≡ ready_word s.threads) → Becomes t t' rule
  changes_becomes w c e = becomes w (λ s h. shows_holds (c.shows s (ready_word s.threads) (holds_shows h)) (sym (e s h)))

  -- so does a change of one thread that leaves it in its line
  pub edit_stays : {t' : List ℕ} (i : ℕ) (g : Thread → Thread) → Whole t → Changes t t' (on_threads (edit i g))
      → ((s : State) → said t ≡ s → line (g (at s.threads i)) ≡ line (at s.threads i)) → Becomes t t' (on_threads (edit i g))
  edit_stays i g w c k = changes_becomes w c (λ s h. word_edit s.threads i g (k s h.says))

  pub becomes_changes : {t' : List ℕ} {rule : State → State} → Whole t → Becomes t t' rule
      → ((s : State) → ready_word (rule s).threads ≡ ready_word s.threads) → Changes t t' rule
  becomes_changes {t'} {rule} w p e =
      changes (whole_laid w) (λ s word r.
      let right : word ≡ ready_word s.threads = sym (shows_word r) ∙ whole_word w ∙ ap (λ z. ready_word z.threads) r.says in
      subst (λ v. Shows t' (rule s) v) (e s ∙ sym right) (holds_shows (p.holds s (shows_holds r right))))

-- two tables that a writer may leave are one
pub changes_one : {t t' t'' : List ℕ} {rule : State → State} → Laid t → Changes t t' rule → Changes t t'' rule → t' ≡ t''
changes_one l p q = (p.shows _ _ (laid_shows l)).bytes ∙ sym (q.shows _ _ (laid_shows l)).bytes

-- WRITES INTO ONE RECORD

-- the bytes of a state of the table's board
shows_next : {t t' : List ℕ} → Long t → {s : State} → On (board t) s → (word : ℕ) → t' ≡ encode_with word s → Shows t' s word
unfolding said
shows_next {t} {t'} l {s} on word e =
    let same : length t' ≡ length t = ap length e ∙ length_encode on word ∙ sym l.fits in
    let on' : On (board t') s = subst (λ n. On (board_of n) s) (sym same) on in
    record { bytes = e; says = ap (decode (board t')) e ∙ decode_with on' word }

module _ {t t' : List ℕ} where
  pub thread_changed : Laid t → (i : ℕ) (g : Thread → Thread) (ps : List Put) → HasThread t i → Within record_length ps
      → ((x : Thread) → puts (thread_row x) 0 ps ≡ thread_row (g x)) → t' ≡ puts t (i * record_length) ps → Changes t t' (on_threads (edit i g))
  thread_changed l i g ps h q e p =
      changes l (λ s w r. let on = said_on t r.says in
      shows_next l.long (record { threads = length_edit s.threads i g ∙ on.threads; sems = on.sems }) w
      (p ∙ ap (λ l. puts l (i * record_length) ps) r.bytes ∙ thread_puts on w i g ps ((has_thread l.long i).0 h) q (e _)))

  pub word_written : Laid t → (base : ℕ) → base ≡ kernel_from (board t) → (v : ℕ) → t' ≡ puts t base (put_word 2 v ∷ []) → (s : State) (word : ℕ) → Shows t s word → Shows t' s v
  unfolding puts kernel_row
  word_written l base from v p s word r =
      let on = said_on t r.says in
      shows_next l.long on v (p ∙ ap (λ n. puts t n (put_word 2 v ∷ [])) from ∙ ap (λ l. puts l (kernel_from (board t)) (put_word 2 v ∷ [])) r.bytes ∙ kernel_puts on word s.running s.lock v (put_word 2 v ∷ []) refl)

module _ {t t' : List ℕ} (w : Whole t) where
  -- what is written leaves the thread in its line
  pub thread_written : (i : ℕ) (g : Thread → Thread) (ps : List Put) → HasThread t i → Within record_length ps
      → ((x : Thread) → puts (thread_row x) 0 ps ≡ thread_row (g x)) → ((x : Thread) → line (g x) ≡ line x) → t' ≡ puts t (i * record_length) ps
      → Becomes t t' (on_threads (edit i g))
  thread_written i g ps h q e k p =
      edit_stays i g w (thread_changed (whole_laid w) i g ps h q e p) (λ s d. k (at s.threads i))

  pub sem_written : (k : ℕ) (e : Sem) (ps : List Put) → HasSem t k → Within record_length ps
      → ((x : Sem) → puts (sem_row x) 0 ps ≡ sem_row e) → (base : ℕ) → base ≡ sems_from (board t) + k * record_length → t' ≡ puts t base ps → Becomes t t' (on_sems (λ es. set es k e))
  sem_written k e ps h q f base from p =
      changes_becomes w (changes (whole_laid w) (λ s v r. let on = said_on t r.says in
      shows_next w.long (record { threads = on.threads; sems = length-set s.sems k e ∙ on.sems }) v
      (p ∙ ap (λ n. puts t n ps) from ∙ ap (λ l. puts l (sems_from (board t) + k * record_length) ps) r.bytes ∙ sem_puts on v k e ps ((has_sem w.long k).0 h) q (f _))))
      (λ s r. refl)

  pub kernel_written : (f g : ℕ → ℕ) (ps : List Put) → ((r n v : ℕ) → puts (kernel_row r n v) 0 ps ≡ kernel_row (f r) (g n) v)
      → (base : ℕ) → base ≡ kernel_from (board t) → t' ≡ puts t base ps → Becomes t t' (λ s. with_running (f s.running) (with_lock (g s.lock) s))
  kernel_written f g ps e base from p =
      changes_becomes w (changes (whole_laid w) (λ s v r. let on = said_on t r.says in
      shows_next w.long (record { threads = on.threads; sems = on.sems }) v
      (p ∙ ap (λ n. puts t n ps) from ∙ ap (λ l. puts l (kernel_from (board t)) ps) r.bytes ∙ kernel_puts on v _ _ v ps (e _ _ _))))
      (λ s r. refl)
