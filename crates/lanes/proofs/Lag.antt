-- A lane's lag is 0 after whole rounds: each thread of the rank is charged k times its turn, so all of them together k times the turns'
-- sum, and the two products of the lag are one. Assumes nothing.
use mathlib.Core.Bool.{true, false, ◌&&◌, ◌||◌}
use mathlib.Core.Path.{◌≡◌, refl, ap, sym, ◌∙◌}
use mathlib.Core.List.{List, [], ◌∷◌, ◌++◌, append-nil}
use Prim.Native.Nat.{ℕ, suc, ◌+◌, ◌*◌, ◌<◌, ◌≤◌}
use native.Mathlib.Omega.{arith}
use lib.Dec.{eqb, leb}
use borrow.Author.Tests.{eqb-true, le-ltb}
use lib.IntN.{pos, sub_ℕ}
use lib.ListN.{length}
use Rattle.rules.specs.Basic.{bit, count, all}
use Rattle.rules.specs.Board.{Board}
use Rattle.rules.specs.State.{State, at}
use Rattle.rules.specs.Lines.{ready, in_line}
use Rattle.rules.specs.Answers.{code_of}
use Rattle.rules.specs.Sound.{Sound}
use Rattle.rules.specs.Waiting.{Step}
use Rattle.rules.specs.Threads.{bad_priority, bad_ticks, do_create}
use Rattle.rules.specs.Steps.{step}
use Rattle.rules.specs.declared.Thread.{Thread}
use Rattle.rules.specs.declared.Request.{Request}
use Rattle.rules.specs.declared.Request.TheVariants as Ask
use Rattle.laws.proofs.Split.{is, isnt, test, clash, and_true, and_off, or_false, if_case}
use Rattle.laws.proofs.Lines.{in_ready, ready_used}
use Rattle.laws.proofs.Members.{in_range}
use Rattle.fairness.specs.Run.{Event, end_of, deed, deed_of, is_zero, ready_at, sum_turns, charged_to, charged_rank}
use Rattle.fairness.specs.Fair.{ByRules, refused, served, RunFrom, steady}
use Rattle.preservation.proofs.Frame.{on_kept}
use Rattle.fairness.proofs.Rank.{turns, same_turns}
use Rattle.fairness.proofs.View.{view, view_in}
use Rattle.fairness.proofs.Doors.{end_append}
use Rattle.fairness.proofs.Fair.{same_set_lem, sum_turns_lem, run_append, Ran, ran, event_sound, fairness}
use Rattle.lanes.specs.Lag.{makes, creates, account_on, account_from, account, sum_over, lag_of, lag, NoLag}

-- NO THREAD OF THE RANK IS CREATED

-- who is in use is not created
create_refused : (s : State) (i p n : ℕ) → (at s.threads i).used ≡ true → is_zero (code_of (do_create s i p n).answer) ≡ false
unfolding do_create
create_refused s i p n u =
    if_case (λ (r : Step). is_zero (code_of r.answer) ≡ false) (bad_priority p) (λ e. refl) (λ e.
    if_case (λ (r : Step). is_zero (code_of r.answer) ≡ false) (bad_ticks n) (λ e. refl) (λ e.
    if_case (λ (r : Step). is_zero (code_of r.answer) ≡ false) (leb (length s.threads) i || (at s.threads i).used) (λ e. refl) (λ e.
    absurd (clash u (or_false (leb (length s.threads) i) (at s.threads i).used e).1))))

not_made : (s : State) (i : ℕ) (q : Request) → (at s.threads i).used ≡ true → makes i (deed_of q) && is_zero (code_of (step s q).answer) ≡ false
unfolding step
not_made s i (Ask.Create j p n) u = elim (test (eqb j i)) [
  | is e ↦ rw (e, eqb-true j i e, create_refused s i p n u)
  | isnt e ↦ rw e
]
not_made s i Ask.Yield u = refl
not_made s i (Ask.Delete j) u = refl
not_made s i (Ask.Suspend j) u = refl
not_made s i (Ask.Resume j) u = refl
not_made s i (Ask.Delay n) u = refl
not_made s i (Ask.Cancel j) u = refl
not_made s i (Ask.Send j n x) u = refl
not_made s i (Ask.SendFromInterrupt j x) u = refl
not_made s i (Ask.Receive n) u = refl
not_made s i (Ask.Make j n) u = refl
not_made s i (Ask.Drop j) u = refl
not_made s i (Ask.Pend j n) u = refl
not_made s i (Ask.Abort j) u = refl
not_made s i (Ask.Post j n) u = refl
not_made s i (Ask.PostFromInterrupt j n) u = refl
not_made s i Ask.Lock u = refl
not_made s i Ask.Unlock u = refl
not_made s i Ask.Tick u = refl
not_made s i (Ask.Outcome j) u = refl
not_made s i (Ask.Ticks n) u = refl
not_made s i Ask.Nearest u = refl
not_made s i (Ask.SetPriority j p) u = refl
not_made s i (Ask.SetTurn j n) u = refl

not_created : (p : ℕ) (e : Event) (i : ℕ) → ByRules e → ready_at p e.before i ≡ true → creates i e ≡ false
not_created p e i (refused a k) m = rw a (and_off (makes i (deed e.asked)))
not_created p e i (served q a c k) m = rw (a, c) (not_made e.before i q (ready_used (at e.before.threads i) ((in_ready p (at e.before.threads i)).0 m).0))

-- ACCOUNTS

pub account_append : (i n : ℕ) (xs ys : List Event) → account_from i n (xs ++ ys) ≡ account_from i (account_from i n xs) ys
unfolding account_from
account_append i n [] ys = refl
account_append i n (x ∷ xs) ys = account_append i (account_on i n x) xs ys

-- a run adds at most one tick for each event
on_most : (i n : ℕ) (e : Event) → account_on i n e ≤ n + 1
on_most i n e = elim (test (creates i e)) [
  | is c ↦ rw c (omega arith)
  | isnt c ↦ elim (test (charged_to i e)) [ is d ↦ rw (c, d) (omega arith) | isnt d ↦ rw (c, d) (omega arith) ]
]

pub account_most : (i n : ℕ) (es : List Event) → account_from i n es ≤ n + length es
unfolding account_from
account_most i n [] = omega arith
account_most i n (e ∷ es) = omega (arith, account_most i (account_on i n e) es, on_most i n e)

-- over a steady run, a thread of the rank is charged what is counted
account_steady : (p i n : ℕ) (s : State) (es : List Event) → ready_at p s i ≡ true → RunFrom s es → all (steady p) es ≡ true
    → account_from i n es ≡ n + count (charged_to i) es
unfolding account_from
account_steady p i n s [] m h k = omega arith
account_steady p i n s (e ∷ es) m h k =
    let a = and_true _ _ k in
    let m' : ready_at p e.before i ≡ true = rw h.0 m in
    let q = same_set_lem p e (and_true _ _ a.0).0 in
    rw (not_created p e i h.1 m') (omega (arith, account_steady p i (n + bit (charged_to i e)) e.after es (q i ∙ m') h.2 a.1))

sum_over_lem : (p k : ℕ) (f : ℕ → ℕ) (i : ℕ) (ts : List Thread) → ((j : ℕ) → in_line (ready p) (at ts j) ≡ true → f (i + j) ≡ k * (at ts j).turn)
    → sum_over p f i ts ≡ k * sum_turns p ts
unfolding sum_over
sum_over_lem p k f i [] h = omega arith
sum_over_lem p k f i (t ∷ ts) h =
    let rest = sum_over_lem p k f (suc i) ts (λ j m. ap f (omega arith) ∙ h (suc j) m) in
    elim (test (in_line (ready p) t)) [
      | is m ↦ let first : f i ≡ k * t.turn = ap f (omega arith) ∙ h 0 m in rw m (omega (arith, rest, first))
      | isnt m ↦ rw m (omega (arith, rest))
    ]

-- THE LAG

none : (a : ℕ) → sub_ℕ a a ≡ pos 0
none a = rw (le-ltb a a (omega arith)) (ap pos (omega arith))

-- the two products are one
products : (a b k R t : ℕ) → a ≡ k * t → b ≡ k * R → a * R ≡ t * b
products a b k R t p q = rw (p, q) (omega arith)

lag_none : (p k : ℕ) (f : ℕ → ℕ) (s : State) → ((j : ℕ) → ready_at p s j ≡ true → f j ≡ k * (at s.threads j).turn) → (i : ℕ) → ready_at p s i ≡ true → lag f s i ≡ pos 0
unfolding lag lag_of
lag_none p k f s h i m =
    let r = (in_ready p (at s.threads i)).0 m in
    let e = products (f i) (sum_over p f 0 s.threads) k (sum_turns p s.threads) (at s.threads i).turn (h i m) (sum_over_lem p k f 0 s.threads (λ j l. ap f (omega arith) ∙ h j l)) in
    rw (r.0, r.1, e) (none ((at s.threads i).turn * sum_over p f 0 s.threads))

-- THE RUN

event_length : (e : Event) → ByRules e → length e.after.threads ≡ length e.before.threads
event_length e (refused a k) = rw k
event_length e (served q a c k) =
    let b : Board = record { threads = length e.before.threads; sems = length e.before.sems } in
    rw k (on_kept b e.before q (record { threads = refl; sems = refl })).threads

run_length : (s : State) (es : List Event) → RunFrom s es → length (end_of s es).threads ≡ length s.threads
run_length s [] h = refl
run_length s (e ∷ es) h = run_length e.after es h.2 ∙ event_length e h.1 ∙ ap (λ u. length u.threads) h.0

pub run_sound : (s : State) (es : List Event) → RunFrom s es → Sound s → Sound (end_of s es)
run_sound s [] h σ = σ
run_sound s (e ∷ es) h σ = run_sound e.after es h.2 (event_sound e h.1 (rw h.0 σ))

run_same : (p : ℕ) (s : State) (es : List Event) → RunFrom s es → all (steady p) es ≡ true → (j : ℕ) → ready_at p (end_of s es) j ≡ ready_at p s j
run_same p s [] h k j = refl
run_same p s (e ∷ es) h k j =
    let a = and_true _ _ k in
    run_same p e.after es h.2 a.1 j ∙ same_set_lem p e (and_true _ _ a.0).0 j ∙ ap (λ u. ready_at p u j) h.0

-- what demand 3 covers from state u, which `before` leaves, to x, which `part` leaves then; of the rank's ready threads at x
pub record Covered (p : ℕ) (u x : State) (before part : List Event) : Type 0 where
  pub sound : Sound u
  pub run : RunFrom u part
  pub same : (j : ℕ) → ready_at p x j ≡ ready_at p u j
  pub turn : (j : ℕ) → ready_at p x j ≡ true → (at x.threads j).turn ≡ (at u.threads j).turn
  pub sum : (j : ℕ) → ready_at p x j ≡ true → sum_turns p x.threads ≡ sum_turns p u.threads
  pub charged : (j : ℕ) → ready_at p x j ≡ true → account (before ++ part) j ≡ count (charged_to j) part

pub covered : (p : ℕ) (s : State) (before part : List Event) → Sound s → RunFrom s (before ++ part) → all (steady p) part ≡ true
    → ((i : ℕ) → ready_at p (end_of s (before ++ part)) i ≡ true → account before i ≡ 0)
    → Covered p (end_of s before) (end_of s (before ++ part)) before part
covered p s before part σ h steadily earlier =
    let u = end_of s before in
    let x = end_of u part in
    let n = length u.threads in
    let h₁ = run_append s before part h in
    let ends : end_of s (before ++ part) ≡ x = end_append s before part in
    let τ : Sound u = run_sound s before h₁.0 σ in
    let below : (j : ℕ) → ready_at p u j ≡ true → j < n = λ j l. in_range u.threads j (ready p) l in
    let same : (j : ℕ) → ready_at p x j ≡ ready_at p u j = run_same p u part h₁.1 steadily in
    let there : (j : ℕ) → ready_at p x j ≡ true → ready_at p u j ≡ true = λ j l. sym (same j) ∙ l in
    let r : (j : ℕ) → ready_at p x j ≡ true → Ran p n j u part = λ j l. ran p n j u part τ below (there j l) h₁.1 steadily in
    rw ends (record {
      sound = τ;
      run = h₁.1;
      same = same;
      turn = λ j l. sym (ap (λ c. c.turn) (view_in p x.threads j l)) ∙ (r j l).fare.turn j ∙ ap (λ c. c.turn) (view_in p u.threads j (there j l));
      sum = λ j l.
          sum_turns_lem p x.threads ∙ ap (λ m. turns m (view p x.threads)) (run_length u part h₁.1) ∙ same_turns n _ _ (r j l).fare.turn ∙ sym (sum_turns_lem p u.threads);
      charged = λ j l.
          omega (arith, account_append j 0 before part, account_steady p j (account before j) u part (there j l) h₁.1 steadily, earlier j (rw ends l));
    })

pub no_lag : NoLag
no_lag p k s before part σ h steadily earlier whole i m =
    let c = covered p s before part σ h steadily earlier in
    let u = end_of s before in
    let whole' : count (charged_rank p) part ≡ k * sum_turns p u.threads = rw (c.sum i m) at whole in
    lag_none p k (account (before ++ part)) (end_of s (before ++ part)) (λ j l.
    c.charged j l
    ∙ fairness p k u [] part [] c.sound (rw (append-nil part) c.run) (rw (append-nil part) steadily) whole' j (sym (c.same j) ∙ l)
    ∙ ap (λ t. k * t) (sym (c.turn j l))) i m
