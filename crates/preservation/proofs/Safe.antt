-- A step is safe when it leaves a sound state: what a ladder of tests, a refusal and an acceptance come to. Assumes nothing.
use Rattle.std.specs.Prelude.{if◌then◌else◌, Err, Ok}
use mathlib.Core.Bool.{Bool, true, false, ◌||◌}
use mathlib.Core.Path.{◌≡◌, refl}
use mathlib.Core.Logic.{◌≢◌}
use mathlib.Core.List.{List}
use Prim.Native.Nat.{ℕ, ◌≤◌}
use native.Mathlib.Omega.{arith}
use borrow.Author.Tests.{ltb-false}
use lib.Dec.{eqb, ltb}
use Rattle.rules.specs.Board.{top_priority, most_ticks}
use Rattle.rules.specs.State.{State, caller, with_threads}
use Rattle.rules.specs.Lines.{move, settle}
use Rattle.rules.specs.Waiting.{Step, begun, ahead, block, may_not_wait, never_wait, wait_counter, must_wait}
use Rattle.rules.specs.Threads.{bad_priority, bad_ticks, bound}
use Rattle.rules.specs.Sound.{Sound}
use Rattle.rules.specs.declared.Thread.{Thread}
use Rattle.rules.specs.Answers.{Answer}
use Rattle.rules.specs.declared.Reply.TheVariants.{Blocked}
use Rattle.rules.specs.declared.Refusal.TheVariants.{BadOperation}
use Rattle.rules.specs.declared.Wait.{Wait}
use Rattle.laws.proofs.Split.{and_off, or_false, if_case}
use Rattle.laws.proofs.Reflect.{reflect}
use Rattle.laws.proofs.Lines.{ready_used}
use Rattle.preservation.proofs.Fit.{Meets, meets_move}
use Rattle.preservation.proofs.Changes.{Begins, fit_begun}
use Rattle.preservation.proofs.Settled.{Unsettled, asks, sound_meets, settled, kept_threads}

unfoldable pub Safe : Step → Type 0
Safe r = Sound r.state

pub safe_if : (b : Bool) (x y : Step) → (b ≡ true → Safe x) → (b ≡ false → Safe y) → Safe (if b then x else y)
safe_if true x y f g = f refl
safe_if false x y f g = g refl

-- a refusal, say
pub safe_same : (s : State) (a : Answer) → Sound s → Safe (record { state = s; answer = a })
unfolding Safe
safe_same s a σ = σ

pub safe_settled : (s : State) (a : Answer) → Unsettled s → Safe (record { state = settle s; answer = a })
unfolding Safe
safe_settled s a u = settled u

pub safe_threads : (s : State) (us : List Thread) (a : Answer) → Sound s → Meets (asks s) us → Safe (record { state = settle (with_threads us s); answer = a })
safe_threads s us a σ v = safe_settled (with_threads us s) a (kept_threads us σ v)

pub ruleset ladder = (safe_if, safe_same, safe_settled, safe_threads)

-- A WAIT BEGINS

wait_counter_lem : (n : ℕ) → wait_counter n ≤ most_ticks
wait_counter_lem n = if_case (λ c. c ≤ most_ticks) (ltb most_ticks n) (λ e. omega arith) (λ e. ltb-false most_ticks n e)

module _ (s : State) (σ : Sound s) where
  -- neither Init nor under lock, the running thread need not stay ready
  blocks : (w : Wait) (x : ℕ) → may_not_wait s ≡ false → Begins (asks s) s.running (caller s) w x → Meets (asks s) (move s.running (begun w x) s.threads)
  blocks w x e g =
      let v = sound_meets σ in
      let y = or_false (eqb s.running 0) (ltb 0 s.lock) e in
      let b : bound s s.running ≡ false = rw (y.0, y.1) (and_off (eqb s.running s.running)) in
      meets_move s.running (begun w x) (fit_begun (v.each s.running) (ready_used (caller s) σ.runs) w x b g) v

  pub safe_block : (w : Wait) (x : ℕ) → may_not_wait s ≡ false → Begins (asks s) s.running (caller s) w x → Safe (block s w x)
  unfolding block
  safe_block w x e g = safe_threads s _ (Ok (Blocked (ahead s w))) σ (blocks w x e g)

  pub safe_wait : (n : ℕ) (w : ℕ → Wait) (x : ℕ) → ((c : ℕ) → c ≤ most_ticks → Begins (asks s) s.running (caller s) (w c) x) → Safe (must_wait s n w x)
  unfolding must_wait
  safe_wait n w x g = safe_if (never_wait n || may_not_wait s) _ _ (λ e. safe_same s (Err BadOperation) σ)
      (λ e. safe_block (w (wait_counter n)) x (or_false (never_wait n) (may_not_wait s) e).1 (g (wait_counter n) (wait_counter_lem n)))

-- WHAT THE TESTS SAY

pub priority_ok : (p : ℕ) → bad_priority p ≡ false → p ≤ top_priority
priority_ok p e = simp reflect at e

pub ticks_ok : (n : ℕ) → bad_ticks n ≡ false → (1 ≤ n) × (n ≤ most_ticks)
ticks_ok n e = let x = simp reflect at e in let y : n ≢ 0 = x.0 in (omega arith, x.1)
