-- Ticks at once, as they are entered: each adds to the accounts what it charges, so a leap adds what its ticks charge, and leaps one after the
-- other add what all their ticks charge. Assumes nothing.
use mathlib.Core.Bool.{Bool, true, false}
use mathlib.Core.Path.{◌≡◌, refl, sym, ap, ◌∙◌}
use mathlib.Core.List.{List, [], ◌∷◌}
use Prim.Native.Nat.{ℕ, zero, suc, ◌+◌, ◌≤◌, ◌<◌}
use native.Mathlib.Nat.{not-suc-le-zero, le_of_suc-le-suc}
use native.Mathlib.Omega.{arith}
use lib.ListN.{length}
use lib.Seq.{ext_get_or}
use Rattle.rules.specs.Basic.{bit, count}
use Rattle.rules.specs.Board.{printer, table_length}
use Rattle.rules.specs.State.{State}
use Rattle.rules.specs.Table.{decode}
use Rattle.rules.specs.Sound.{Sound}
use Rattle.rules.specs.Time.{do_tick}
use Rattle.rules.specs.Sleep.{ticks}
use Rattle.layout.specs.Held.{Holds, Becomes}
use Rattle.layout.proofs.Boards.{said_printer}
use Rattle.fairness.specs.Run.{charged_to}
use Rattle.leaps.specs.Ticks.{leap}
use Rattle.leaps.specs.Charges.{tick_event, tick_events, share, charges_of}
use Rattle.leaps.proofs.Further.{events_further}
use Rattle.leaps.proofs.Leaps.{leaps}
use Rattle.leaps.proofs.Charges.{charges, share_after}
use Rattle.lanes.specs.Lag.{account_from}
use Rattle.lanes.specs.Kept.{of}
use Rattle.accounts.specs.Accounts.{accounts_from, more, credited}
use Rattle.accounts.proofs.Accounts.{accounts_append}

-- SO MUCH MORE

pub length_more : (f : ℕ → ℕ) (i : ℕ) (ns : List ℕ) → length (more f i ns) ≡ length ns
unfolding more
length_more f i [] = refl
length_more f i (n ∷ ns) = ap suc (length_more f (suc i) ns)

pub more_as : (f g : ℕ → ℕ) (i : ℕ) (ns : List ℕ) → ((j : ℕ) → f j ≡ g j) → more f i ns ≡ more g i ns
unfolding more
more_as f g i [] h = refl
more_as f g i (n ∷ ns) h = λ j. (n + h i j) ∷ more_as f g (suc i) ns h j

behind : (f : ℕ → ℕ) (k : ℕ) (ns : List ℕ) (i : ℕ) → i < length ns → of (more f k ns) i ≡ of ns i + f (k + i)
unfolding more
behind f k [] i h = absurd (not-suc-le-zero h)
behind f k (n ∷ ns) zero h = ap (λ j. n + f j) (omega arith)
behind f k (n ∷ ns) (suc i) h = behind f (suc k) ns i (le_of_suc-le-suc h) ∙ ap (λ j. of ns i + f j) (omega arith)

-- accounts that have so much more, one by one
pub by_more : (f : ℕ → ℕ) (ns ms : List ℕ) → length ms ≡ length ns → ((i : ℕ) → i < length ns → of ms i ≡ of ns i + f i) → ms ≡ more f 0 ns
by_more f ns ms l h = ext_get_or 0 ms (more f 0 ns) (l ∙ sym (length_more f 0 ns)) (λ i b.
    let c : i < length ns = omega (arith, l) in
    h i c ∙ ap (λ j. of ns i + f j) (omega arith) ∙ sym (behind f 0 ns i c))

-- TICKS

account_ticks : (i n m : ℕ) (s : State) → account_from i n (tick_events m s) ≡ n + count (charged_to i) (tick_events m s)
unfolding account_from tick_events
account_ticks i n zero s = omega arith
account_ticks i n (suc m) s = omega (arith, account_ticks i (n + bit (charged_to i (tick_event s))) m (do_tick s).state)

-- what is charged by ticks is at most all of them
pub charged_most : (i n : ℕ) (s : State) → count (charged_to i) (tick_events n s) ≤ n
unfolding tick_events
charged_most i zero s = omega arith
charged_most i (suc n) s = omega (arith, charged_most i n (do_tick s).state, one (charged_to i (tick_event s)))
  where
    one : (b : Bool) → bit b ≤ 1
    one true = omega arith
    one false = omega arith

-- A LEAP

module _ (n : ℕ) (s : State) (σ : Sound s) (some : 1 ≤ n) where
  from_leap : (i : ℕ) (ns : List ℕ) → accounts_from i ns (tick_events (leap n s).far s) ≡ more (charges_of s (leap n s)) i ns
  unfolding accounts_from more
  from_leap i [] = refl
  from_leap i (m ∷ ns) = λ j. (account_ticks i m (leap n s).far s ∙ ap (λ k. m + k) (charges n s σ some i)) j ∷ from_leap (suc i) ns j

  pub by_leap : (ns : List ℕ) → accounts_from 0 ns (tick_events (leap n s).far s) ≡ credited s (leap n s) ns
  by_leap ns = from_leap 0 ns

  -- no account is credited with more ticks than are asked for
  pub leap_most : (i : ℕ) → charges_of s (leap n s) i ≤ n
  leap_most i = omega (arith, charges n s σ some i, charged_most i (leap n s).far s, (leaps n s σ some).most)

-- ticks, and then a leap
pub by_leaps : (m n : ℕ) (s : State) (ns : List ℕ) → Sound (ticks m s) → 1 ≤ n
    → accounts_from 0 ns (tick_events (m + (leap n (ticks m s)).far) s) ≡ credited (ticks m s) (leap n (ticks m s)) (accounts_from 0 ns (tick_events m s))
by_leaps m n s ns σ h =
    ap (accounts_from 0 ns) (events_further m (leap n (ticks m s)).far s)
    ∙ accounts_append 0 ns (tick_events m s) (tick_events (leap n (ticks m s)).far (ticks m s))
    ∙ by_leap n (ticks m s) σ h (accounts_from 0 ns (tick_events m s))

-- ON A TABLE, which after the leap says what each thread's share of it is

module _ {t t' : List ℕ} {ran lock far rounds : ℕ} (n : ℕ) (s : State) (h : Holds t s) (runs : ran ≡ s.running) (locks : lock ≡ s.lock)
    (told : (far ≡ (leap n s).far) × (rounds ≡ (leap n s).rounds)) (c : Becomes t t' (λ s. (leap n s).state)) (long : length t' ≡ table_length printer) where
  pub share_told : (i : ℕ) → share (decode printer t').threads ran lock far rounds i ≡ charges_of s (leap n s) i
  share_told i =
      let says = sym (said_printer t' long) ∙ (c.holds s h).says in
      (λ j. share (says j).threads (runs j) (locks j) (told.0 j) (told.1 j) i) ∙ share_after s i n
