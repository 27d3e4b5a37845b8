-- The accounts, one by one: after a run each thread has its own, runs one after the other are one run, and one event changes one account.
-- Assumes nothing.
use mathlib.Core.Bool.{true, false}
use mathlib.Core.Path.{◌≡◌, refl, sym, ap, ◌∙◌}
use mathlib.Core.List.{List, [], ◌∷◌, ◌++◌}
use Prim.Native.Nat.{ℕ, zero, suc, ◌+◌, ◌-◌, ◌*◌, ◌≤◌, ◌<◌}
use native.Mathlib.Nat.{not-suc-le-zero, le_of_suc-le-suc}
use native.Mathlib.Omega.{arith}
use lib.Dec.{eqb}
use borrow.Author.Tests.{eqb-true, eqb-false}
use lib.ListN.{length, set, length-set}
use lib.Seq.{ext_get_or, get_or-set_same, get_or-set_other}
use Rattle.rules.specs.Board.{most_ticks}
use Rattle.laws.proofs.Split.{is, isnt, test, and_off}
use Rattle.fairness.specs.Run.{Event, Deed, tick, yield, other, set_priority, set_turn, create, sleep, deed, accepted, charged_to}
use Rattle.lanes.specs.Lag.{makes, creates, account_from}
use Rattle.lanes.proofs.Lag.{account_append, account_most}
use Rattle.lanes.specs.Kept.{of, Within}
use Rattle.accounts.specs.Accounts.{accounts_from, entered}

pub length_accounts : (i : ℕ) (ns : List ℕ) (run : List Event) → length (accounts_from i ns run) ≡ length ns
unfolding accounts_from
length_accounts i [] run = refl
length_accounts i (n ∷ ns) run = ap suc (length_accounts (suc i) ns run)

-- the account behind the first i
later : (k : ℕ) (ns : List ℕ) (run : List Event) (i : ℕ) → i < length ns → of (accounts_from k ns run) i ≡ account_from (k + i) (of ns i) run
unfolding accounts_from
later k [] run i h = absurd (not-suc-le-zero h)
later k (n ∷ ns) run zero h = ap (λ j. account_from j n run) (omega arith)
later k (n ∷ ns) run (suc i) h = later (suc k) ns run i (le_of_suc-le-suc h) ∙ ap (λ j. account_from j (of ns i) run) (omega arith)

pub account_at : (ns : List ℕ) (run : List Event) (i : ℕ) → i < length ns → of (accounts_from 0 ns run) i ≡ account_from i (of ns i) run
account_at ns run i h = later 0 ns run i h ∙ ap (λ j. account_from j (of ns i) run) (omega arith)

pub accounts_none : (i : ℕ) (ns : List ℕ) → accounts_from i ns [] ≡ ns
unfolding accounts_from account_from
accounts_none i [] = refl
accounts_none i (n ∷ ns) = ap (λ l. n ∷ l) (accounts_none (suc i) ns)

pub accounts_append : (i : ℕ) (ns : List ℕ) (xs ys : List Event) → accounts_from i ns (xs ++ ys) ≡ accounts_from i (accounts_from i ns xs) ys
unfolding accounts_from
accounts_append i [] xs ys = refl
accounts_append i (n ∷ ns) xs ys = λ j. account_append i n xs ys j ∷ accounts_append (suc i) ns xs ys j

-- THE MOST

-- a run adds at most one tick for each event
pub grown : (k : ℕ) (ns : List ℕ) (run : List Event) (i : ℕ) → of (accounts_from k ns run) i ≤ of ns i + length run
unfolding accounts_from
grown k [] run i = omega arith
grown k (n ∷ ns) run zero = account_most k n run
grown k (n ∷ ns) run (suc i) = grown (suc k) ns run i

pub still_within : (j k : ℕ) (ns : List ℕ) (run : List Event) → j ≤ k → length run ≤ most_ticks * j → Within k ns → Within (k - j) (accounts_from 0 ns run)
still_within j k ns run l h w i = omega (arith, w i, grown 0 ns run i)

-- ONE EVENT

-- accounts that agree one by one with those after the event
module _ (e : Event) (ns : List ℕ) where
  by_each : (ms : List ℕ) → length ms ≡ length ns → ((i : ℕ) → i < length ns → account_from i (of ns i) (e ∷ []) ≡ of ms i) → accounts_from 0 ns (e ∷ []) ≡ ms
  by_each ms l h =
      ext_get_or 0 (accounts_from 0 ns (e ∷ [])) ms (length_accounts 0 ns (e ∷ []) ∙ sym l)
      (λ i b. let c : i < length ns = omega (arith, length_accounts 0 ns (e ∷ [])) in account_at ns (e ∷ []) i c ∙ h i c)

  -- nobody is created, and nobody is charged
  none_changed : ((i : ℕ) → creates i e ≡ false) → ((i : ℕ) → charged_to i e ≡ false) → accounts_from 0 ns (e ∷ []) ≡ ns
  unfolding account_from
  none_changed c d = by_each ns refl (λ i h. rw (c i, d i) (omega arith))

  -- a request that is not accepted enters nothing
  pub not_entered : accepted e ≡ false → accounts_from 0 ns (e ∷ []) ≡ ns
  not_entered a = none_changed (λ i. rw a (and_off (makes i (deed e.asked)))) (λ i. rw (a, and_off))

  module _ (a : accepted e ≡ true) where
    -- an accepted one enters what its deed does
    pub by_deed : (d : Deed) → deed e.asked ≡ d → accounts_from 0 ns (e ∷ []) ≡ entered ns d e.before.running e.before.lock
    unfolding account_from
    by_deed yield k = none_changed (λ i. rw k) (λ i. rw k)
    by_deed other k = none_changed (λ i. rw k) (λ i. rw k)
    by_deed (set_priority j) k = none_changed (λ i. rw k) (λ i. rw k)
    by_deed (set_turn j) k = none_changed (λ i. rw k) (λ i. rw k)
    by_deed (sleep j) k = none_changed (λ i. rw k) (λ i. rw k)
    by_deed (create j) k = by_each (set ns j 0) (length-set ns j 0) (λ i h. elim (test (eqb j i)) [
      | is q ↦ rw (k, a, q, eqb-true j i q) (sym (get_or-set_same ns i 0 0 h))
      | isnt q ↦ rw (k, a, q) (omega (arith, get_or-set_other ns j i 0 0 (λ x. eqb-false j i q (sym x))))
    ])
    by_deed tick k = elim (test (eqb e.before.lock 0)) [
      | isnt l ↦ rw l (none_changed (λ i. rw k) (λ i. rw (k, a, l)))
      | is l ↦ rw l (by_each (set ns e.before.running (of ns e.before.running + 1)) (length-set ns e.before.running _) (λ i h.
          elim (test (eqb e.before.running i)) [
            | is q ↦ rw (k, a, l, q, eqb-true e.before.running i q) (sym (get_or-set_same ns i (of ns i + 1) 0 h))
            | isnt q ↦ rw (k, a, l, q) (omega (arith, get_or-set_other ns e.before.running i (of ns e.before.running + 1) 0 (λ x. eqb-false e.before.running i q (sym x))))
          ]))
    ]
