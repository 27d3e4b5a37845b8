-- `accounts::charges::enter_ticks` meets its contract: each leap enters some of the ticks that are left, and leaves a sound table. Assumes nothing.
use mathlib.Core.Path.{◌≡◌, ap, sym, ◌∙◌}
use mathlib.Core.List.{List}
use Prim.Native.Nat.{ℕ, ◌+◌, ◌-◌, ◌≤◌}
use native.Mathlib.Omega.{arith}
use Rattle.rules.specs.State.{State}
use Rattle.rules.specs.Sleep.{ticks}
use Rattle.layout.specs.Held.{said, Holds, Becomes}
use Rattle.layout.proofs.Boards.{said_printer}
use Rattle.layout.proofs.Held.{◌⨾◌, whole_holds, becomes_as, becomes_same}
use Rattle.waiting.specs.Does.{Serves}
use Rattle.leaps.specs.Ticks.{leap}
use Rattle.leaps.specs.Charges.{tick_events}
use Rattle.leaps.proofs.Further.{length_ticks}
use Rattle.sleep.proofs.Leaping.{ticks_add, ticks_none, serves_after, Leapt, leapt}
use Rattle.lanes.specs.Kept.{of}
use Rattle.accounts.specs.Accounts.{accounts_from, credited}
use Rattle.accounts.proofs.Accounts.{accounts_none, grown}
use Rattle.accounts.proofs.Leapt.{by_leaps}
use Rattle.accounts.proofs.charges.enter_ticks.Goals as goal

-- no tick is entered yet
none_yet : (n : ℕ) (s : State) (ns : List ℕ) → ns ≡ accounts_from 0 ns (tick_events (n - n) s)
unfolding tick_events
none_yet n s ns = let none : n - n ≡ 0 = omega arith in sym (ap (λ k. accounts_from 0 ns (tick_events k s)) none ∙ accounts_none 0 ns)

one_leap : {t t' : List ℕ} {n far : ℕ} → Serves t → 1 ≤ n → ((s : State) → Holds t s → far ≡ (leap n s).far)
    → Becomes t t' (λ s. (leap n s).state) → Leapt t t' n far
one_leap {t} {t'} {n} v h told c = leapt v h (λ s k. (told s k, ap (λ s. (leap n s).rounds) k.says)) c

pub loop-left-init : goal.loop-left-init
loop-left-init c =
    let n = c.args.n in (
      omega arith,
      c.requires.serves,
      becomes_same c.requires.serves.whole (λ s h. ticks_none n s),
      none_yet n (said c.args.t.now) c.args.accounts.now,
    )

pub enter_leap-left-requires-clause-fits : goal.enter_leap-left-requires-clause-fits
enter_leap-left-requires-clause-fits c =
    let inv = c.loop-left.invariant in
    let done = c.args.n - c.loop-left.left in
    let ns = c.args.accounts.now in
    let s₀ = said c.args.t.now in
    let run = tick_events done s₀ in
    λ i. omega (arith, ap (λ l. of l i) inv.3, grown 0 ns run i, length_ticks done s₀, inv.0, c.requires.fits i)

pub overflow_sub-left : goal.overflow_sub-left
overflow_sub-left c = (one_leap c.loop-left.invariant.1 c.loop-left-test.true c.enter_leap-left.ensures.far c.enter_leap-left.ensures.table).most

pub loop-left-smaller : goal.loop-left-smaller
loop-left-smaller c = let l = one_leap c.loop-left.invariant.1 c.loop-left-test.true c.enter_leap-left.ensures.far c.enter_leap-left.ensures.table in omega (arith, l.some, l.most)

pub loop-left-preserved : goal.loop-left-preserved
loop-left-preserved c =
    let n = c.args.n in
    let inv = c.loop-left.invariant in
    let left = c.loop-left.left in
    let entered = c.enter_leap-left in
    let far = entered.result in
    let l = one_leap inv.1 c.loop-left-test.true entered.ensures.far entered.ensures.table in
    let s₀ = said c.args.t.now in
    let ns = c.args.accounts.now in
    let s = ticks (n - left) s₀ in
    let h = inv.2.holds s₀ (whole_holds c.requires.serves.whole) in
    let all : n - left + (leap left s).far ≡ n - (left - far) = omega (arith, entered.ensures.far s h, inv.0, l.most) in (
      omega (arith, inv.0),
      serves_after far inv.1 l.ticks,
      becomes_as (inv.2 ⨾ l.ticks) (λ s h. ticks_add _ far s ∙ ap (λ k. ticks k s) (omega (arith, inv.0, l.most))),
      entered.ensures.accounts s h ∙ ap (credited s (leap left s)) inv.3 ∙ sym (by_leaps (n - left) left s₀ ns (rw h.says at inv.1.sound) c.loop-left-test.true)
          ∙ ap (λ k. accounts_from 0 ns (tick_events k s₀)) all,
    )

pub returns : goal.returns
returns c =
    let all : c.args.n - c.loop-left.left ≡ c.args.n = omega (arith, c.loop-left-test.false) in
    let says = said_printer _ c.told-t in
    c.loop-left.invariant.3 ∙ (λ j. accounts_from 0 c.args.accounts.now (tick_events (all j) (says j)))
