-- `accounts::charges::enter_leap` meets its contract: after a leap the table still says each thread's share of it. Assumes nothing.
use mathlib.Core.Path.{refl, ◌∙◌}
use native.Mathlib.Omega.{arith}
use Rattle.layout.specs.Held.{said}
use Rattle.layout.proofs.Held.{whole_holds}
use Rattle.accounts.proofs.Leapt.{more_as, leap_most, share_told}
use Rattle.accounts.proofs.charges.enter_leap.Goals as goal

pub credit-requires-clause-fits : goal.credit-requires-clause-fits
credit-requires-clause-fits c =
    let s = said c.args.t.now in
    let serves = c.requires.serves in
    let h = whole_holds serves.whole in
    let runs = c.running-ran.ensures s refl in
    let long = c.leap-leapt.auto.t ∙ c.told-t in
    let shares = share_told c.args.n s h runs (c.lock-lock.ensures s refl) (c.leap-leapt.ensures.leapt s h) c.leap-leapt.ensures.table long in
    λ i. omega (arith, shares i, leap_most c.args.n s serves.sound c.requires.some i, c.requires.fits i)

pub returns-clause-accounts : goal.returns-clause-accounts
returns-clause-accounts c =
    let leapt = c.leap-leapt.ensures in
    let long = c.leap-leapt.auto.t ∙ c.told-t in
    let ran = c.running-ran.ensures in
    let lock = c.lock-lock.ensures in
    λ s h. c.credit.ensures ∙ more_as _ _ 0 c.args.accounts.now (share_told c.args.n s h (ran s h.says) (lock s h.says) (leapt.leapt s h) leapt.table long)
