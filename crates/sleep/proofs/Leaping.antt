-- Ticks that are done at once, on a table: what a table that held a sound state holds after some of them, and after some more. Assumes nothing.
use mathlib.Core.Path.{◌≡◌, ap, sym, ◌∙◌}
use mathlib.Core.List.{List}
use Prim.Native.Nat.{ℕ, zero, suc, ◌+◌, ◌-◌, ◌≤◌}
use native.Mathlib.Omega.{arith}
use Rattle.rules.specs.State.{State}
use Rattle.rules.specs.Sound.{Sound}
use Rattle.rules.specs.Waiting.{Step}
use Rattle.rules.specs.Time.{do_tick}
use Rattle.rules.specs.Sleep.{ticks}
use Rattle.rules.specs.Answers.{Answer}
use Rattle.layout.specs.Held.{said, Holds, Becomes}
use Rattle.layout.proofs.Held.{whole_holds, becomes_as}
use Rattle.preservation.proofs.Sleep.{sound_ticks}
use Rattle.waiting.specs.Does.{Serves, Does}
use Rattle.waiting.proofs.Doing.{serves}
use Rattle.leaps.specs.Ticks.{Leap, leap}
use Rattle.leaps.proofs.Leaps.{leaps}

-- TICKS

pub ticks_add : (a b : ℕ) (s : State) → ticks b (ticks a s) ≡ ticks (a + b) s
unfolding ticks
ticks_add zero b s = let e : b ≡ 0 + b = omega arith in ap (λ k. ticks k s) e
ticks_add (suc a) b s = let e : suc (a + b) ≡ suc a + b = omega arith in ticks_add a b (do_tick s).state ∙ ap (λ k. ticks k s) e

pub ticks_none : (n : ℕ) (s : State) → s ≡ ticks (n - n) s
unfolding ticks
ticks_none n s = let e : 0 ≡ n - n = omega arith in ap (λ k. ticks k s) e

-- A TABLE

module _ {t t' : List ℕ} where
  -- what a step does, without its answer
  pub becomes_of : {a : Answer} {rule : State → Step} → Does t t' a rule → Becomes t t' (λ s. (rule s).state)
  becomes_of d = record { whole = d.whole; holds = d.holds }

  pub serves_after : (n : ℕ) → Serves t → Becomes t t' (ticks n) → Serves t'
  serves_after n v c = serves c.whole (rw (c.holds (said t) (whole_holds v.whole)).says (sound_ticks n (said t) v.sound))

-- what a leap of some of n ticks leaves, where the one who called it was told how many they are
pub record Leapt (t t' : List ℕ) (n far : ℕ) : Type 0 where
  pub some : 1 ≤ far
  pub most : far ≤ n
  pub ticks : Becomes t t' (ticks far)

pub leapt : {t t' : List ℕ} {n far rounds : ℕ} → Serves t → 1 ≤ n
    → ((s : State) → Holds t s → (far ≡ (leap n s).far) × (rounds ≡ (leap n s).rounds)) → Becomes t t' (λ s. (leap n s).state) → Leapt t t' n far
leapt {t} {t'} {n} {far} {rounds} v h told c =
    let own = leaps n (said t) v.sound h in
    let e : far ≡ (leap n (said t)).far = (told (said t) (whole_holds v.whole)).0 in
    record {
      some = omega (arith, e, own.some);
      most = omega (arith, e, own.most);
      ticks = becomes_as c (λ s k. let σ : Sound s = rw k.says at v.sound in (leaps n s σ h).ticks ∙ ap (λ m. ticks m s) (sym (told s k).0));
    }

-- AN ARM of a leap

-- what is told of a leap from table t, and what it leaves
abbrev pub Tells : List ℕ → List ℕ → ℕ → ℕ → (State → Leap) → Type 0
Tells t t' far rounds rule = record {
  leapt : (s : State) → Holds t s → (far ≡ (rule s).far) × (rounds ≡ (rule s).rounds);
  table : Becomes t t' (λ s. (rule s).state);
}

-- the same by another rule
pub tells_as : (t t' : List ℕ) (far rounds : ℕ) (arm rule : State → Leap) → Tells t t' far rounds arm → ((s : State) → Holds t s → rule s ≡ arm s) → Tells t t' far rounds rule
tells_as t t' far rounds arm rule d e = record {
  leapt = λ s h. ((d.leapt s h).0 ∙ sym (ap (λ l. l.far) (e s h)), (d.leapt s h).1 ∙ sym (ap (λ l. l.rounds) (e s h)));
  table = becomes_as d.table (λ s h. sym (ap (λ l. l.state) (e s h)));
}
