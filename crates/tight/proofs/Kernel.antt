-- The kernel's contract is three facts, that the code and the last bytes of table and area are those of the rules' door. So what it allows
-- is what the rules' door gives, of which the demands hold. Assumes nothing.
use mathlib.Core.Path.{◌≡◌, refl, sym, ap, ◌∙◌, subst}
use mathlib.Core.List.{List, [], ◌∷◌, ◌++◌, map}
use Prim.Native.Nat.{ℕ}
use seplogic.Ra.Ura.{Ura}
use base.Logic.{ent, sep, via, fst∗, snd∗}
use contract.Monad.{fact, fact_i, fact_use}
use Rattle.rules.specs.Board.{printer}
use Rattle.rules.specs.Door.{Handed, door}
use Rattle.rules.specs.declared.Request.TheVariants as Ask
use Rattle.request.specs.Written.{written}
use Rattle.fairness.specs.Run.{Event}
use Rattle.kernel.proofs.speltmallet_door.Met.{met}
use Rattle.promises.specs.Demand1.{Answered}
use Rattle.promises.specs.Demand2.{Ruled}
use Rattle.promises.specs.Word.{WordSays}
use Rattle.fairness.specs.Doors.{counted_as, run_of}
use Rattle.promises.specs.Demand3.{Fair, Shares}
use Rattle.promises.specs.Slept.{Soonest}
use Rattle.promises.specs.Lanes.{NoLagIn}
use Rattle.fairness.specs.Lateness.{Near, InTime, Even}
use Rattle.lateness.specs.Moments.{Kept}
use Rattle.lateness.specs.Lags.{LagBoundIn}
use Rattle.tight.specs.Kernel.{Lent, Call, Runs, events, Kernel}
use Rattle.promises.proofs.First.{first}
use Rattle.promises.proofs.Second.{second}
use Rattle.promises.proofs.Word.{ready_word_lem}
use Rattle.promises.proofs.Third.{whole_rounds, demand3}
use Rattle.promises.proofs.Slept.{slept}
use Rattle.promises.proofs.FormerSet.{former_set_lem}
use Rattle.promises.proofs.Lanes.{no_lags}
use Rattle.lateness.proofs.Moments.{never_far, never_late, equal_lanes}
use Rattle.lateness.proofs.Lags.{lag_bounds}

-- three facts, one after the other, are one
three : {M : Type 1} (𝓤 : Ura M) (a b c φ : Type 0) → (a → b → c → φ) → ent 𝓤 (sep 𝓤 (fact 𝓤 a) (sep 𝓤 (fact 𝓤 b) (fact 𝓤 c))) (fact 𝓤 φ)
three 𝓤 a b c φ h =
    let bc = sep 𝓤 (fact 𝓤 b) (fact 𝓤 c) in
    let all = sep 𝓤 (fact 𝓤 a) bc in
    let behind = snd∗ 𝓤 (fact 𝓤 a) bc in
    fact_use 𝓤 a (fst∗ 𝓤 (fact 𝓤 a) bc) (λ x.
    fact_use 𝓤 b (via 𝓤 bc behind (fst∗ 𝓤 (fact 𝓤 b) (fact 𝓤 c))) (λ y.
    fact_use 𝓤 c (via 𝓤 bc behind (snd∗ 𝓤 (fact 𝓤 b) (fact 𝓤 c))) (λ z.
    fact_i 𝓤 φ all (h x y z))))

abbrev handed : Call → Handed
handed c = record { request = c.lent.request.now; area = c.lent.area.now }

-- a run of calls is the run of the rules' door
run_of_lem : (t : List ℕ) (cs : List Call) → Runs t cs → run_of printer (door printer) t (map handed cs) ≡ events t cs
unfolding Runs events run_of
run_of_lem t [] h = refl
run_of_lem t (c ∷ cs) h =
    let given : door printer t (handed c).request (handed c).area ≡ c.gives = rw h.0 at (sym h.1) in
    rw given (ap (λ (es : List Event). counted_as printer (door printer) t (handed c) c.gives ++ es) (run_of_lem c.gives.table cs h.2))

-- the door, asked what a lent record is
asked : (x : Lent) {r : List ℕ} → x.request.now ≡ r → door printer x.table.now x.request.now x.area.now ≡ door printer x.table.now r x.area.now
asked x e = rw e

pub kernel : Kernel
kernel = record {
  meets = λ M. met;
  asks = λ M 𝓤 𝓛 memory runs x g. refl;
  says = λ M 𝓤 𝓛 memory runs x g d. three 𝓤 _ _ _ _ (λ p q r j. record { code = p j; table = q j; area = r j });
  first = λ x d e. subst (λ d. Answered printer x.table.now x.request.now x.area.now d) (sym e) (first printer _ _ _);
  second = λ x d σ e. subst (λ d. Ruled printer x.table.now x.request.now x.area.now d) (sym e) (second.ruled printer _ _ _ σ);
  word = λ x d σ e. subst (λ d. WordSays printer d.table) (sym e) (ready_word_lem.sound printer _ (second.ruled printer _ _ _ σ).sound);
  slept = λ x d c n r low high e. e ∙ asked x r ∙ slept.same printer _ _ c n low high;
  nearest = λ x d r σ l e. subst (λ d. Soonest printer x.table.now x.area.now d) (sym (e ∙ asked x r)) (slept.nearest printer _ _ σ l);
  former = λ x y d e i p n q r σ l m f g h k.
      h ∙ asked y r ∙ ap (λ t. door printer t (written (Ask.SetPriority i p)) y.area.now) (g ∙ ap (λ d. d.table) (f ∙ asked x q))
      ∙ former_set_lem.at_the_door printer x.table.now x.area.now y.area.now i p n σ l m k;
  third = λ t cs h. subst (λ es. Fair printer t es) (run_of_lem t cs h) (demand3 printer t (map handed cs));
  shares = λ t cs h. subst (λ es. Shares printer t es) (run_of_lem t cs h) (whole_rounds printer t (map handed cs));
  lags = λ t cs σ h. subst (λ es. NoLagIn printer t es) (run_of_lem t cs h) (no_lags.from printer t (map handed cs) σ);
  far = λ t cs h. subst (λ es. Kept Near printer t es) (run_of_lem t cs h) (never_far printer t (map handed cs));
  late = λ t cs h. subst (λ es. Kept InTime printer t es) (run_of_lem t cs h) (never_late printer t (map handed cs));
  even = λ t cs h. subst (λ es. Kept Even printer t es) (run_of_lem t cs h) (equal_lanes printer t (map handed cs));
  lag_bound = λ t cs σ h. subst (λ es. LagBoundIn printer t es) (run_of_lem t cs h) (lag_bounds.from printer t (map handed cs) σ);
}
