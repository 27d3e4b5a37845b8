-- THE KERNEL ITSELF. The demands, said of the contract that `speltmallet_door` is proved to meet: its clauses are those of
-- crates/kernel/src/lib.rt, and what C calls has the same, letter by letter, in crates/kernel_c/src/lib.rt. A contract is a relation between
-- what is lent and what is given back, and whatever it allows meets the demands.
use Rattle.std.specs.Prelude.{◌≡◌, List, [], ◌∷◌, ◌++◌, ℕ, ◌≤◌, ℤ, length, Ok}
use seplogic.Ra.Ura.{Ura}
use base.Logic.{SProp, ent, emp}
use prog.Memory.{Memory}
use prog.Routine.{Routine}
use types.Logic.{Logic}
use contract.Lifetimes.{Lfts}
use contract.Monad.{Fun, fact}
use Rattle.std.specs.Borrow.{Bor, MutBor}
use denote.Triple.Clauses.{at_exit}
use denote.Triple.Entry.{Args}
use Rattle.rules.specs.Board.{printer}
use Rattle.rules.specs.Answers.{area_length}
use Rattle.rules.specs.Sound.{SoundTable}
use Rattle.rules.specs.Table.{encode, decode}
use Rattle.rules.specs.Door.{Doored, Handed, answered, door}
use Rattle.rules.specs.declared.Reply.TheVariants.{Done}
use Rattle.rules.specs.declared.Request.TheVariants as Ask
use Rattle.request.specs.Written.{written}
use Rattle.fairness.specs.Run.{Event}
use Rattle.kernel.specs.contracts.speltmallet_door as kernel
use Rattle.kernel.proofs.speltmallet_door.Statement.{statement}
use Rattle.promises.specs.Demand1.{Answered}
use Rattle.promises.specs.Demand2.{Ruled}
use Rattle.promises.specs.Word.{WordSays}
use Rattle.fairness.specs.Doors.{counted_as}
use Rattle.promises.specs.Demand3.{Fair, Shares}
use Rattle.promises.specs.Slept.{tick_times, found, Soonest}
use Rattle.promises.specs.FormerSet.{former_set}
use Rattle.promises.specs.Lanes.{NoLagIn}
use Rattle.fairness.specs.Lateness.{Near, InTime, Even}
use Rattle.lateness.specs.Moments.{Kept}
use Rattle.lateness.specs.Lags.{LagBoundIn}

-- ONE CALL

-- a table, a record and an area, lent for as long as the call takes
pub record Lent : Type 0 where
  pub lifetimes : Lfts 3
  pub table : MutBor (List ℕ)
  pub request : Bor (List ℕ)
  pub area : MutBor (List ℕ)

-- the code that is given back, and the last bytes of table and area, are those that the rules say
abbrev pub Allowed : Lent → Doored → Type 0
Allowed x d = d ≡ door printer x.table.now x.request.now x.area.now

-- the arguments of the function
abbrev pub arguments : (x : Lent) → Args (kernel.ended).signature x.lifetimes
arguments x = (x.table, (x.request, (x.area, tt)))

-- the contract, at any model of the logic
module _ {M : Type 1} {𝓤 : Ura M} (𝓛 : Logic 𝓤) (memory : Memory → SProp 𝓤) (runs : Routine → Fun 𝓤) (x : Lent) where
  -- `requires` is empty
  abbrev pub AsksNothing : Type 2
  AsksNothing = let c = kernel.clauses 𝓛 memory runs x.lifetimes (arguments x) in (g : c.ghost) → c.requires g ≡ emp 𝓤

  -- where `ensures` holds of what is given back, it is allowed
  abbrev pub Says : Type 1
  Says =
      let c = kernel.clauses 𝓛 memory runs x.lifetimes (arguments x) in
      (g : c.ghost) (d : Doored) → let exit = at_exit kernel.ended x.lifetimes (arguments x) (d.table, (tt, (d.area, tt))) in
      ent 𝓤 (c.ensures g d.code exit) (fact 𝓤 (Allowed x d))

-- A RUN OF CALLS

-- a call: what is lent, and what is given back
pub record Call : Type 0 where
  pub lent : Lent
  pub gives : Doored

-- from table t: each call is lent the table as the one before leaves it, and gives what is allowed
unfoldable pub Runs : List ℕ → List Call → Type 0
Runs t [] = Unit {0}
Runs t (c ∷ cs) = (c.lent.table.now ≡ t) × Allowed c.lent c.gives × Runs c.gives.table cs

-- What happens in it. By order 7 an accepted operation 21 counts as its single ticks: these are the rules' door's, which gives all that is
-- allowed.
unfoldable pub events : List ℕ → List Call → List Event
events t [] = []
events t (c ∷ cs) =
    let h : Handed = record { request = c.lent.request.now; area = c.lent.area.now } in
    counted_as printer (door printer) t h c.gives ++ events c.gives.table cs

-- THE CLAIMS

pub record Kernel : Type 2 where
  -- the function's routine ends and meets its contract,
  pub meets : (M : Type 1) → statement M
  -- "never asks the caller to check first",
  pub asks : (M : Type 1) (𝓤 : Ura M) (𝓛 : Logic 𝓤) (memory : Memory → SProp 𝓤) (runs : Routine → Fun 𝓤) (x : Lent) → AsksNothing 𝓛 memory runs x
  -- and allows only this:
  pub says : (M : Type 1) (𝓤 : Ura M) (𝓛 : Logic 𝓤) (memory : Memory → SProp 𝓤) (runs : Routine → Fun 𝓤) (x : Lent) → Says 𝓛 memory runs x
  -- demand 1
  pub first : (x : Lent) (d : Doored) → Allowed x d → Answered printer x.table.now x.request.now x.area.now d
  -- demand 2
  pub second : (x : Lent) (d : Doored) → SoundTable printer x.table.now → Allowed x d → Ruled printer x.table.now x.request.now x.area.now d
  -- order 6: and the ready word of the table that is left says what it is to say
  pub word : (x : Lent) (d : Doored) → SoundTable printer x.table.now → Allowed x d → WordSays printer d.table
  -- order 7: "table and answer equal those of that many single ones",
  pub slept : (x : Lent) (d : Doored) (c : ℤ) (n : ℕ) → x.request.now ≡ written (Ask.Ticks n) → 1 ≤ n → n ≤ 99999 → Allowed x d
      → d ≡ tick_times printer n (found c x.table.now x.area.now)
  -- and the value of operation 22 is "the least number of ticks after which, if only ticks come, some timed wait ends, and 0 if there is none"
  pub nearest : (x : Lent) (d : Doored) → x.request.now ≡ written Ask.Nearest → SoundTable printer x.table.now → length x.area.now ≡ area_length → Allowed x d
      → Soonest printer x.table.now x.area.now d
  -- order 8: operation 24 and then 23 leave what the former operation 3 left, wherever that was accepted
  pub former : (x y : Lent) (d e : Doored) (i p n : ℕ) → x.request.now ≡ written (Ask.SetTurn i n) → y.request.now ≡ written (Ask.SetPriority i p)
      → SoundTable printer x.table.now → length x.area.now ≡ area_length → length y.area.now ≡ area_length
      → Allowed x d → y.table.now ≡ d.table → Allowed y e
      → (former_set (decode printer x.table.now) i p n).answer ≡ Ok (Done 0) → e ≡ answered (encode (former_set (decode printer x.table.now) i p n).state) (Ok (Done 0))
  -- demand 3
  pub third : (t : List ℕ) (cs : List Call) → Runs t cs → Fair printer t (events t cs)
  -- and the share over whole rounds
  pub shares : (t : List ℕ) (cs : List Call) → Runs t cs → Shares printer t (events t cs)
  -- order 5: and no lag after whole rounds
  pub lags : (t : List ℕ) (cs : List Call) → SoundTable printer t → Runs t cs → NoLagIn printer t (events t cs)
  -- at every moment: never far from the share, never late for it, equal lanes evenly, and a bounded lag
  pub far : (t : List ℕ) (cs : List Call) → Runs t cs → Kept Near printer t (events t cs)
  pub late : (t : List ℕ) (cs : List Call) → Runs t cs → Kept InTime printer t (events t cs)
  pub even : (t : List ℕ) (cs : List Call) → Runs t cs → Kept Even printer t (events t cs)
  pub lag_bound : (t : List ℕ) (cs : List Call) → SoundTable printer t → Runs t cs → LagBoundIn printer t (events t cs)
