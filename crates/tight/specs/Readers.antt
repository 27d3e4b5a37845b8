-- The three functions over a struct that holds a reference, of whose contracts the check has no plain reading: each clause is one fact,
-- and the fact is tight.
use Rattle.std.specs.Prelude.{◌≡◌}
use seplogic.Ra.Ura.{Ura}
use prog.Memory.{Memory}
use prog.Routine.{Routine}
use types.Logic.{Logic}
use base.Logic.{SProp}
use contract.Lifetimes.{Lfts}
use contract.Monad.{Fun, fact}
use denote.Triple.Clauses.{Ended, Clauses, AtExit, Lasts, at_exit}
use denote.Triple.Entry.{Args, Res}
use Rattle.reader.specs.contracts.TraceReader.new as new
use Rattle.reader.specs.contracts.TraceReader.moved as moved
use Rattle.reader.specs.contracts.TraceReader.next as next

abbrev ClausesOf : Ended → Type 2
ClausesOf T = (M : Type 1) (𝓤 : Ura M) (𝓛 : Logic 𝓤) → (Memory → SProp 𝓤) → (Routine → Fun 𝓤) → Clauses 𝓤 T

-- at every model the `ensures` is one plain fact, and two results that it allows are equal
pub record TightClauses (T : Ended) (clauses : ClausesOf T) : Type 2 where
  pub Says : (κs : Lfts T.signature.lifetimes) → Args T.signature κs → Res T.signature κs → AtExit T κs → Type 0
  pub says : (M : Type 1) (𝓤 : Ura M) (𝓛 : Logic 𝓤) (mem : Memory → SProp 𝓤) (run : Routine → Fun 𝓤)
      (κs : Lfts T.signature.lifetimes) (a : Args T.signature κs) (g : (clauses M 𝓤 𝓛 mem run κs a).ghost) (z : Res T.signature κs) (e : AtExit T κs)
      → (clauses M 𝓤 𝓛 mem run κs a).ensures g z e ≡ fact 𝓤 (Says κs a z e)
  pub one : (κs : Lfts T.signature.lifetimes) (a : Args T.signature κs) (z z' : Res T.signature κs) (ws ws' : Lasts T κs a)
      → Says κs a z (at_exit T κs a ws) → Says κs a z' (at_exit T κs a ws') → (z ≡ z') × (ws ≡ ws')

pub record Readers : Type 2 where
  pub new : TightClauses new.ended (λ M 𝓤 𝓛 mem run. new.clauses 𝓛 mem run)
  pub moved : TightClauses moved.ended (λ M 𝓤 𝓛 mem run. moved.clauses 𝓛 mem run)
  pub next : TightClauses next.ended (λ M 𝓤 𝓛 mem run. next.clauses 𝓛 mem run)
