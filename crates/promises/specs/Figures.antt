-- Demand 3 in figures: what a closed run on the printer board gives for each of the demand's words.
use Rattle.std.specs.Prelude.{if◌then◌else◌, Bool, ◌&&◌, List, [], ◌∷◌, map, ℕ, suc, eqb, take, drop}
use Rattle.rules.specs.Basic.{count, all}
use Rattle.rules.specs.Board.{printer}
use Rattle.rules.specs.Lines.{ready, in_line}
use Rattle.rules.specs.Table.{decode}
use Rattle.rules.specs.Test.{sound_table}
use Rattle.rules.specs.Door.{Handed}
use Rattle.rules.specs.Trace.{cleanly}
use Rattle.rules.specs.declared.Thread.{Thread}
use Rattle.rules.specs.declared.Request.{Request}
use Rattle.request.specs.Written.{written}
use Rattle.fairness.specs.Run.{Event, same_set, undisturbed, sum_turns, charged_to, charged_rank}
use Rattle.fairness.specs.Doors.{Door, run_of}

-- requests, each as its record with an area of 8 bytes
abbrev pub asks : List Request → List Handed
asks rs = map (λ r. cleanly (written r)) rs

-- a run from a table, and which part of it is counted
pub record Run : Type 0 where
  pub table : List ℕ
  pub handed : List Handed
  pub from : ℕ
  pub steps : ℕ

-- a thread of the rank's ready set, its turn, and the ticks charged to it
pub record Share : Type 0 where
  pub thread : ℕ
  pub turn : ℕ
  pub charged : ℕ

abbrev pub share : ℕ → ℕ → ℕ → Share
share i n c = record { thread = i; turn = n; charged = c }

pub record Figures : Type 0 where
  -- Is the table sound at the start? Is the set the same after each step? Is it undisturbed?
  pub sound : Bool
  pub same : Bool
  pub quiet : Bool
  -- the ticks charged to the rank, the sum of the turns, and what each thread has of them
  pub charged : ℕ
  pub turns : ℕ
  pub shares : List Share

-- the shares of a list of threads, the first of which has number i
unfoldable pub shares_from : ℕ → ℕ → List Thread → List Event → List Share
shares_from p i [] part = []
shares_from p i (t ∷ ts) part =
    let rest = shares_from p (suc i) ts part in
    if in_line (ready p) t then share i t.turn (count (charged_to i) part) ∷ rest else rest

-- the figures of rank p
unfoldable pub figures : Door → ℕ → Run → Figures
figures d p r =
    let threads = (decode printer r.table).threads in
    let run = run_of printer d r.table r.handed in
    let part = take r.steps (drop r.from run) in
    record {
      sound = sound_table printer r.table;
      same = all (same_set p) run;
      quiet = all (undisturbed p) run;
      charged = count (charged_rank p) part;
      turns = sum_turns p threads;
      shares = shares_from p 0 threads part;
    }

-- the premises of demand 3, and its claim
abbrev pub premises : Figures → Bool
premises f = f.sound && f.same && f.quiet && eqb f.charged f.turns

abbrev pub own_turns : Figures → Bool
own_turns f = all (λ s. eqb s.charged s.turn) f.shares
