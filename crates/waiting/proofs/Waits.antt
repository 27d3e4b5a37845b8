-- Laws of waits: the first n of a line are served one by one, and a number out of range ends nobody's wait. Assumes nothing.
use mathlib.Core.Path.{◌≡◌, refl}
use mathlib.Core.List.{List}
use Prim.Native.Nat.{ℕ, zero, suc, ◌+◌, ◌≤◌}
use lib.ListN.{length}
use native.Mathlib.Numerals.{add-one}
use Rattle.rules.specs.Lines.{Line, first}
use Rattle.rules.specs.Waiting.{ended, end_wait, serve}
use Rattle.rules.specs.declared.Thread.{Thread}
use Rattle.rules.specs.declared.Outcome.{Outcome}
use Rattle.laws.proofs.Moves.{move_out}

serve_last : (n : ℕ) (l : Line) (o : Outcome) (ts : List Thread) → serve 1 l o (serve n l o ts) ≡ serve (suc n) l o ts
unfolding serve
serve_last zero l o ts = refl
serve_last (suc n) l o ts = serve_last n l o (end_wait (first l ts) o 0 ts)

pub serve_more : (n : ℕ) (l : Line) (o : Outcome) (ts : List Thread) → serve 1 l o (serve n l o ts) ≡ serve (n + 1) l o ts
serve_more n l o ts = rw add-one (serve_last n l o ts)

pub end_out : (i : ℕ) (o : Outcome) (x : ℕ) (ts : List Thread) → length ts ≤ i → end_wait i o x ts ≡ ts
unfolding end_wait
end_out i o x ts h = move_out i (ended o x) ts h
