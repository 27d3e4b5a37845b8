-- What a function that puts a text into lent bytes promises.
use Rattle.std.specs.Prelude.{◌≡◌, List, ℕ, ◌+◌, length}
use Rattle.std.proofs.lemmas.List.Edits.{sets}

-- at exit the buffer has the text stored from place `at` on and is as at entry elsewhere; `next` is the place after the text
pub record Puts (entry : List ℕ) (at : ℕ) (text : List ℕ) (exit : List ℕ) (next : ℕ) : Type 0 where
  pub bytes : exit ≡ sets entry at text
  pub place : next ≡ at + length text
