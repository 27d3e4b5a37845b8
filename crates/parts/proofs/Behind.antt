-- The bytes that are held, and what a read put behind them, are all that is at hand. Assumes nothing.
use mathlib.Core.Path.{◌≡◌, sym, ap, ◌∙◌}
use mathlib.Core.List.{List, ◌++◌}
use Prim.Native.Nat.{ℕ, ◌+◌}
use native.Mathlib.Omega.{arith}
use lib.ListN.{length, take, drop, take-append-drop, length-drop}

-- the bytes that are held stay, and n come
module _ (held block : List ℕ) (n : ℕ) (stay : take (length held) block ≡ held) (more : length block ≡ length held + n) where
  abbrev pub part : List ℕ
  part = drop (length held) block

  pub come : held ++ part ≡ block
  come = ap (λ l. l ++ part) (sym stay) ∙ take-append-drop (length held) block

  pub part_size : length part ≡ n
  part_size = omega (arith, length-drop (length held) block, more)
