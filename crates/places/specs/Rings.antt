-- Whether threads are well placed, by what is noted of them: the number of each one's line, 0 for none, and its place.
use Rattle.std.specs.Prelude.{if◌then◌else◌, ◌≡◌, Bool, false, ◌&&◌, List, ℕ, zero, suc, ◌+◌, ◌*◌, ◌/◌, ◌≤◌, ◌<◌, eqb, leb, length, get_or}
use Rattle.std.proofs.Math.Seq.{paste}
use Rattle.rules.specs.Basic.{bit}
use Rattle.rules.specs.Board.{most_threads}

-- what is noted of the threads
pub record Entries : Type 0 where
  pub lines : List ℕ
  pub places : List ℕ

-- how many of the numbers below n pass
abbrev pub count_below : ℕ → (ℕ → Bool) → ℕ
count_below zero test = 0
count_below (suc n) test = count_below n test + bit (test n)

-- entry k is of the line
abbrev pub entry_in : List ℕ → ℕ → ℕ → Bool
entry_in lines line k = eqb (get_or lines k 0) line

-- entry k is of the line and has the place
abbrev pub entry_at : List ℕ → List ℕ → ℕ → ℕ → ℕ → Bool
entry_at lines places line place k = entry_in lines line k && eqb (get_or places k 0) place

-- "in no line the place is 0; in a line of n it is one of 1 to n, and nobody else has it", of thread j of n
unfoldable pub placed : ℕ → List ℕ → List ℕ → ℕ → Bool
placed n lines places j =
    let line = get_or lines j 0 in
    let place = get_or places j 0 in
    if eqb line 0 then eqb place 0 else
    leb 1 place && leb place (count_below n (entry_in lines line)) && eqb (count_below n (entry_at lines places line place)) 1

-- A RING: the entries of all n threads, and the same once more behind them

abbrev pub half : ℕ → ℕ
half n = n / 2

-- the entries that a ring has room for, on whatever board
abbrev pub ring_length : ℕ
ring_length = 2 * most_threads

-- so many threads have room in a ring, and its two halves are all of it
abbrev pub Ring : ℕ → List ℕ → Type 0
Ring n xs = (n ≤ most_threads) × (half n + half n ≡ n) × (n + n ≤ length xs)

abbrev pub closed : ℕ → List ℕ → List ℕ
closed n xs = paste xs n xs n

-- what thread j of n asks the ring: its place is at most as many as stand in its line, and nobody of the half before it has the place
pub record Near (n : ℕ) (lines places : List ℕ) (j : ℕ) : Type 0 where
  pub nowhere : get_or lines (j + n) 0 ≡ 0 → get_or places (j + n) 0 ≡ 0
  pub low : (get_or lines (j + n) 0 ≡ 0 → ⊥) → 1 ≤ get_or places (j + n) 0
  pub high : (get_or lines (j + n) 0 ≡ 0 → ⊥) → get_or places (j + n) 0 ≤ count_below n (λ k. entry_in lines (get_or lines (j + n) 0) (j + k))
  pub alone : (get_or lines (j + n) 0 ≡ 0 → ⊥) → (k : ℕ) → k < half n → entry_at lines places (get_or lines (j + n) 0) (get_or places (j + n) 0) (j + half n + k) ≡ false
