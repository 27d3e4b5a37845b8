-- The report at closed inputs: document 01's example run, in which thread 1 has both ticks, which is 6 fifths of a tick more than its share, and
-- thread 2 as much less; and an input for each sentence on who is charged and since when.
use Rattle.std.specs.Prelude.{◌≡◌, List, [], ◌∷◌, ◌++◌, ℕ}
use Rattle.rules.specs.Board.{printer}
use Rattle.rules.specs.Requests.{tick_record}
use Rattle.text.specs.Text.{ascii}
use Rattle.text.specs.Example.{example_input}
use Rattle.lanes.specs.Report.{report}

-- the record of an operation with its object, its priority and a number below 256
abbrev asks : ℕ → ℕ → ℕ → ℕ → List ℕ
asks operation o p n = operation ∷ o ∷ p ∷ 0 ∷ n ∷ 0 ∷ 0 ∷ 0 ∷ 0 ∷ 0 ∷ 0 ∷ 0 ∷ []

-- thread 1 is created at priority 5 with a turn of 2 ticks, and is charged two
abbrev ran : List ℕ
ran = asks 1 1 5 2 ++ tick_record ++ tick_record

pub record Examples : Type 0 where
  pub document : report printer example_input ≡ ascii "0 0 0\n" ++ ascii "1 2 6\n" ++ ascii "2 0 -6\n"
  -- no bytes, and left-over bytes: "`short N` isn't printed"
  pub empty : report printer [] ≡ ascii "0 0 0\n"
  pub short : report printer (7 ∷ 7 ∷ 7 ∷ []) ≡ ascii "0 0 0\n"
  -- "since its creation": deleted it has no line, and created again it begins anew
  pub gone : report printer (ran ++ asks 2 1 0 0) ≡ ascii "0 0 0\n"
  pub anew : report printer (ran ++ asks 2 1 0 0 ++ asks 1 1 5 2 ++ tick_record) ≡ ascii "0 0 0\n" ++ ascii "1 1 0\n"
  -- its charges stay where its settings change and where it is suspended
  pub kept : report printer (ran ++ asks 3 1 6 3 ++ tick_record ++ asks 4 1 0 0 ++ tick_record) ≡ ascii "0 1 0\n" ++ ascii "1 3 0\n"
  -- "to nobody while the lock is on; a refused one to nobody": a tick under lock, and one with an object that it has no use for
  pub nobody : report printer (ran ++ asks 17 0 0 0 ++ tick_record ++ asks 18 0 0 0 ++ asks 19 1 0 0) ≡ ascii "0 0 0\n" ++ ascii "1 2 0\n"
  -- order 7: an accepted operation 21 counts as its single ticks: a round of turns of 2 and 3, two ticks under lock, and none of one that is refused
  pub slept : report printer (asks 1 1 5 2 ++ asks 1 2 5 3 ++ asks 21 0 0 5 ++ asks 17 0 0 0 ++ asks 21 0 0 2 ++ asks 21 0 0 0)
      ≡ ascii "0 0 0\n" ++ ascii "1 2 0\n" ++ ascii "2 3 0\n"
