-- What a function says of the table that it is lent: the state that the table holds, and what becomes of it. Which board a table is of is
-- said by its length.
use Rattle.std.specs.Prelude.{◌≡◌, List, ℕ, length}
use Rattle.rules.specs.Board.{Board, board_of, table_length}
use Rattle.rules.specs.State.{State, with_threads, with_sems}
use Rattle.rules.specs.Table.{word_at, encode_with, encode, decode}
use Rattle.rules.specs.declared.Thread.{Thread}
use Rattle.rules.specs.declared.Sem.{Sem}
use Rattle.layout.specs.Bytes.{word_from}

-- THE BOARD

abbrev pub board : List ℕ → Board
board t = board_of (length t)

-- a table is as long as its board's
pub record Long (t : List ℕ) : Type 0 where
  pub fits : length t ≡ table_length (board t)

-- the state that a table says
unfoldable pub said : List ℕ → State
said t = decode (board t) t

-- THE STATE

-- the table's bytes are the state's, and the state is what they say
pub record Holds (t : List ℕ) (s : State) : Type 0 where
  pub bytes : t ≡ encode s
  pub says : said t ≡ s

-- the table holds the state that it says
pub record Whole (t : List ℕ) : Type 0 where
  pub long : Long t
  pub meaning : t ≡ encode (said t)

-- a table that held a state holds what a rule makes of that state
pub record Becomes (before after : List ℕ) (rule : State → State) : Type 0 where
  pub whole : Whole after
  pub holds : (s : State) → Holds before s → Holds after (rule s)

-- BUT FOR THE READY WORD: while a thread goes from one line to another, the table's ready word is not yet that of its lines

-- the table's bytes are the state's, with that ready word, and the state is what they say
pub record Shows (t : List ℕ) (s : State) (word : ℕ) : Type 0 where
  pub bytes : t ≡ encode_with word s
  pub says : said t ≡ s

-- the table shows the state that it says, with the ready word that it holds
pub record Laid (t : List ℕ) : Type 0 where
  pub long : Long t
  pub meaning : t ≡ encode_with (word_at t (word_from (board t))) (said t)

-- a table that showed a state shows what a rule makes of that state, with the same ready word
pub record Changes (before after : List ℕ) (rule : State → State) : Type 0 where
  pub laid : Laid after
  pub shows : (s : State) (word : ℕ) → Shows before s word → Shows after (rule s) word

-- a rule of the threads alone, and of the semaphores alone
abbrev pub on_threads : (List Thread → List Thread) → State → State
on_threads f s = with_threads (f s.threads) s

abbrev pub on_sems : (List Sem → List Sem) → State → State
on_sems f s = with_sems (f s.sems) s
