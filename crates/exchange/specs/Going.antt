-- What all reads of such a program come to. No contract says which bytes a read gives, so `seen` is some bytes, as many as the run says, which end in
-- those that stand in the block; all that follows from them is said. The run is promised for every number that the first line may have, so that one
-- which counts anew, or by itself, does not meet it. That `seen` is what came is outside.
use Rattle.std.specs.Prelude.{◌≡◌, List, ◌++◌, ℕ, ◌+◌, ◌*◌, length}
use Rattle.rules.specs.Requests.{request_length}
use Rattle.listing.specs.Listing.{turned_from, refusal_text}
use Rattle.listing.specs.Parts.{is_bad}
use Rattle.listing.specs.declared.Way.{Way}

-- the bytes that a block holds: 1,024 records
abbrev pub block_length : ℕ
block_length = 1024 * request_length

-- the run of an input whose first line or record has number `first` ends: so many bytes have come; `number` is the number behind those that are done,
-- up to the first that is bad; `held` is what is left over, or the whole part in which a bad one stands; and `said` is what is said of that one
pub record Ended (w : Way) (first bytes number : ℕ) (held said : List ℕ) : Type 0 where
  pub seen : List ℕ
  pub front : List ℕ
  pub ends : seen ≡ front ++ held
  pub size : length seen ≡ bytes
  pub count : first + length (turned_from w first seen).done ≡ number
  pub says : said ≡ refusal_text w (turned_from w first seen).bad
  -- something is refused exactly if what is held is
  pub own : is_bad (turned_from w first seen).bad ≡ is_bad (turned_from w first held).bad
