-- What the trace program prints of a trace, byte for byte: "record number from 0, code, value, running thread after it,
-- single spaces, line feed. Left-over bytes (1 to 11) give a last line `short N`."
use Rattle.std.specs.Prelude.{Bool, true, false, List, [], ◌∷◌, ◌++◌, ℕ, zero, suc, ◌+◌, ◌/◌, ◌%◌, ltb, ℤ, pos, negsuc}
use Prim.Native.Char.{code}
use Prim.Native.String as string
use Prim.Native.String.{String}
use Rattle.rules.specs.Trace.{TraceLine, served, short}

-- the bytes of a text in ASCII
abbrev pub ascii : String → List ℕ
ascii string.[] = []
ascii (string.◌∷◌ c s) = code c ∷ ascii s

-- the ASCII digit of a number below 10
abbrev pub digit : ℕ → ℕ
digit d = 48 + d

-- the digits of n, the highest first: `small` says that n is below 10, and k counts down to 0 no sooner than n does
unfoldable pub digits : ℕ → Bool → ℕ → List ℕ
digits zero small n = digit n ∷ []
digits (suc k) true n = digit n ∷ []
digits (suc k) false n = digits k (ltb (n / 10) 10) (n / 10) ++ (digit (n % 10) ∷ [])

-- n in decimal, without leading zeros
unfoldable pub decimal : ℕ → List ℕ
decimal n = digits n (ltb n 10) n

-- a number with its sign, in decimal: `negsuc n` is −(n + 1)
abbrev pub signed : ℤ → List ℕ
signed (pos n) = decimal n
signed (negsuc n) = ascii "-" ++ decimal (suc n)

abbrev pub line_text : TraceLine → List ℕ
line_text (served n c v r) = decimal n ++ ascii " " ++ signed c ++ ascii " " ++ decimal v ++ ascii " " ++ decimal r ++ ascii "\n"
line_text (short n) = ascii "short " ++ decimal n ++ ascii "\n"

abbrev pub trace_text : List TraceLine → List ℕ
trace_text [] = []
trace_text (l ∷ ls) = line_text l ++ trace_text ls
