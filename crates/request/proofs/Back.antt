-- A request that is written is read back, whatever its fields are: four bytes of a word say the word, and the table's line for its
-- number keeps its fields. So the 24 operations and their fields are told apart. Assumes nothing.
use Rattle.std.specs.Prelude.{Some}
use mathlib.Core.Path.{◌≡◌, refl}
use Rattle.rules.specs.Requests.{request_of, decode_request}
use Rattle.rules.specs.declared.Request.{Request}
use Rattle.rules.specs.declared.Request.TheVariants as Ask
use Rattle.laws.proofs.Words.{word_back}
use Rattle.request.specs.Written.{fields_of, written}

fields_asked : (r : Request) → let f = fields_of r in request_of f.0 f.1 f.2 f.3 f.4 ≡ Some r
unfolding request_of
fields_asked Ask.Yield = refl
fields_asked (Ask.Create i p n) = refl
fields_asked (Ask.Delete i) = refl
fields_asked (Ask.Suspend i) = refl
fields_asked (Ask.Resume i) = refl
fields_asked (Ask.Delay n) = refl
fields_asked (Ask.Cancel i) = refl
fields_asked (Ask.Send i n d) = refl
fields_asked (Ask.SendFromInterrupt i d) = refl
fields_asked (Ask.Receive n) = refl
fields_asked (Ask.Make k n) = refl
fields_asked (Ask.Drop k) = refl
fields_asked (Ask.Pend k n) = refl
fields_asked (Ask.Abort i) = refl
fields_asked (Ask.Post k n) = refl
fields_asked (Ask.PostFromInterrupt k n) = refl
fields_asked Ask.Lock = refl
fields_asked Ask.Unlock = refl
fields_asked Ask.Tick = refl
fields_asked (Ask.Outcome i) = refl
fields_asked (Ask.Ticks n) = refl
fields_asked Ask.Nearest = refl
fields_asked (Ask.SetPriority i p) = refl
fields_asked (Ask.SetTurn i n) = refl

pub decode_written : (r : Request) → decode_request (written r) ≡ Some r
unfolding decode_request written
decode_written r = rw (word_back (fields_of r).3, word_back (fields_of r).4) (fields_asked r)

pub written_apart : (r s : Request) → written r ≡ written s → r ≡ s
written_apart r s e = cc (decode_written r, decode_written s)
