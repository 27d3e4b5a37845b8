-- The example run and the twelve cases hold by computation, and so does what a tick's record asks. Assumes nothing.
use mathlib.Core.Path.{◌≡◌, refl}
use Rattle.std.specs.Prelude.{Some}
use Rattle.rules.specs.Requests.{request_of, decode_request, tick_record}
use Rattle.rules.specs.Trace.{records, trace_from, trace}
use Rattle.rules.specs.Cases.{table, joined, bytes_at, given, numbered, held_bytes, expected, Cases}
use Rattle.rules.specs.declared.Request.TheVariants as Ask
use Rattle.rules.proofs.Computing.{behind_the_door}

pub cases : Cases
unfolding behind_the_door records trace_from trace table joined bytes_at given numbered held_bytes expected
cases = refl

pub tick_asked : decode_request tick_record ≡ Some Ask.Tick
unfolding request_of decode_request
tick_asked = refl
