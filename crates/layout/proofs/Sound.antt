-- The table of a sound state is sound: it says that state, and what it has no meaning for is zero. Assumes nothing.
use mathlib.Core.Path.{ap, sym}
use Rattle.rules.specs.Board.{Board}
use Rattle.rules.specs.State.{State, On}
use Rattle.rules.specs.Lines.{ready_word}
use Rattle.rules.specs.Table.{encode}
use Rattle.rules.specs.Sound.{Sound, SoundTable}
use Rattle.layout.proofs.Records.{length_encode}
use Rattle.layout.proofs.RoundTrip.{decode_encode}

pub encode_sound : (b : Board) (s : State) → On b s → Sound s → SoundTable b (encode s)
unfolding encode
encode_sound b s on σ = record { long = length_encode on (ready_word s.threads); meaning = ap encode (sym (decode_encode on)); state = rw (decode_encode on) σ }
