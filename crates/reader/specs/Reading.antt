-- What stands at a place of a trace: a whole record, left-over bytes (1 to 11), or nothing.
use Rattle.std.specs.Prelude.{if◌then◌else◌, List, ℕ, ◌-◌, ltb, leb, length}
use Rattle.rules.specs.Requests.{request_length}
use Rattle.reader.specs.declared.Read.{Read}
use Rattle.reader.specs.declared.Read.TheVariants.{Record, Short, End}

unfoldable pub read_at : List ℕ → ℕ → Read
read_at bytes at =
    if ltb at (length bytes)
    then (if leb request_length (length bytes - at) then Record at else Short (length bytes - at))
    else End
