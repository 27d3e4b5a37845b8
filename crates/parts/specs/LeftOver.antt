-- What is left over of some bytes behind their whole records.
use Rattle.std.specs.Prelude.{List, ℕ, ◌*◌, ◌/◌, length, drop}
use Rattle.rules.specs.Requests.{request_length}

-- the bytes behind the last whole record
abbrev pub left_over : List ℕ → List ℕ
left_over input = drop (length input / request_length * request_length) input
