-- The mark of a line: which bits of a record's first eight bytes, read as a number, tell that its thread stands there, and what they are.
-- The bytes are use, priority, suspended, wait kind, wait object, place, mailbox full and outcome, the lowest first.
use Rattle.std.specs.Prelude.{if◌then◌else◌, ℕ, ◌+◌, ◌*◌, leb}
use Rattle.rules.specs.Basic.{bit}
use Rattle.rules.specs.Table.{kind_of, object_of, outcome_byte}
use Rattle.rules.specs.Lines.{Line, nowhere, ready, waiters, senders}
use Rattle.rules.specs.declared.Thread.{Thread}
use Rattle.marks.specs.declared.Mark.{Mark}

-- what tells of a line, and behind it the rest of the eight bytes
abbrev pub standing : Thread → ℕ
standing t = bit t.used + 256 * t.priority + 65536 * bit t.suspended + 16777216 * (kind_of t.wait + 256 * object_of t.wait)

abbrev pub head_of : Thread → ℕ
head_of t = (t.place + 256 * (bit t.full + 256 * outcome_byte t.outcome)) * 1099511627776 + standing t

-- no record has it
abbrev pub nobody : Mark
nobody = record { mask = 0; bytes = 1 }

-- an object that no byte can name has no line
abbrev pub nameable : ℕ → Mark → Mark
nameable object mark = if leb object 255 then mark else nobody

-- all five bytes of a ready thread tell; of one that waits its use, and its wait's kind and object
abbrev pub mark_of : Line → Mark
mark_of nowhere = nobody
mark_of (ready p) = nameable p (record { mask = 1099511627775; bytes = 1 + 256 * p })
mark_of (waiters k) = nameable k (record { mask = 1099494850815; bytes = 1 + 4 * 16777216 + 4294967296 * k })
mark_of (senders i) = nameable i (record { mask = 1099494850815; bytes = 1 + 3 * 16777216 + 4294967296 * i })

-- the place is 1 besides
abbrev pub first_mark : Line → Mark
first_mark l = record { mask = (mark_of l).mask + 255 * 1099511627776; bytes = (mark_of l).bytes + 1099511627776 }
