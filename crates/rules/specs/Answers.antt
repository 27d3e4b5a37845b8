-- "An answer is a code and a value": document 01's numbers for each answer, and the 8 bytes that say them.
use Rattle.std.specs.Prelude.{List, ◌++◌, ℕ, ◌-◌, ℤ, pos, negsuc, Result, Ok, Err}
use Rattle.rules.specs.Table.{word_bytes}
use Rattle.rules.specs.declared.Refusal.{Refusal}
use Rattle.rules.specs.declared.Refusal.TheVariants.{BadThread, BadPriority, BadTicks, BadState, BadOperation, BadSemaphore, BadTable, BadRecord}
use Rattle.rules.specs.declared.Reply.{Reply}
use Rattle.rules.specs.declared.Reply.TheVariants.{Done, Blocked, NoneYet, Failed}

-- a reply, or why not
abbrev pub Answer : Type 0
Answer = Result Reply Refusal

-- −1 to −8: `negsuc n` is −(n + 1)
abbrev pub refusal_code : Refusal → ℤ
refusal_code BadThread = negsuc 0
refusal_code BadPriority = negsuc 1
refusal_code BadTicks = negsuc 2
refusal_code BadState = negsuc 3
refusal_code BadOperation = negsuc 4
refusal_code BadSemaphore = negsuc 5
refusal_code BadTable = negsuc 6
refusal_code BadRecord = negsuc 7

-- "Code 0 is done and 1 is blocked." "Outcome: code is the outcome": 1 none yet, −5 failed.
abbrev pub code_of : Answer → ℤ
code_of (Ok (Done v)) = pos 0
code_of (Ok (Blocked v)) = pos 1
code_of (Ok NoneYet) = pos 1
code_of (Ok Failed) = negsuc 4
code_of (Err why) = refusal_code why

-- "Value is 0 unless named." Order 1 names that of a call which answers 1.
abbrev pub value_of : Answer → ℕ
value_of (Ok (Done v)) = v
value_of (Ok (Blocked v)) = v
value_of (Ok NoneYet) = 0
value_of (Ok Failed) = 0
value_of (Err why) = 0

-- the 32 bits of a code
abbrev pub bits_of : ℤ → ℕ
bits_of (pos n) = n
bits_of (negsuc n) = 4294967295 - n

-- "An 8-byte answer area (code as signed 32 bits, then value)."
abbrev pub area_length : ℕ
area_length = 8

unfoldable pub area_of : Answer → List ℕ
area_of a = word_bytes (bits_of (code_of a)) ++ word_bytes (value_of a)
