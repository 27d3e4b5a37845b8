-- Lines and texts, good and bad: by computation. Assumes nothing.
use Rattle.std.specs.Prelude.{None, Some}
use mathlib.Core.Path.{◌≡◌, refl}
use mathlib.Core.List.{List, [], ◌∷◌}
use Prim.Native.Nat.{ℕ}
use Rattle.rules.specs.Requests.{request_of, decode_request}
use Rattle.rules.specs.Trace.{records}
use Rattle.text.specs.Text.{ascii, digits, decimal}
use Rattle.listing.specs.Line.{line_text, line_of, digits_from, number_from, spaced_from, field_from, ended, fields_from, record_of}
use Rattle.listing.specs.Listing.{text_of, lines_of, each, turned_from, write, list}

-- the record of a line that is taken
abbrev Takes : List ℕ → List ℕ → Type 0
Takes l r = record_of l ≡ Some r

abbrev Refuses : List ℕ → Type 0
Refuses l = record_of l ≡ None

pub taken :
    Takes (ascii "19") (19 ∷ 0 ∷ 0 ∷ 0 ∷ 0 ∷ 0 ∷ 0 ∷ 0 ∷ 0 ∷ 0 ∷ 0 ∷ 0 ∷ [])
    × Takes (ascii "1 2 5 3") (1 ∷ 2 ∷ 5 ∷ 0 ∷ 3 ∷ 0 ∷ 0 ∷ 0 ∷ 0 ∷ 0 ∷ 0 ∷ 0 ∷ [])
    × Takes (ascii "8 255 4294967295 4294967294") (8 ∷ 255 ∷ 0 ∷ 0 ∷ 255 ∷ 255 ∷ 255 ∷ 255 ∷ 254 ∷ 255 ∷ 255 ∷ 255 ∷ [])
    × Takes (ascii "9 1 258") (9 ∷ 1 ∷ 0 ∷ 0 ∷ 0 ∷ 0 ∷ 0 ∷ 0 ∷ 2 ∷ 1 ∷ 0 ∷ 0 ∷ [])
    × Takes (ascii "0006 00100000") (6 ∷ 0 ∷ 0 ∷ 0 ∷ 160 ∷ 134 ∷ 1 ∷ 0 ∷ 0 ∷ 0 ∷ 0 ∷ 0 ∷ [])
    × Takes (ascii "21 99999") (21 ∷ 0 ∷ 0 ∷ 0 ∷ 159 ∷ 134 ∷ 1 ∷ 0 ∷ 0 ∷ 0 ∷ 0 ∷ 0 ∷ [])
    × Takes (ascii "22") (22 ∷ 0 ∷ 0 ∷ 0 ∷ 0 ∷ 0 ∷ 0 ∷ 0 ∷ 0 ∷ 0 ∷ 0 ∷ 0 ∷ [])
    × Takes (ascii "23 1 5") (23 ∷ 1 ∷ 5 ∷ 0 ∷ 0 ∷ 0 ∷ 0 ∷ 0 ∷ 0 ∷ 0 ∷ 0 ∷ 0 ∷ [])
    × Takes (ascii "24 1 8") (24 ∷ 1 ∷ 0 ∷ 0 ∷ 8 ∷ 0 ∷ 0 ∷ 0 ∷ 0 ∷ 0 ∷ 0 ∷ 0 ∷ [])
    × Takes (ascii "0000000000000000000000000000000000000017") (17 ∷ 0 ∷ 0 ∷ 0 ∷ 0 ∷ 0 ∷ 0 ∷ 0 ∷ 0 ∷ 0 ∷ 0 ∷ 0 ∷ [])
unfolding record_of number_from digits_from fields_from field_from spaced_from ended
taken = (refl, refl, refl, refl, refl, refl, refl, refl, refl, refl)

-- 41 characters, the empty line, two spaces, a space before and behind, objects and priorities of over a byte, a number and data of over a word,
-- operations that −8 refuses, too few fields and too many, a carriage return, a letter, a sign, a tabulator
pub bad :
    Refuses (ascii "00000000000000000000000000000000000000017") × Refuses (ascii "") × Refuses (ascii "13 0  5")
    × Refuses (ascii " 19") × Refuses (ascii "19 ") × Refuses (ascii " ")
    × Refuses (ascii "2 256") × Refuses (ascii "1 1 256 1") × Refuses (ascii "6 4294967296") × Refuses (ascii "9 0 4294967296")
    × Refuses (ascii "21") × Refuses (ascii "22 1") × Refuses (ascii "3") × Refuses (ascii "3 1 5 2") × Refuses (ascii "23 1 5 2") × Refuses (ascii "24 1 5 2") × Refuses (ascii "25") × Refuses (ascii "256") × Refuses (ascii "99999999999999999999999999999999999999")
    × Refuses (ascii "13 0") × Refuses (ascii "1 1 1") × Refuses (ascii "19 0") × Refuses (ascii "8 1 2 3 4")
    × Refuses (ascii "19\r") × Refuses (ascii "2 a") × Refuses (ascii "6 -1") × Refuses (ascii "6 +1") × Refuses (ascii "6\t1")
unfolding record_of number_from digits_from fields_from field_from spaced_from ended
bad = (refl, refl, refl, refl, refl, refl, refl, refl, refl, refl, refl, refl, refl, refl, refl, refl, refl, refl, refl, refl, refl, refl, refl, refl, refl, refl, refl, refl)

pub texts :
    (write (ascii "") ≡ record { done = []; bad = None })
    × (write (ascii "\n") ≡ record { done = []; bad = Some 0 })
    × (write (ascii "17\n18\n") ≡ record { done = (17 ∷ 0 ∷ 0 ∷ 0 ∷ 0 ∷ 0 ∷ 0 ∷ 0 ∷ 0 ∷ 0 ∷ 0 ∷ 0 ∷ []) ∷ (18 ∷ 0 ∷ 0 ∷ 0 ∷ 0 ∷ 0 ∷ 0 ∷ 0 ∷ 0 ∷ 0 ∷ 0 ∷ 0 ∷ []) ∷ []; bad = None })
    × (write (ascii "17\n18") ≡ record { done = (17 ∷ 0 ∷ 0 ∷ 0 ∷ 0 ∷ 0 ∷ 0 ∷ 0 ∷ 0 ∷ 0 ∷ 0 ∷ 0 ∷ []) ∷ []; bad = Some 1 })
    × (write (ascii "17\n\n18\n") ≡ record { done = (17 ∷ 0 ∷ 0 ∷ 0 ∷ 0 ∷ 0 ∷ 0 ∷ 0 ∷ 0 ∷ 0 ∷ 0 ∷ 0 ∷ []) ∷ []; bad = Some 1 })
    × (write (ascii "17\r\n18\n") ≡ record { done = []; bad = Some 0 })
unfolding record_of number_from digits_from fields_from field_from spaced_from ended lines_of each turned_from
texts = (refl, refl, refl, refl, refl, refl)

pub listed :
    (list (8 ∷ 255 ∷ 0 ∷ 0 ∷ 255 ∷ 255 ∷ 255 ∷ 255 ∷ 254 ∷ 255 ∷ 255 ∷ 255 ∷ 19 ∷ 0 ∷ 0 ∷ 0 ∷ 0 ∷ 0 ∷ 0 ∷ 0 ∷ 0 ∷ 0 ∷ 0 ∷ 0 ∷ 7 ∷ [])
    ≡ record { done = ascii "8 255 4294967295 4294967294" ∷ ascii "19" ∷ []; bad = Some 2 })
    × (list (19 ∷ 0 ∷ 0 ∷ 0 ∷ 0 ∷ 0 ∷ 0 ∷ 0 ∷ 0 ∷ 0 ∷ 0 ∷ 1 ∷ []) ≡ record { done = []; bad = Some 0 })
    × (text_of (ascii "17" ∷ ascii "2 3" ∷ []) ≡ ascii "17\n2 3\n")
    × (line_of (3 ∷ 1 ∷ 5 ∷ 0 ∷ 2 ∷ 0 ∷ 0 ∷ 0 ∷ 0 ∷ 0 ∷ 0 ∷ 0 ∷ []) ≡ None)
    × (line_of (25 ∷ 0 ∷ 0 ∷ 0 ∷ 0 ∷ 0 ∷ 0 ∷ 0 ∷ 0 ∷ 0 ∷ 0 ∷ 0 ∷ []) ≡ None)
unfolding turned_from each records line_of line_text request_of decode_request digits decimal text_of
listed = (refl, refl, refl, refl, refl)
