-- A run through a door: its events, read off the tables' bytes and the codes that the door answers.
use Rattle.std.specs.Prelude.{if◌then◌else◌, List, [], ◌∷◌, ◌++◌, ℕ, zero, suc, eqb}
use Rattle.rules.specs.Board.{Board}
use Rattle.rules.specs.Table.{decode}
use Rattle.rules.specs.Requests.{decode_request, tick_record}
use Rattle.rules.specs.Door.{Doored, Handed}
use Rattle.fairness.specs.Run.{Event, slept}

-- a door answers a table, a record and an area; the rules' is `door b`
abbrev pub Door : Type 0
Door = List ℕ → List ℕ → List ℕ → Doored

-- what is asked of table t, and what the door makes of it
abbrev pub event_of : Board → List ℕ → Handed → Doored → Event
event_of b t h r = record { before = decode b t; asked = decode_request h.request; code = r.code; after = decode b r.table }

-- n single ticks from table t, each with area a: the door itself is asked for each, and each finds the table that the one before it leaves
unfoldable pub single_ticks : Board → Door → List ℕ → List ℕ → ℕ → List Event
single_ticks b d t a zero = []
single_ticks b d t a (suc n) =
    let h : Handed = record { request = tick_record; area = a } in
    let r = d t tick_record a in
    event_of b t h r ∷ single_ticks b d r.table a n

-- order 7: "Demand 3 counts an accepted operation 21 as its single ticks: its premise is read after each, and a part may begin or end between
-- them." Any other call is one event.
abbrev pub counted_as : Board → Door → List ℕ → Handed → Doored → List Event
counted_as b d t h r = let e = event_of b t h r in if eqb (slept e) 0 then e ∷ [] else single_ticks b d t h.area (slept e)

-- "any run of requests and ticks": any records and any answer areas, so that a request, a tick too, may be refused with −7 or −8;
-- each finds the table that the one before it leaves
unfoldable pub run_of : Board → Door → List ℕ → List Handed → List Event
run_of b d t [] = []
run_of b d t (h ∷ hs) = let r = d t h.request h.area in counted_as b d t h r ++ run_of b d r.table hs
