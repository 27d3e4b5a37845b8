-- A run through the door, over bytes, is a run by the rules on the states that the tables say, and it ends with the state that the last table
-- says. Runs one after the other are one run. Assumes nothing.
use mathlib.Core.Path.{◌≡◌, refl, ap, sym, ◌∙◌}
use mathlib.Core.List.{List, [], ◌∷◌, ◌++◌, append_assoc}
use Prim.Native.Nat.{ℕ}
use Rattle.rules.specs.Board.{Board}
use Rattle.rules.specs.State.{State}
use Rattle.rules.specs.Table.{decode}
use Rattle.rules.specs.Door.{door, Handed, table_after}
use Rattle.fairness.specs.Run.{Event, end_of}
use Rattle.fairness.specs.Doors.{counted_as, run_of}
use Rattle.fairness.specs.Fair.{RunFrom}
use Rattle.fairness.proofs.Calls.{counted_run, counted_end}

-- EVENTS ONE AFTER THE OTHER

run_join : (s : State) (xs ys : List Event) → RunFrom s xs → RunFrom (end_of s xs) ys → RunFrom s (xs ++ ys)
run_join s [] ys h k = k
run_join s (x ∷ xs) ys h k = (h.0, h.1, run_join x.after xs ys h.2 k)

pub end_append : (s : State) (xs ys : List Event) → end_of s (xs ++ ys) ≡ end_of (end_of s xs) ys
end_append s [] ys = refl
end_append s (x ∷ xs) ys = end_append x.after xs ys

-- THE RUN

pub run_by_rules : (b : Board) (t : List ℕ) (hs : List Handed) → RunFrom (decode b t) (run_of b (door b) t hs)
unfolding run_of
run_by_rules b t [] = tt
run_by_rules b t (h ∷ hs) =
    let r = door b t h.request h.area in
    run_join (decode b t) (counted_as b (door b) t h r) (run_of b (door b) r.table hs) (counted_run b t h) (rw (counted_end b t h) (run_by_rules b r.table hs))

pub run_end : (b : Board) (t : List ℕ) (hs : List Handed) → end_of (decode b t) (run_of b (door b) t hs) ≡ decode b (table_after b t hs)
unfolding run_of table_after
run_end b t [] = refl
run_end b t (h ∷ hs) =
    let r = door b t h.request h.area in
    end_append (decode b t) (counted_as b (door b) t h r) (run_of b (door b) r.table hs)
    ∙ ap (λ s. end_of s (run_of b (door b) r.table hs)) (counted_end b t h)
    ∙ run_end b r.table hs

-- ONE RUN AFTER THE OTHER

pub table_follows : (b : Board) (t : List ℕ) (hs gs : List Handed) → table_after b t (hs ++ gs) ≡ table_after b (table_after b t hs) gs
unfolding table_after
table_follows b t [] gs = refl
table_follows b t (h ∷ hs) gs = table_follows b (door b t h.request h.area).table hs gs

pub run_follows : (b : Board) (t : List ℕ) (hs gs : List Handed) → run_of b (door b) t (hs ++ gs) ≡ run_of b (door b) t hs ++ run_of b (door b) (table_after b t hs) gs
unfolding run_of table_after
run_follows b t [] gs = refl
run_follows b t (h ∷ hs) gs =
    let r = door b t h.request h.area in
    ap (λ es. counted_as b (door b) t h r ++ es) (run_follows b r.table hs gs)
    ∙ sym (append_assoc (counted_as b (door b) t h r) (run_of b (door b) r.table hs) (run_of b (door b) (table_after b r.table hs) gs))
