-- By demand 2 a door answers a sound table as the rules' door does, and each rejected door answers some request otherwise; by demand 3 it
-- would have to charge each thread its turn in a part in which it does not. A door that refuses charges nobody. Assumes nothing.
use mathlib.Core.Bool.{Bool, true, false, not, ◌&&◌}
use mathlib.Core.Path.{◌≡◌, refl, sym, ap, ◌∙◌}
use mathlib.Core.List.{List, [], ◌∷◌, ◌++◌}
use Prim.Native.Nat.{ℕ, zero, suc, ◌≤◌}
use native.Mathlib.Omega.{arith}
use lib.Dec.{eqb}
use lib.ListN.{get_or, take, drop}
use Rattle.rules.specs.Basic.{count}
use Rattle.rules.specs.Board.{Board, printer}
use Rattle.rules.specs.State.{at}
use Rattle.rules.specs.Lines.{ready, in_line}
use Rattle.rules.specs.Table.{decode}
use Rattle.rules.specs.Answers.{refusal_code}
use Rattle.rules.specs.Trace.{clean_area}
use Rattle.rules.specs.Door.{Doored, serve_decoded, door, fresh_table, Handed, table_after}
use Rattle.rules.specs.declared.Refusal.{Refusal}
use Rattle.rules.specs.declared.Thread.{Thread}
use Rattle.rules.specs.declared.Request.{Request}
use Rattle.rules.specs.declared.Request.TheVariants as Ask
use Rattle.rules.proofs.Computing.{behind_the_door}
use Rattle.request.specs.Written.{written}
use Rattle.request.proofs.Back.{decode_written}
use Rattle.laws.proofs.Split.{clash}
use Rattle.fairness.specs.Run.{Event, deed, is_tick, is_zero, ready_at, sum_turns, charges, charged_to, charged_rank}
use Rattle.fairness.specs.Doors.{Door, single_ticks, run_of}
use Rattle.promises.specs.Figures.{asks, shares_from, figures, premises, own_turns}
use Rattle.promises.specs.Rounds.{start}
use Rattle.promises.specs.Rejected.{RuledDoor, refuses, hands_back, answers_zero, rotates_once, invents_value, five, Counted, Rejected, Refusing}
use Rattle.promises.proofs.Exactly.{below_zero}
use Rattle.laws.proofs.Tested.{let_in}
use Rattle.promises.proofs.Second.{second}
use Rattle.promises.proofs.Figures.{own_turns_lem}

-- DEMAND 2

-- a request after others, from a fresh table
after : List Request → List ℕ
after rs = table_after printer (fresh_table printer) (asks rs)

-- what a door gives then
gives : Door → List Request → Request → Doored
gives d rs q = d (after rs) (written q) clean_area

-- a ruled door gives what the rules' door gives
ruled_gives : (d : Door) → RuledDoor printer d → (rs : List Request) (q : Request) → gives d rs q ≡ gives (door printer) rs q
unfolding gives after serve_decoded
ruled_gives d h rs q =
    let σ = second.fresh (asks rs) in
    (h (after rs) (written q) clean_area σ).by_rule refl q (decode_written q)
    ∙ sym (let_in printer (after rs) (written q) clean_area σ refl ∙ rw (decode_written q))

-- so what tells the two answers apart shuts the door out
told : (tells : Doored → Bool) (d : Door) (rs : List Request) (q : Request) → tells (gives (door printer) rs q) ≡ true → tells (gives d rs q) ≡ false
    → RuledDoor printer d → ⊥
told tells d rs q ruled other h = clash ruled (ap tells (sym (ruled_gives d h rs q)) ∙ other)

-- no refusal's number is 0
not_zero : (why : Refusal) → is_zero (refusal_code why) ≡ false
not_zero why = rw (below_zero why).1

-- two threads share a rank, with turns 2 and 3; then their first round is over but for a tick
pair : List Request
pair = Ask.Create 1 5 2 ∷ Ask.Create 2 5 3 ∷ []

round : List Request
round = pair ++ (Ask.Tick ∷ Ask.Tick ∷ Ask.Tick ∷ Ask.Tick ∷ [])

-- what tells: is the code 0; which thread runs; and the lowest byte of the value
abbrev accepted : Doored → Bool
accepted x = is_zero x.code

abbrev first_runs : Doored → Bool
first_runs x = eqb (decode printer x.table).running 1

abbrev four_left : Doored → Bool
four_left x = eqb (get_or x.area 4 0) 4

record Told : Type 0 where
  tick : accepted (gives (door printer) pair Ask.Tick) ≡ true
  back : (first_runs (gives (door printer) round Ask.Tick) ≡ true) × (first_runs (gives hands_back round Ask.Tick) ≡ false)
  once : first_runs (gives rotates_once round Ask.Tick) ≡ false
  zero : (not (accepted (gives (door printer) pair Ask.Unlock)) ≡ true) × (not (accepted (gives answers_zero pair Ask.Unlock)) ≡ false)
  value : (four_left (gives (door printer) (Ask.Make 0 5 ∷ []) (Ask.Pend 0 0)) ≡ true) × (four_left (gives invents_value (Ask.Make 0 5 ∷ []) (Ask.Pend 0 0)) ≡ false)

-- DEMAND 3

-- none of a list of events is accepted
Refused : List Event → Type 0
Refused [] = Unit {0}
Refused (e ∷ es) = (is_zero e.code ≡ false) × Refused es

refused_run : (b : Board) (why : Refusal) (t : List ℕ) (hs : List Handed) → Refused (run_of b (refuses why) t hs)
unfolding Refused run_of
refused_run b why t [] = tt
refused_run b why t (h ∷ hs) = rw (not_zero why) (not_zero why, refused_run b why t hs)

refused_drop : (n : ℕ) (es : List Event) → Refused es → Refused (drop n es)
unfolding Refused
refused_drop zero es h = h
refused_drop (suc n) [] h = tt
refused_drop (suc n) (e ∷ es) h = refused_drop n es h.1

refused_take : (n : ℕ) (es : List Event) → Refused es → Refused (take n es)
unfolding Refused
refused_take zero es h = tt
refused_take (suc n) [] h = tt
refused_take (suc n) (e ∷ es) h = (h.0, refused_take n es h.1)

-- a refused tick is charged to nobody
off : (a b c d : Bool) → b ≡ false → (a && b && c) && d ≡ false
off true b c d e = rw e
off false b c d e = refl

uncharged : (whom : Event → Bool) (es : List Event) → Refused es → count (λ e. charges e && whom e) es ≡ 0
unfolding Refused
uncharged whom [] h = refl
uncharged whom (e ∷ es) h =
    rw (off (is_tick (deed e.asked)) (is_zero e.code) (eqb e.before.lock 0) (whom e) h.0) (omega (arith, uncharged whom es h.1))

-- a turn is a part of the sum
turn_in : (p : ℕ) (ts : List Thread) (i : ℕ) → in_line (ready p) (at ts i) ≡ true → (at ts i).turn ≤ sum_turns p ts
turn_in p [] i m = omega arith
turn_in p (t ∷ ts) zero m = rw m (omega arith)
turn_in p (t ∷ ts) (suc i) m = let rest = turn_in p ts i m in omega arith

pub refusing : Refusing
refusing b why t hs p from steps σ same quiet full i m =
    let run = run_of b (refuses why) t hs in
    let part = take steps (drop from run) in
    let none = refused_take steps (drop from run) (refused_drop from run (refused_run b why t hs)) in
    let rank : count (charged_rank p) part ≡ 0 = uncharged (λ e. ready_at p e.before e.before.running) part none in
    let own : count (charged_to i) part ≡ 0 = uncharged (λ e. eqb e.before.running i) part none in
    let turn = turn_in p (decode b t).threads i m in
    omega arith

-- BOTH, by computation

record Computed : Type 0 where
  told : Told
  counted : Counted

computed : Computed
unfolding behind_the_door written single_ticks run_of shares_from figures start hands_back answers_zero rotates_once invents_value after gives pair round
computed = record {
  told = record { tick = refl; back = (refl, refl); once = refl; zero = (refl, refl); value = (refl, refl) };
  counted = record { back = refl; once = refl };
}

pub counted : Counted
counted = computed.counted

pub rejected : Rejected
unfolding gives
rejected =
    let t = computed.told in
    record {
      refuses2 = λ why. told accepted (refuses why) pair Ask.Tick t.tick (not_zero why);
      back2 = told first_runs hands_back round Ask.Tick t.back.0 t.back.1;
      back3 = λ fair. clash (own_turns_lem hands_back 5 (five 0) fair (ap premises counted.back)) (ap own_turns counted.back);
      zero2 = told (λ x. not (accepted x)) answers_zero pair Ask.Unlock t.zero.0 t.zero.1;
      once2 = told first_runs rotates_once round Ask.Tick t.back.0 t.once;
      once3 = λ fair. clash (own_turns_lem rotates_once 5 (five 5) fair (ap premises counted.once)) (ap own_turns counted.once);
      value2 = told four_left invents_value (Ask.Make 0 5 ∷ []) (Ask.Pend 0 0) t.value.0 t.value.1;
    }
