-- One rank's ready line as a function from thread numbers to cells, with no list of its members: place 0 says "not a member".
-- The due of place q is what is left to the members at places 1 to q. Each tick charged to the rank lowers each due by 1, and a due that
-- comes to 0 begins again at the sum of the turns. Assumes nothing.
use Rattle.std.specs.Prelude.{if◌then◌else◌}
use mathlib.Core.Path.{◌≡◌, refl, ap, sym, ◌∙◌}
use mathlib.Core.Logic.{◌≢◌}
use Prim.Native.Nat.{ℕ, zero, suc, pred, ◌+◌, ◌*◌, ◌≤◌, ◌<◌}
use native.Mathlib.Omega.{arith}
use native.Mathlib.Decide.{ℕ_discrete, dec_le}
use lib.Dec.{leb, eqb}
use borrow.Author.Tests.{le-leb, lt-leb, eq-eqb, ne_eqb}
use Rattle.laws.proofs.Sums.{Σ<, Σ_ext, Σ_mono, Σ_at, Σ_one, Σ_two}
use Rattle.fairness.proofs.Spent.{Spent, nothing, joined, theirs, mine, last, fair, near, in_time_lem, even}
use Rattle.fairness.specs.Lateness.{Near, InTime, Even}
use Rattle.rules.specs.Basic.{bit}

pub record Cell : Type 0 where
  pub place : ℕ
  pub counter : ℕ
  pub turn : ℕ

abbrev pub part : ℕ → Cell → ℕ
part q c = if leb c.place q then c.counter else 0

unfoldable pub due : ℕ → (ℕ → Cell) → ℕ → ℕ
due n v q = Σ< n (λ j. part q (v j))

unfoldable pub turns : ℕ → (ℕ → Cell) → ℕ
turns n v = Σ< n (λ j. (v j).turn)

-- what soundness says of a rank with N members among n threads
pub record Good (n N : ℕ) (v : ℕ → Cell) : Type 0 where
  pub out : (j : ℕ) → (v j).place ≡ 0 → ((v j).counter ≡ 0) × ((v j).turn ≡ 0)
  pub head : (j : ℕ) → (v j).place ≡ 1 → (1 ≤ (v j).counter) × ((v j).counter ≤ (v j).turn)
  pub later : (j : ℕ) → 2 ≤ (v j).place → ((v j).counter ≡ (v j).turn) × (1 ≤ (v j).turn)
  pub apart : (i j : ℕ) → 1 ≤ (v i).place → (v i).place ≡ (v j).place → i ≡ j
  pub bound : (j : ℕ) → (v j).place ≤ N
  pub within : (j : ℕ) → 1 ≤ (v j).place → j < n

-- the first is charged and goes on
pub record Goes (r : ℕ) (v v' : ℕ → Cell) : Type 0 where
  pub first : (v r).place ≡ 1
  pub first' : (v' r).place ≡ 1
  pub one : (v r).counter ≡ (v' r).counter + 1
  pub turn : (v' r).turn ≡ (v r).turn
  pub rest : (j : ℕ) → j ≢ r → v' j ≡ v j

-- the first is charged, its turn is over, and it goes to the tail
pub record Turns (N r : ℕ) (v v' : ℕ → Cell) : Type 0 where
  pub first : (v r).place ≡ 1
  pub one : (v r).counter ≡ 1
  pub tail : (v' r).place ≡ N
  pub filled : (v' r).counter ≡ (v r).turn
  pub turn : (v' r).turn ≡ (v r).turn
  pub places : (j : ℕ) → j ≢ r → (v' j).place ≡ pred (v j).place
  pub counters : (j : ℕ) → j ≢ r → (v' j).counter ≡ (v j).counter
  pub turns : (j : ℕ) → j ≢ r → (v' j).turn ≡ (v j).turn

-- between two views the rank was charged m times, and its thread i c times
abbrev Share : ℕ → ℕ → (ℕ → Cell) → (ℕ → Cell) → ℕ → ℕ → Type 0
Share n i v v' m c = Spent (turns n v) (v i).turn m c (due n v (v i).place) (due n v' (v' i).place)

pub record Fare (n i : ℕ) (v v' : ℕ → Cell) (m c : ℕ) : Type 0 where
  pub share : Share n i v v' m c
  pub turn : (j : ℕ) → (v' j).turn ≡ (v j).turn

-- a tick is charged to r: it is r's own, and another's to each other thread
fare_of : {n : ℕ} {v v' : ℕ → Cell} (r : ℕ) → Share n r v v' 1 1 → ((i : ℕ) → i ≢ r → 1 ≤ (v i).place → Share n i v v' 1 0)
    → (v' r).turn ≡ (v r).turn → ((j : ℕ) → j ≢ r → (v' j).turn ≡ (v j).turn) → (i : ℕ) → 1 ≤ (v i).place → Fare n i v v' 1 (bit (eqb r i))
fare_of r own others t ts i h = record {
  share = elim (ℕ_discrete i r) [
    | yes e ↦ rw (e, eq-eqb r r refl) own
    | no k ↦ rw (ne_eqb r i (λ q. k (sym q))) (others i k h)
  ];
  turn = λ j. elim (ℕ_discrete j r) [
    | yes e ↦ rw e t
    | no k ↦ ts j k
  ];
}

part_in : (q : ℕ) (c : Cell) → c.place ≤ q → part q c ≡ c.counter
part_in q c h = rw (le-leb c.place q h)

part_out : (q : ℕ) (c : Cell) → q < c.place → part q c ≡ 0
part_out q c h = rw (lt-leb c.place q h)

Σ_zero : (n : ℕ) → Σ< n (λ j. 0) ≡ 0
Σ_zero zero = refl
Σ_zero (suc n) = omega (arith, Σ_zero n)

module _ {n N : ℕ} {v : ℕ → Cell} (g : Good n N v) where
  -- what a cell says, case by case
  counter_le : (j : ℕ) → (v j).counter ≤ (v j).turn
  counter_le j = elim (ℕ_discrete (v j).place 0) [
    | yes a ↦ omega (arith, g.out j a)
    | no a ↦ elim (ℕ_discrete (v j).place 1) [
      | yes b ↦ omega (arith, g.head j b)
      | no b ↦ omega (arith, g.later j (omega arith))
    ]
  ]

  counter_pos : (j : ℕ) → 1 ≤ (v j).place → 1 ≤ (v j).counter
  counter_pos j h = elim (ℕ_discrete (v j).place 1) [
    | yes b ↦ omega (arith, g.head j b)
    | no b ↦ omega (arith, g.later j (omega arith))
  ]

  part_le : (q j : ℕ) → part q (v j) ≤ (v j).turn
  part_le q j = elim (dec_le (v j).place q) [
    | yes h ↦ rw (part_in q (v j) h) (counter_le j)
    | no h ↦ rw (part_out q (v j) (omega arith)) (omega arith)
  ]

  pub due_le : (q : ℕ) → due n v q ≤ turns n v
  unfolding due turns
  due_le q = Σ_mono n (λ j. part q (v j)) (λ j. (v j).turn) (λ j l. part_le q j)

  pub due_pos : (i : ℕ) → 1 ≤ (v i).place → 1 ≤ due n v (v i).place
  unfolding due
  due_pos i h = omega (arith, Σ_one n (λ j. part (v i).place (v j)) i (g.within i h), part_in (v i).place (v i) (omega arith), counter_pos i h)

  pub turn_le : (i : ℕ) → 1 ≤ (v i).place → (v i).turn ≤ turns n v
  unfolding turns
  turn_le i h = Σ_one n (λ j. (v j).turn) i (g.within i h)

  pub turn_pos : (i : ℕ) → 1 ≤ (v i).place → 1 ≤ (v i).turn
  turn_pos i h = omega (arith, counter_pos i h, counter_le i)

  -- the first one's due is what it has left
  pub due_first : (r : ℕ) → (v r).place ≡ 1 → due n v 1 ≡ (v r).counter
  unfolding due
  due_first r e = omega (arith, Σ_zero n, Σ_at n (λ j. part 1 (v j)) (λ j. 0) r (v r).counter (g.within r (omega arith)) (omega (arith, part_in 1 (v r) (omega arith))) others)
    where
      others : (j : ℕ) → j < n → j ≢ r → part 1 (v j) ≡ 0
      others j l q = elim (ℕ_discrete (v j).place 0) [
        | yes a ↦ omega (arith, part_in 1 (v j) (omega arith), g.out j a)
        | no a ↦ elim (ℕ_discrete (v j).place 1) [
          | yes b ↦ absurd (q (g.apart j r (omega arith) (omega arith)))
          | no b ↦ part_out 1 (v j) (omega arith)
        ]
      ]

  -- a later one's due is more than its turn
  pub due_later : (i r : ℕ) → (v r).place ≡ 1 → i ≢ r → 1 ≤ (v i).place → (v i).turn < due n v (v i).place
  unfolding due
  due_later i r e q h = elim (ℕ_discrete (v i).place 1) [
    | yes b ↦ absurd (q (g.apart i r h (omega arith)))
    | no b ↦ omega (arith, Σ_two n (λ j. part (v i).place (v j)) i r (g.within i h) (g.within r (omega arith)) q, part_in (v i).place (v i) (omega arith), part_in (v i).place (v r) (omega arith), g.later i (omega arith), g.head r e)
  ]

  -- A TICK, AND THE FIRST GOES ON
  module _ {v' : ℕ → Cell} {r : ℕ} (c : Goes r v v') where
    goes_part : (q : ℕ) → 1 ≤ q → (j : ℕ) → j ≢ r → part q (v j) ≡ part q (v' j)
    goes_part q h j k = rw (c.rest j k)

    goes_due : (q : ℕ) → 1 ≤ q → due n v q ≡ due n v' q + 1
    unfolding due
    goes_due q h =
        Σ_at n (λ j. part q (v j)) (λ j. part q (v' j)) r 1 (g.within r (omega (arith, c.first)))
        (omega (arith, part_in q (v r) (omega (arith, c.first)), part_in q (v' r) (omega (arith, c.first')), c.one))
        (λ j l k. goes_part q h j k)

    goes_place : (i : ℕ) → (v' i).place ≡ (v i).place
    goes_place i = elim (ℕ_discrete i r) [
      | yes e ↦ rw e (c.first' ∙ sym c.first)
      | no k ↦ ap (λ x. x.place) (c.rest i k)
    ]

    goes_mine : Share n r v v' 1 1
    goes_mine = rw (c.first, c.first') (mine (turns n v) (v r).turn (due n v 1) (due n v' 1) (goes_due 1 (omega arith)) (omega (arith, due_first r c.first, counter_le r)))

    goes_theirs : (i : ℕ) → i ≢ r → 1 ≤ (v i).place → Share n i v v' 1 0
    goes_theirs i k h = rw (goes_place i) (theirs (turns n v) (v i).turn _ _ (goes_due (v i).place h) (due_later i r c.first k h))

    pub goes_fare : (i : ℕ) → 1 ≤ (v i).place → Fare n i v v' 1 (bit (eqb r i))
    goes_fare = fare_of r goes_mine goes_theirs c.turn (λ j k. ap (λ x. x.turn) (c.rest j k))

  -- A TICK, AND THE FIRST GOES TO THE TAIL
  module _ {v' : ℕ → Cell} {r : ℕ} (c : Turns N r v v') where
    turns_part : (i : ℕ) → 1 ≤ (v i).place → (j : ℕ) → j ≢ r → part (v i).place (v j) ≡ part (pred (v i).place) (v' j)
    turns_part i h j k = elim (dec_le (v j).place (v i).place) [
      | yes a ↦ omega (arith, part_in (v i).place (v j) a, part_in (pred (v i).place) (v' j) (omega (arith, c.places j k)), c.counters j k)
      | no a ↦ omega (arith, part_out (v i).place (v j) (omega arith), part_out (pred (v i).place) (v' j) (omega (arith, c.places j k)))
    ]

    turns_due : (i : ℕ) → i ≢ r → 1 ≤ (v i).place → due n v (v i).place ≡ due n v' (v' i).place + 1
    unfolding due
    turns_due i k h = rw (c.places i k)
        (Σ_at n (λ j. part (v i).place (v j)) (λ j. part (pred (v i).place) (v' j)) r 1 (g.within r (omega (arith, c.first)))
        (omega (arith, part_in (v i).place (v r) (omega (arith, c.first)), c.one, part_out (pred (v i).place) (v' r) (omega (arith, c.tail, g.bound i))))
        (λ j l m. turns_part i h j m))

    all_in : (j : ℕ) → part N (v' j) ≡ (v j).turn
    all_in j = elim (ℕ_discrete j r) [
      | yes e ↦ rw e (omega (arith, part_in N (v' r) (omega (arith, c.tail)), c.filled))
      | no k ↦ elim (ℕ_discrete (v j).place 0) [
        | yes a ↦ omega (arith, part_in N (v' j) (omega (arith, c.places j k)), c.counters j k, g.out j a)
        | no a ↦ elim (ℕ_discrete (v j).place 1) [
          | yes b ↦ absurd (k (g.apart j r (omega arith) (omega (arith, c.first))))
          | no b ↦ omega (arith, part_in N (v' j) (omega (arith, c.places j k, g.bound j)), c.counters j k, g.later j (omega arith))
        ]
      ]
    ]

    all_due : due n v' (v' r).place ≡ turns n v
    unfolding due turns
    all_due = rw c.tail (Σ_ext n (λ j. part N (v' j)) (λ j. (v j).turn) (λ j l. all_in j))

    turns_mine : Share n r v v' 1 1
    turns_mine = last (turns n v) (v r).turn _ _ (rw c.first (due_first r c.first ∙ c.one)) all_due (omega (arith, g.head r c.first)) (turn_le r (omega (arith, c.first)))

    turns_theirs : (i : ℕ) → i ≢ r → 1 ≤ (v i).place → Share n i v v' 1 0
    turns_theirs i k h = theirs (turns n v) (v i).turn _ _ (turns_due i k h) (due_later i r c.first k h)

    pub turns_fare : (i : ℕ) → 1 ≤ (v i).place → Fare n i v v' 1 (bit (eqb r i))
    turns_fare = fare_of r turns_mine turns_theirs c.turn c.turns

pub no_fare : (n i : ℕ) (v : ℕ → Cell) → Fare n i v v 0 0
no_fare n i v = record { share = nothing (turns n v) (v i).turn (due n v (v i).place); turn = λ j. refl }

pub same_turns : (n : ℕ) (v v' : ℕ → Cell) → ((j : ℕ) → (v' j).turn ≡ (v j).turn) → turns n v' ≡ turns n v
unfolding turns
same_turns n v v' h = Σ_ext n (λ j. (v' j).turn) (λ j. (v j).turn) (λ j l. h j)

pub fares : (n i : ℕ) (v v' v'' : ℕ → Cell) (m c m' c' : ℕ) → Fare n i v v' m c → Fare n i v' v'' m' c' → Fare n i v v'' (m + m') (c + c')
fares n i v v' v'' m c m' c' a b = record {
  share = joined a.share (rw (a.turn i, same_turns n v v' a.turn) at b.share);
  turn = λ j. b.turn j ∙ a.turn j;
}

-- a window: the line before it and after it, of a thread i that is in both, and what is charged
pub record Window (n i : ℕ) (v v' : ℕ → Cell) (m c : ℕ) : Type 0 where
  pub N : ℕ
  pub N' : ℕ
  pub good : Good n N v
  pub good' : Good n N' v'
  pub place : 1 ≤ (v i).place
  pub place' : 1 ≤ (v' i).place
  pub fare : Fare n i v v' m c

module _ {n i : ℕ} {v v' : ℕ → Cell} {m c : ℕ} (x : Window n i v v' m c) where
  after_le : due n v' (v' i).place ≤ turns n v
  after_le = omega (arith, due_le x.good' (v' i).place, same_turns n v v' x.fare.turn)

  -- of a window of any length
  pub window_near : Near (turns n v) (v i).turn m c
  window_near = near _ _ _ _ _ _ (turn_le x.good i x.place) x.fare.share (due_le x.good (v i).place) after_le

  pub window_in_time : InTime (turns n v) (v i).turn m c
  window_in_time = in_time_lem _ _ _ _ _ _ (turn_pos x.good i x.place) (turn_le x.good i x.place) x.fare.share (due_le x.good (v i).place)

  pub window_even : Even (turns n v) (v i).turn m c
  window_even = even _ _ _ _ (turn_pos x.good i x.place) (turn_le x.good i x.place) window_near

-- a window of k times as many ticks as the turns sum to: k turns are charged, and the due is as it was
pub whole_rounds : (k n N N' i c : ℕ) (v v' : ℕ → Cell) → Good n N v → Good n N' v' → 1 ≤ (v i).place → 1 ≤ (v' i).place → Fare n i v v' (k * turns n v) c
    → (c ≡ k * (v i).turn) × (due n v' (v' i).place ≡ due n v (v i).place)
whole_rounds k n N N' i c v v' g g' h h' a =
    fair k _ _ _ _ _ a.share (due_pos g i h) (due_le g (v i).place) (due_pos g' i h') (omega (arith, due_le g' (v' i).place, same_turns n v v' a.turn))
