-- The arithmetic of one thread's share. R is the sum of the turns, t the thread's turn, d its due before and d' after; m ticks are charged
-- to the rank, c of them to the thread; w counts how often its due comes to 0 and begins again at R. Both equations are linear, so two
-- stretches of a run add up, and no stretch is ever cut into rounds. Assumes nothing.
use mathlib.Core.Path.{◌≡◌, ap}
use Prim.Native.Nat.{ℕ, zero, suc, ◌+◌, ◌*◌, ◌-◌, ◌≤◌, ◌<◌, min}
use native.Mathlib.Omega.{arith}
use native.Mathlib.Decide.{dec_le}
use native.Mathlib.Nat.{mul-le-mul_left, mul-le-mul_right, le_of_mul-le-mul_left}
use Rattle.fairness.specs.Lateness.{Near, InTime, Even}

pub record Spent (R t m c d d' : ℕ) : Type 0 where
  pub w : ℕ
  pub whole : m + d' ≡ d + w * R
  pub own : c + min d' t ≡ min d t + w * t

pub nothing : (R t d : ℕ) → Spent R t 0 0 d d
nothing R t d = record { w = 0; whole = omega arith; own = omega arith }

chain : (k m₁ m₂ x y z v w : ℕ) → m₁ + y ≡ x + v * k → m₂ + z ≡ y + w * k → (m₁ + m₂) + z ≡ x + (v + w) * k
chain k m₁ m₂ x y z v w p q = omega arith

pub joined : {R t m₁ c₁ d₀ d₁ : ℕ} → Spent R t m₁ c₁ d₀ d₁ → {m₂ c₂ d₂ : ℕ} → Spent R t m₂ c₂ d₁ d₂ → Spent R t (m₁ + m₂) (c₁ + c₂) d₀ d₂
joined {R} {t} {m₁} {c₁} {d₀} {d₁} a {m₂} {c₂} {d₂} b = record {
  w = a.w + b.w;
  whole = chain R m₁ m₂ d₀ d₁ d₂ a.w b.w a.whole b.whole;
  own = chain t c₁ c₂ (min d₀ t) (min d₁ t) (min d₂ t) a.w b.w a.own b.own;
}

-- a tick of another thread of the rank
pub theirs : (R t d d' : ℕ) → d ≡ d' + 1 → t < d → Spent R t 1 0 d d'
theirs R t d d' e h = record { w = 0; whole = omega arith; own = omega arith }

-- a tick of its own, and it goes on
pub mine : (R t d d' : ℕ) → d ≡ d' + 1 → d ≤ t → Spent R t 1 1 d d'
mine R t d d' e h = record { w = 0; whole = omega arith; own = omega arith }

-- the last tick of its turn
pub last : (R t d d' : ℕ) → d ≡ 1 → d' ≡ R → 1 ≤ t → t ≤ R → Spent R t 1 1 d d'
last R t d d' e e' h l = record { w = 1; whole = omega arith; own = omega arith }

-- a window of exactly k rounds of R ticks: the due comes round k times, and is as it was
rounds : (R d d' : ℕ) → 1 ≤ d → d ≤ R → 1 ≤ d' → d' ≤ R → (k w : ℕ) → k * R + d' ≡ d + w * R → (w ≡ k) × (d' ≡ d)
rounds R d d' h₁ h₂ h₃ h₄ zero zero p = (omega arith, omega arith)
rounds R d d' h₁ h₂ h₃ h₄ zero (suc w) p = absurd (omega arith)
rounds R d d' h₁ h₂ h₃ h₄ (suc k) zero p = absurd (omega arith)
rounds R d d' h₁ h₂ h₃ h₄ (suc k) (suc w) p = let x = rounds R d d' h₁ h₂ h₃ h₄ k w (omega arith) in (omega (arith, x.0), x.1)

-- and k of the thread's turns are charged
pub fair : (k R t c d d' : ℕ) → Spent R t (k * R) c d d' → 1 ≤ d → d ≤ R → 1 ≤ d' → d' ≤ R → (c ≡ k * t) × (d' ≡ d)
fair k R t c d d' a h₁ h₂ h₃ h₄ =
    let x = rounds R d d' h₁ h₂ h₃ h₄ k a.w a.whole in
    (spent a.w x.0 x.1 a.own, x.1)
  where
    spent : (w : ℕ) → w ≡ k → d' ≡ d → c + min d' t ≡ min d t + w * t → c ≡ k * t
    spent w e f q = omega (arith, rw e at q)

-- A window of any length, where the others' turns sum to o. What a due holds of the thread's own, times the sum, is the due times the turn
-- or up to t * o more; so what is charged differs from the share by no more than that.
own_part : (o t d : ℕ) → d ≤ t + o → (t * d ≤ min d t * (t + o)) × (min d t * (t + o) ≤ t * d + t * o)
own_part o t d h = elim (dec_le d t) [
  | yes l ↦ let e : min d t ≡ d = omega arith in rw e (omega arith, omega (arith, mul-le-mul_right o l))
  | no l ↦ let e : min d t ≡ t = omega arith in
      let g : t ≤ d = omega arith in
      rw e (omega (arith, mul-le-mul_left t h), omega (arith, mul-le-mul_left t g))
]

nearly : (o t m c d d' : ℕ) → Spent (t + o) t m c d d' → d ≤ t + o → d' ≤ t + o → (c * (t + o) ≤ t * m + t * o) × (t * m ≤ c * (t + o) + t * o)
nearly o t m c d d' a h h' =
    let x = own_part o t d h in
    let x' = own_part o t d' h' in
    let e = ap (λ z. t * z) a.whole in
    let f = ap (λ z. z * (t + o)) a.own in
    (omega (arith, x, x', e, f), omega (arith, x, x', e, f))

-- By how often the due comes round: less than k times; k times, and then it begins within the thread's own turn; not more often, which would
-- charge k turns.
timely : (o t m c d d' : ℕ) → Spent (t + o) t m c d d' → d ≤ t + o → (k : ℕ) → c < k * t → m ≤ c + k * o
timely o t m c d d' a h k l = elim (dec_le (suc a.w) k) [
  | yes g ↦ omega (arith, a.whole, a.own, mul-le-mul_right o g)
  | no g ↦ elim (dec_le a.w k) [
    | yes g' ↦ let e : a.w ≡ k = omega arith in omega (arith, rw e at a.whole, rw e at a.own)
    | no g' ↦ let q : suc k ≤ a.w = omega arith in absurd (omega (arith, a.own, mul-le-mul_right t q))
  ]
]

pub near : (R t m c d d' : ℕ) → t ≤ R → Spent R t m c d d' → d ≤ R → d' ≤ R → Near R t m c
near R t m c d d' l a h h' =
    let e : t + (R - t) ≡ R = omega arith in
    let x = rw e at (nearly (R - t) t m c d d' (rw e a) (rw e h) (rw e h')) in
    (omega (arith, x.0), omega (arith, x.1))

pub in_time_lem : (R t m c d d' : ℕ) → 1 ≤ t → t ≤ R → Spent R t m c d d' → d ≤ R → InTime R t m c
in_time_lem R t m c d d' p l a h =
    let e : t + (R - t) ≡ R = omega arith in
    let u = timely (R - t) t m c d d' (rw e a) (rw e h) in
    (λ z. omega (arith, u 1 (omega arith)), u)

evenly : (t m c j : ℕ) → 1 ≤ t → Near (t + j * t) t m c → (c + j * c ≤ m + j * t) × (m ≤ c + j * c + j * t)
evenly t m c j p h =
    let o : t + j * t - t ≡ j * t = omega arith in
    let x = rw o at h in
    (less (c + j * c) (m + j * t) (omega (arith, x.0)), less m (c + j * c + j * t) (omega (arith, x.1)))
  where
    -- the turn is taken out of both sides
    less : (a b : ℕ) → t * a ≤ t * b → a ≤ b
    less a b q = le_of_mul-le-mul_left {k = t} q p

pub even : (R t m c : ℕ) → 1 ≤ t → t ≤ R → Near R t m c → Even R t m c
even R t m c p l h zero e = absurd (omega arith)
even R t m c p l h (suc j) e =
    let f : R ≡ t + j * t = omega arith in
    let x = evenly t m c j p (rw f at h) in
    let q : suc j - 1 ≡ j = omega arith in
    rw q (omega (arith, x.0), omega (arith, x.1))
