-- The records of a list and of one that goes on behind it are those of the first, then those of its left-over bytes with the rest.
-- Assumes nothing.
use mathlib.Core.Path.{◌≡◌, refl, sym, ap, ◌∙◌}
use mathlib.Core.List.{List, [], ◌∷◌, ◌++◌}
use Prim.Native.Nat.{ℕ, zero, suc, ◌+◌, ◌*◌, ◌/◌, ◌%◌, ◌≤◌, ◌<◌, min}
use native.Mathlib.Omega.{arith}
use native.Mathlib.Nat.{zero-add, suc-add}
use lib.ListN.{length, take, drop, length-append, length-drop}
use lib.Seq.{drop-drop, take-append-le, drop-append-le}
use Rattle.rules.specs.Requests.{request_length}
use Rattle.rules.specs.Trace.{records, whole_records}
use Rattle.parts.specs.LeftOver.{left_over}

pub records_length : (k : ℕ) (xs : List ℕ) → length (records k xs) ≡ k
unfolding records
records_length zero xs = refl
records_length (suc k) xs = ap suc (records_length k (drop request_length xs))

pub records_add : (k m : ℕ) (xs : List ℕ) → records (k + m) xs ≡ records k xs ++ records m (drop (k * request_length) xs)
unfolding records
records_add zero m xs = ap (λ k. records k xs) (zero-add m)
records_add (suc k) m xs =
    let place : request_length + k * request_length ≡ suc k * request_length = omega arith in
    ap (λ n. records n xs) (suc-add k m)
    ∙ ap (λ rs. take request_length xs ∷ rs) (records_add k m (drop request_length xs))
    ∙ ap (λ l. records (suc k) xs ++ records m l) (drop-drop (k * request_length) request_length xs ∙ ap (λ j. drop j xs) place)

pub records_front : (k : ℕ) (xs ys : List ℕ) → k * request_length ≤ length xs → records k (xs ++ ys) ≡ records k xs
unfolding records
records_front zero xs ys h = refl
records_front (suc k) xs ys h = λ j.
    take-append-le request_length xs ys (omega arith) j
    ∷ (ap (records k) (drop-append-le request_length xs ys (omega arith))
    ∙ records_front k (drop request_length xs) ys (omega (arith, length-drop request_length xs))) j

-- the first of them
pub records_take : (k n : ℕ) (xs : List ℕ) → take k (records n xs) ≡ records (min n k) xs
unfolding records
records_take zero n xs = let none : 0 ≡ min n 0 = omega arith in ap (λ m. records m xs) none
records_take (suc k) zero xs = let none : 0 ≡ min 0 (suc k) = omega arith in ap (λ m. records m xs) none
records_take (suc k) (suc n) xs =
    let fewer : suc (min n k) ≡ min (suc n) (suc k) = omega arith in
    ap (λ rs. take request_length xs ∷ rs) (records_take k n (drop request_length xs)) ∙ ap (λ m. records m xs) fewer

-- the records of a list that goes on: those that are whole, and those of the left-over bytes with the rest
module _ (come more : List ℕ) where
  behind : drop (length come / request_length * request_length) (come ++ more) ≡ left_over come ++ more
  behind = drop-append-le (length come / request_length * request_length) come more (omega arith)

  -- how many bytes that is
  size : length (left_over come ++ more) + length come / request_length * request_length ≡ length come + length more
  size = omega (arith, length-append (left_over come) more, length-drop (length come / request_length * request_length) come)

  pub count : length (come ++ more) / request_length ≡ length come / request_length + length (left_over come ++ more) / request_length
  count = omega (arith, length-append come more, size)

  pub whole_append : whole_records (come ++ more) ≡ whole_records come ++ whole_records (left_over come ++ more)
  whole_append =
      ap (λ n. records n (come ++ more)) count
      ∙ records_add (length come / request_length) (length (left_over come ++ more) / request_length) (come ++ more)
      ∙ (λ j. records_front (length come / request_length) come more (omega arith) j ++ records (length (left_over come ++ more) / request_length) (behind j))

  pub rest_append : length (come ++ more) % request_length ≡ length (left_over come ++ more) % request_length
  rest_append = omega (arith, length-append come more, size)

  pub left_append : left_over (come ++ more) ≡ left_over (left_over come ++ more)
  left_append =
      (let places : length (come ++ more) / request_length * request_length
      ≡ length come / request_length * request_length + length (left_over come ++ more) / request_length * request_length = omega (arith, count) in
      ap (λ j. drop j (come ++ more)) places)
      ∙ sym (drop-drop (length (left_over come ++ more) / request_length * request_length) (length come / request_length * request_length) (come ++ more))
      ∙ ap (drop (length (left_over come ++ more) / request_length * request_length)) behind

-- fewer bytes than a record are left over
pub left_length : (come : List ℕ) → length (left_over come) ≡ length come % request_length
left_length come = omega (arith, length-drop (length come / request_length * request_length) come)

-- where fewer bytes than a record have come, none is whole
pub none_whole : (held : List ℕ) → length held < request_length → whole_records held ≡ []
unfolding records
none_whole held h = let none : length held / request_length ≡ 0 = omega arith in ap (λ n. records n held) none
