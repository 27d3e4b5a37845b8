-- Pieces that are turned each in its turn: some and then others are all of them, a bad one is the last, and the number of the first makes no
-- difference but to the number of the one that is bad. Assumes nothing.
use Rattle.std.proofs.lemmas.Option.{none-some}
use Rattle.std.specs.Prelude.{Option, None, Some}
use mathlib.Core.Path.{◌≡◌, refl, sym, ap, ◌∙◌}
use mathlib.Core.List.{List, [], ◌∷◌, ◌++◌}
use Prim.Native.Nat.{ℕ, suc, ◌+◌}
use native.Mathlib.Omega.{arith}
use lib.ListN.{length}
use Rattle.listing.specs.Listing.{Out, joined, each}

-- SOME AND THEN OTHERS

-- one result before others, where all that follow it are done
joined_on : (m : Option (List ℕ)) (k : ℕ) (a b c : Out) → (joined m k a).bad ≡ None
    → (a.bad ≡ None → b ≡ record { done = a.done ++ c.done; bad = c.bad })
    → joined m k b ≡ record { done = (joined m k a).done ++ c.done; bad = c.bad }
joined_on None k a b c e h = absurd (none-some k (sym e))
joined_on (Some x) k a b c e h = rw (h e) refl

pub each_on : (rule : List ℕ → Option (List ℕ)) (k : ℕ) (xs ys : List (List ℕ)) (rest : List ℕ) → (each rule k xs []).bad ≡ None
    → each rule k (xs ++ ys) rest
    ≡ record { done = (each rule k xs []).done ++ (each rule (k + length xs) ys rest).done; bad = (each rule (k + length xs) ys rest).bad }
unfolding each
each_on rule k [] ys rest e = ap (λ (j : ℕ). each rule j ys rest) (omega arith)
each_on rule k (x ∷ xs) ys rest e =
    let last : suc k + length xs ≡ k + suc (length xs) = omega arith in
    joined_on (rule x) k (each rule (suc k) xs []) (each rule (suc k) (xs ++ ys) rest) (each rule (k + suc (length xs)) ys rest) e
    (λ h. rw last at (each_on rule (suc k) xs ys rest h))

joined_stop : (m : Option (List ℕ)) (k j : ℕ) (a b : Out) → (joined m k a).bad ≡ Some j → (a.bad ≡ Some j → b ≡ a) → joined m k b ≡ joined m k a
joined_stop None k j a b e h = refl
joined_stop (Some x) k j a b e h = rw (h e) refl

pub each_stop : (rule : List ℕ → Option (List ℕ)) (k j : ℕ) (xs ys : List (List ℕ)) (rest : List ℕ) → (each rule k xs []).bad ≡ Some j
    → each rule k (xs ++ ys) rest ≡ each rule k xs []
unfolding each
each_stop rule k j [] ys rest e = absurd (none-some j e)
each_stop rule k j (x ∷ xs) ys rest e =
    joined_stop (rule x) k j (each rule (suc k) xs []) (each rule (suc k) (xs ++ ys) rest) e (each_stop rule (suc k) j xs ys rest)

-- where nothing is bad, nothing is left over
pub joined_none : (m : Option (List ℕ)) (k : ℕ) (a : Out) → (joined m k a).bad ≡ None → (x : List ℕ) × (m ≡ Some x) × (a.bad ≡ None)
joined_none None k a e = absurd (none-some k (sym e))
joined_none (Some x) k a e = (x, refl, e)

pub no_rest : (rule : List ℕ → Option (List ℕ)) (k : ℕ) (xs : List (List ℕ)) (rest : List ℕ) → (each rule k xs rest).bad ≡ None → rest ≡ []
unfolding each
no_rest rule k [] [] e = refl
no_rest rule k [] (c ∷ cs) e = absurd (none-some k (sym e))
no_rest rule k (x ∷ xs) rest e = no_rest rule (suc k) xs rest (joined_none (rule x) k (each rule (suc k) xs rest) e).2

-- COUNTED FROM ANOTHER NUMBER

-- as out, from number k on, after a conversion from number j on that has as many results
pub record Same (k j : ℕ) (a b : Out) : Type 0 where
  pub done : a.done ≡ b.done
  pub taken : b.bad ≡ None → a.bad ≡ None
  pub stopped : (i : ℕ) → b.bad ≡ Some i → a.bad ≡ Some (k + length b.done)

joined_same : (m : Option (List ℕ)) (k j : ℕ) (a b : Out) → Same (suc k) (suc j) a b → Same k j (joined m k a) (joined m j b)
joined_same None k j a b s = record {
  done = refl;
  taken = λ e. absurd (none-some j (sym e));
  stopped = λ i e. ap Some (omega arith);
}
joined_same (Some x) k j a b s = record {
  done = ap (λ (l : List (List ℕ)). x ∷ l) s.done;
  taken = s.taken;
  stopped = λ i e. s.stopped i e ∙ ap Some (omega arith);
}

pub each_same : (rule : List ℕ → Option (List ℕ)) (k j : ℕ) (xs : List (List ℕ)) → Same k j (each rule k xs []) (each rule j xs [])
unfolding each
each_same rule k j [] = record { done = refl; taken = λ e. refl; stopped = λ i e. absurd (none-some i e) }
each_same rule k j (x ∷ xs) = joined_same (rule x) k j (each rule (suc k) xs []) (each rule (suc j) xs []) (each_same rule (suc k) (suc j) xs)

joined_all : (m : Option (List ℕ)) (k n : ℕ) (a : Out) → (a.bad ≡ None → length a.done ≡ n) → (joined m k a).bad ≡ None → length (joined m k a).done ≡ suc n
joined_all None k n a h e = absurd (none-some k (sym e))
joined_all (Some x) k n a h e = ap suc (h e)

pub each_all : (rule : List ℕ → Option (List ℕ)) (k : ℕ) (xs : List (List ℕ)) → (each rule k xs []).bad ≡ None → length (each rule k xs []).done ≡ length xs
unfolding each
each_all rule k [] e = refl
each_all rule k (x ∷ xs) e = joined_all (rule x) k (length xs) (each rule (suc k) xs []) (each_all rule (suc k) xs) e
