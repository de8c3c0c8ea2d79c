-- Least and greatest over a row: walked, counted down from the other end, and of what rises with the place. Assumes nothing.
use mathlib.Core.Path.{◌≡◌, refl, ap, ◌∙◌}
use mathlib.Core.Logic.{⊎_elim}
use mathlib.Core.List.{List, [], ◌∷◌, map}
use Prim.Native.Nat.{ℕ, zero, suc, ◌+◌, ◌-◌, ◌≤◌, ◌<◌, max, min}
use native.Mathlib.Decide.{le_ind}
use native.Mathlib.Numerals.{add-one}
use native.Mathlib.Omega.{arith}
use lib.ListN.{length, drop, get_or}
use lib.Seq.{drop-cons, drop-length}
use Rattle.basis.specs.Lists.{greatest, least}
use Rattle.basis.proofs.Logic.{lt_or_le}
use Rattle.laws.specs.Unknowns.{ahead}

-- the greatest of a walk over l by f that has come to j
pub greatest_more : (f : ℕ → ℕ) (l : List ℕ) (m j : ℕ) → j < length l
    → max (max m (f (get_or l j 0))) (greatest (map f (drop (j + 1) l))) ≡ max m (greatest (map f (drop j l)))
greatest_more f l m j h = rw (add-one, drop-cons l j 0 h) (omega arith)

pub greatest_done : (f : ℕ → ℕ) (l : List ℕ) (m j : ℕ) → j ≡ length l → max m (greatest (map f (drop j l))) ≡ m
greatest_done f l m j e = rw (e, drop-length l) (omega arith)

-- counted down from c, the greatest is the least
pub least_down : (c s : ℕ) (f : ℕ → ℕ) (l : List ℕ) → least (c - s) (map (λ y. c - f y) l) ≡ c - max s (greatest (map f l))
least_down c s f [] = omega arith
least_down c s f (y ∷ l) = ap (min (c - f y)) (least_down c s f l) ∙ down (f y) (max s (greatest (map f l))) ∙ ap (λ (k : ℕ). c - k) (swap s (f y) (greatest (map f l)))
  where
    down : (a b : ℕ) → min (c - a) (c - b) ≡ c - max a b
    down a b = omega arith

    swap : (a b d : ℕ) → max b (max a d) ≡ max a (max b d)
    swap a b d = omega arith

-- a rule that rises with the place
module _ (F : ℕ → ℕ) (up : (i j : ℕ) → i ≤ j → F i ≤ F j) where
  both-least : (i j : ℕ) → min (F i) (F j) ≡ F (min i j)
  both-least i j =
      ⊎_elim
      (λ (h : i < j). let e : min i j ≡ i = omega arith in omega (arith, up i j (omega arith), ap F e))
      (λ (h : j ≤ i). let e : min i j ≡ j = omega arith in omega (arith, up j i h, ap F e))
      (lt_or_le i j)

  both_most : (i j : ℕ) → max (F i) (F j) ≡ F (max i j)
  both_most i j =
      ⊎_elim
      (λ (h : i < j). let e : max i j ≡ j = omega arith in omega (arith, up i j (omega arith), ap F e))
      (λ (h : j ≤ i). let e : max i j ≡ i = omega arith in omega (arith, up j i h, ap F e))
      (lt_or_le i j)

  -- the least is that of the first place, the greatest that of the last
  pub least_rises : (s : ℕ) (f : ℕ → ℕ) (l : List ℕ) → least (F s) (map (λ y. F (f y)) l) ≡ F (least s (map f l))
  least_rises s f [] = refl
  least_rises s f (y ∷ l) = ap (min (F (f y))) (least_rises s f l) ∙ both-least (f y) (least s (map f l))

  pub most_rises : (s : ℕ) (f : ℕ → ℕ) (l : List ℕ) → max (F s) (greatest (map (λ y. F (f y)) l)) ≡ F (max s (greatest (map f l)))
  most_rises s f [] = let z : max (F s) 0 ≡ F s = omega arith in let w : s ≡ max s 0 = omega arith in z ∙ ap F w
  most_rises s f (y ∷ l) =
      let e : max (f y) (max s (greatest (map f l))) ≡ max s (max (f y) (greatest (map f l))) = omega arith in
      let d : max (F s) (max (F (f y)) (greatest (map (λ y. F (f y)) l))) ≡ max (F (f y)) (max (F s) (greatest (map (λ y. F (f y)) l))) = omega arith in
      d ∙ ap (max (F (f y))) (most_rises s f l) ∙ both_most (f y) (max s (greatest (map f l))) ∙ ap F e

module _ (K : List ℕ) where
  ahead_up : (o : List ℕ) (i : ℕ) → ahead K o i ≤ ahead K o (suc i)
  unfolding ahead
  ahead_up [] zero = omega arith
  ahead_up [] (suc i) = omega arith
  ahead_up (x ∷ o) zero = omega arith
  ahead_up (x ∷ o) (suc i) = omega (arith, ahead_up o i)

  pub ahead_rises : (o : List ℕ) (i j : ℕ) → i ≤ j → ahead K o i ≤ ahead K o j
  ahead_rises o i j l = le_ind (λ (k : ℕ). ahead K o i ≤ ahead K o k) (omega arith) (λ k h t. omega (arith, t, ahead_up o k)) j l
