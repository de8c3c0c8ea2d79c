-- Sums over what passes a test, of bounded terms, and of the front of a list. Assumes nothing.
use mathlib.Core.Path.{◌≡◌, refl, sym, ap, ◌∙◌}
use mathlib.Core.Bool.{Bool, true, false}
use mathlib.Core.List.{List, [], ◌∷◌, map}
use Prim.Native.Nat.{ℕ, zero, suc, ◌+◌, ◌*◌, ◌≤◌, ◌<◌}
use native.Mathlib.Nat.{suc-mul}
use native.Mathlib.Omega.{arith}
use lib.ListN.{length, get_or, take}
use lib.Dec.{eqb}
use Rattle.basis.specs.Lists.{bit, filterb, memb, sum}
use Rattle.basis.proofs.Count.{bit-one, bit_none}
use Rattle.basis.proofs.Lists.{memb_here, sum_cong}
use Rattle.basis.proofs.Logic.{by_test, or_right}

-- ---- a term by its test: all of c, or none of it

pub term_all : (b : Bool) (c : ℕ) → b ≡ true → bit b * c ≡ c
term_all b c e = ap (λ (k : ℕ). k * c) (bit-one b e) ∙ omega arith

pub term_none : (b : Bool) (c : ℕ) → b ≡ false → bit b * c ≡ 0
term_none b c e = ap (λ (k : ℕ). k * c) (bit_none b e) ∙ omega arith

pub term_most : (b : Bool) (c : ℕ) → bit b * c ≤ c
term_most true c = omega arith
term_most false c = omega arith

-- ---- over what passes

pub sum-filter : (f : ℕ → ℕ) (t : ℕ → Bool) (l : List ℕ) → sum (map f (filterb t l)) ≡ sum (map (λ x. bit (t x) * f x) l)
sum-filter f t [] = refl
sum-filter f t (x ∷ l) =
    by_test (t x)
    (λ e. rw e (omega (arith, sum-filter f t l)))
    (λ e. rw e (omega (arith, sum-filter f t l)))

-- what fails the test adds nothing: the sum is that over all
pub sum-filter-all : (f : ℕ → ℕ) (t : ℕ → Bool) (l : List ℕ) → ((x : ℕ) → memb x l ≡ true → t x ≡ false → f x ≡ 0) → sum (map f (filterb t l)) ≡ sum (map f l)
sum-filter-all f t l h =
    sum-filter f t l
    ∙ sum_cong (λ x. bit (t x) * f x) f l (λ x m. by_test (t x) (λ e. term_all (t x) (f x) e) (λ e. term_none (t x) (f x) e ∙ sym (h x m e)))

-- ---- of terms of at most c

pub sum_most : (f : ℕ → ℕ) (c : ℕ) (l : List ℕ) → ((x : ℕ) → memb x l ≡ true → f x ≤ c) → sum (map f l) ≤ length l * c
sum_most f c [] h = omega arith
sum_most f c (x ∷ l) h = omega (arith, h x (memb_here x l), sum_most f c l (λ y m. h y (or_right (eqb y x) m)), suc-mul (length l) c)

-- ---- of the front of a list: one word more

pub sum-take : (l : List ℕ) (i : ℕ) → i < length l → sum (take (suc i) l) ≡ sum (take i l) + get_or l i 0
sum-take [] i h = absurd (omega arith)
sum-take (x ∷ l) zero h = omega arith
sum-take (x ∷ l) (suc i) h = omega (arith, sum-take l i (omega arith))
