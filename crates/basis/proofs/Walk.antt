-- A test over a list that is read by index, as a loop reads it: one index decides `anyb` and `chainb`, or all of them do. Assumes nothing.
use mathlib.Core.Path.{◌≡◌, refl, sym, ap}
use mathlib.Core.Bool.{Bool, true, false}
use mathlib.Core.List.{List, [], ◌∷◌, ◌++◌}
use Prim.Native.Nat.{ℕ, zero, suc, ◌-◌, ◌≤◌, ◌<◌}
use native.Mathlib.Nat.{not-suc-le-zero}
use native.Mathlib.Omega.{arith}
use lib.ListN.{length, get_or, take, drop}
use lib.Seq.{take-nil, drop-nil, take-append-le, slice}
use Rattle.basis.specs.Lists.{anyb, chainb, head_or}
use Rattle.basis.proofs.Logic.{clash, fails, and_split, and_make, or_left, or_right, or_neither}

module _ {A : Type 0} (d : A) where
  -- an element that passes
  pub any_at : (t : A → Bool) (l : List A) (i : ℕ) → i < length l → t (get_or l i d) ≡ true → anyb t l ≡ true
  any_at t [] i h e = absurd (not-suc-le-zero h)
  any_at t (x ∷ l) zero h e = or_left (anyb t l) e
  any_at t (x ∷ l) (suc i) h e = or_right (t x) (any_at t l i (omega arith) e)

  -- none passes
  pub any_walked : (t : A → Bool) (l : List A) → ((i : ℕ) → i < length l → t (get_or l i d) ≡ false) → anyb t l ≡ false
  any_walked t [] h = refl
  any_walked t (x ∷ l) h = or_neither (h zero (omega arith)) (any_walked t l (λ i b. h (suc i) (omega arith)))

  broken : (t : A → A → Bool) (l : List A) (i : ℕ) → suc i < length l → t (get_or l i d) (get_or l (suc i) d) ≡ false → chainb t l ≡ false
  broken t [] i h e = absurd (not-suc-le-zero h)
  broken t (x ∷ []) i h e = absurd (omega arith)
  broken t (x ∷ y ∷ l) zero h e = rw e
  broken t (x ∷ y ∷ l) (suc i) h e =
      fails (chainb t (x ∷ y ∷ l)) (λ c. clash (and_split (t x y) (chainb t (y ∷ l)) c).1 (broken t (y ∷ l) i (omega arith) e))

  -- an element that fails after the one before it
  pub chain_broken : (t : A → A → Bool) (l : List A) (i : ℕ) → 1 ≤ i → i < length l → t (get_or l (i - 1) d) (get_or l i d) ≡ false → chainb t l ≡ false
  chain_broken t l i k h e = broken t l (i - 1) (omega arith) (let q : suc (i - 1) ≡ i = omega arith in rw q e)

  -- each passes after the one before it
  pub chain_walked : (t : A → A → Bool) (l : List A) → ((i : ℕ) → i < length l → 1 ≤ i → t (get_or l (i - 1) d) (get_or l i d) ≡ true) → chainb t l ≡ true
  chain_walked t [] h = refl
  chain_walked t (x ∷ []) h = refl
  chain_walked t (x ∷ y ∷ l) h = and_make (h 1 (omega arith) (omega arith)) (chain_walked t (y ∷ l) later)
    where
      later : (i : ℕ) → i < length (y ∷ l) → 1 ≤ i → t (get_or (y ∷ l) (i - 1) d) (get_or (y ∷ l) i d) ≡ true
      later zero b k = absurd (omega arith)
      later (suc i) b k =
          let q : suc (suc i) - 1 ≡ suc (suc i - 1) = omega arith in
          rw q at (h (suc (suc i)) (omega arith) (omega arith))

  -- the first element, of a list that has one
  pub head_at : (e : A) (l : List A) → 1 ≤ length l → head_or e l ≡ get_or l zero d
  head_at e [] h = absurd (not-suc-le-zero h)
  head_at e (x ∷ l) h = refl

-- a chain by one test is a chain by a weaker one
pub chain_weaker : {A : Type 0} (s t : A → A → Bool) → ((x y : A) → s x y ≡ true → t x y ≡ true) → (l : List A) → chainb s l ≡ true → chainb t l ≡ true
chain_weaker s t h [] e = refl
chain_weaker s t h (x ∷ []) e = refl
chain_weaker s t h (x ∷ y ∷ l) e =
    let w = and_split (s x y) (chainb s (y ∷ l)) e in
    and_make (h x y w.0) (chain_weaker s t h (y ∷ l) w.1)

-- the part of a list that the code reads is the slice of the definitions
pub part_slice : {A : Type 0} (f t : ℕ) (l : List A) → take (t - f) (drop f l) ≡ slice f t l
part_slice zero t l = let q : t - 0 ≡ t = omega arith in rw q
part_slice (suc f) zero l = let q : 0 - suc f ≡ 0 = omega arith in rw q (sym (drop-nil (suc f)))
part_slice (suc f) (suc t) [] = take-nil (suc t - suc f)
part_slice (suc f) (suc t) (x ∷ l) = let q : suc t - suc f ≡ t - f = omega arith in rw q (part_slice f t l)

-- a slice of the front
pub slice_front : {A : Type 0} (f t : ℕ) (xs ys : List A) → t ≤ length xs → slice f t (xs ++ ys) ≡ slice f t xs
slice_front f t xs ys h = ap (drop f) (take-append-le t xs ys h)
