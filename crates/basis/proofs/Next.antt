-- One more number of a range, and one more store: counts, filters, sums and stores step by step. Assumes nothing.
use mathlib.Core.Path.{◌≡◌, refl, sym, ap, ap₂, ◌∙◌}
use mathlib.Core.Bool.{Bool}
use mathlib.Core.List.{List, [], ◌∷◌, ◌++◌, map}
use Prim.Native.Nat.{ℕ, zero, suc, ◌+◌, ◌≤◌, ◌<◌}
use native.Mathlib.Nat.{add-zero, add-suc, le_dest}
use native.Mathlib.Omega.{arith}
use lib.ListN.{length, drop, set, length-append, get_or, length-set}
use lib.Seq.{sets, drop-set-add, get_or-set_same, get_or-set_other}
use Rattle.basis.specs.Lists.{bit, cons_if, filterb, countb, join_all, up_from, sum}
use Rattle.basis.proofs.Count.{count_append}
use Rattle.basis.proofs.Lists.{up_from-append, map-append, join_last, sum-append, filter-append}

module _ {A : Type 0} where
  -- stores one after another
  pub sets_append : (l : List A) (i : ℕ) (xs ys : List A) → sets l i (xs ++ ys) ≡ sets (sets l i xs) (i + length xs) ys
  sets_append l i [] ys = ap (λ (j : ℕ). sets l j ys) (sym (add-zero i))
  sets_append l i (x ∷ xs) ys =
      let e : suc i + length xs ≡ i + suc (length xs) = omega arith in
      sets_append (set l i x) (suc i) xs ys ∙ ap (λ (j : ℕ). sets (sets (set l i x) (suc i) xs) j ys) e

  -- stores behind the first k
  pub drop_sets_add : (k : ℕ) (l : List A) (i : ℕ) (xs : List A) → drop k (sets l (k + i) xs) ≡ sets (drop k l) i xs
  drop_sets_add k l i [] = refl
  drop_sets_add k l i (x ∷ xs) =
      ap (λ (j : ℕ). drop k (sets (set l (k + i) x) j xs)) (sym (add-suc k i)) ∙ drop_sets_add k (set l (k + i) x) (suc i) xs
      ∙ ap (λ (m : List A). sets m (suc i) xs) (drop-set-add k l i x)

-- a word outside the run of stores is as it was
pub sets_before : (l : List ℕ) (i : ℕ) (xs : List ℕ) (j : ℕ) → j < i → get_or (sets l i xs) j 0 ≡ get_or l j 0
sets_before l i [] j h = refl
sets_before l i (x ∷ xs) j h = sets_before (set l i x) (suc i) xs j (omega arith) ∙ get_or-set_other l i j x 0 (λ e. omega arith)

pub sets_behind : (l : List ℕ) (i : ℕ) (xs : List ℕ) (j : ℕ) → i + length xs ≤ j → get_or (sets l i xs) j 0 ≡ get_or l j 0
sets_behind l i [] j h = refl
sets_behind l i (x ∷ xs) j h = sets_behind (set l i x) (suc i) xs j (omega arith) ∙ get_or-set_other l i j x 0 (λ e. omega arith)

-- a word of the run is what was stored
pub sets_at : (l : List ℕ) (i : ℕ) (xs : List ℕ) (j : ℕ) → i + length xs ≤ length l → j < length xs → get_or (sets l i xs) (i + j) 0 ≡ get_or xs j 0
sets_at l i [] j h b = absurd (omega arith)
sets_at l i (x ∷ xs) zero h b =
    ap (λ (k : ℕ). get_or (sets l i (x ∷ xs)) k 0) (add-zero i) ∙ sets_before (set l i x) (suc i) xs i (omega arith) ∙ get_or-set_same l i x 0 (omega arith)
sets_at l i (x ∷ xs) (suc j) h b =
    let e : i + suc j ≡ suc i + j = omega arith in
    ap (λ (k : ℕ). get_or (sets l i (x ∷ xs)) k 0) e ∙ sets_at (set l i x) (suc i) xs j (omega (arith, length-set l i x)) (omega arith)

-- the range with one number more
pub up_from_next : (a k : ℕ) → up_from a (k + 1) ≡ up_from a k ++ ((a + k) ∷ [])
up_from_next a k = sym (up_from-append a k 1)

pub count_next : (t : ℕ → Bool) (a k : ℕ) → countb t (up_from a (k + 1)) ≡ countb t (up_from a k) + bit (t (a + k))
count_next t a k =
    ap (countb t) (up_from_next a k) ∙ count_append t (up_from a k) ((a + k) ∷ []) ∙ ap (λ (n : ℕ). countb t (up_from a k) + n) (add-zero (bit (t (a + k))))

pub filter_next : (t : ℕ → Bool) (a k : ℕ) → filterb t (up_from a (k + 1)) ≡ filterb t (up_from a k) ++ cons_if (t (a + k)) (a + k) []
filter_next t a k = ap (filterb t) (up_from_next a k) ∙ filter-append t (up_from a k) ((a + k) ∷ [])

pub sum_next : (f : ℕ → ℕ) (a k : ℕ) → sum (map f (up_from a (k + 1))) ≡ sum (map f (up_from a k)) + f (a + k)
sum_next f a k =
    ap (λ (l : List ℕ). sum (map f l)) (up_from_next a k) ∙ ap sum (map-append f (up_from a k) ((a + k) ∷ []))
    ∙ sum-append (map f (up_from a k)) (f (a + k) ∷ []) ∙ ap (λ (n : ℕ). sum (map f (up_from a k)) + n) (add-zero (f (a + k)))

pub map_next : {B : Type 0} (f : ℕ → B) (a k : ℕ) → map f (up_from a (k + 1)) ≡ map f (up_from a k) ++ (f (a + k) ∷ [])
map_next f a k = ap (map f) (up_from_next a k) ∙ map-append f (up_from a k) ((a + k) ∷ [])

pub join_next : (f : ℕ → List ℕ) (a k : ℕ) → join_all (map f (up_from a (k + 1))) ≡ join_all (map f (up_from a k)) ++ f (a + k)
join_next f a k = ap join_all (map_next f a k) ∙ join_last (map f (up_from a k)) (f (a + k))

-- a longer range counts at least as many
pub count_upto : (t : ℕ → Bool) (a j k : ℕ) → j ≤ k → countb t (up_from a j) ≤ countb t (up_from a k)
count_upto t a j k h =
    let w = le_dest h in
    omega (
      arith,
      ap (λ (n : ℕ). countb t (up_from a n)) w.1,
      ap (countb t) (up_from-append a j w.0),
      count_append t (up_from a j) (up_from (a + j) w.0),
    )

pub sum-upto : (f : ℕ → ℕ) (a j k : ℕ) → j ≤ k → sum (map f (up_from a j)) ≤ sum (map f (up_from a k))
sum-upto f a j k h =
    let w = le_dest h in
    omega (
      arith,
      ap (λ (n : ℕ). sum (map f (up_from a n))) w.1,
      ap (λ (l : List ℕ). sum (map f l)) (up_from-append a j w.0),
      ap sum (map-append f (up_from a j) (up_from (a + j) w.0)),
      sum-append (map f (up_from a j)) (map f (up_from (a + j) w.0)),
    )

pub join_length : (f : ℕ → List ℕ) (xs : List ℕ) → length (join_all (map f xs)) ≡ sum (map (λ x. length (f x)) xs)
join_length f [] = refl
join_length f (x ∷ xs) = length-append (f x) (join_all (map f xs)) ∙ ap (λ (n : ℕ). length (f x) + n) (join_length f xs)

-- two ranges with the same values
pub map_shift : {B : Type 0} (f h : ℕ → B) (a b k : ℕ) → ((i : ℕ) → i < k → f (a + i) ≡ h (b + i)) → map f (up_from a k) ≡ map h (up_from b k)
map_shift f h a b zero e = refl
map_shift f h a b (suc k) e =
    ap₂ ◌∷◌ (ap f (sym (add-zero a)) ∙ e 0 (omega arith) ∙ ap h (add-zero b))
    (map_shift f h (suc a) (suc b) k
    (λ i l.
    let m : suc i < suc k = omega arith in
    let p : suc a + i ≡ a + suc i = omega arith in
    let q : b + suc i ≡ suc b + i = omega arith in
    ap f p ∙ e (suc i) m ∙ ap h q))
