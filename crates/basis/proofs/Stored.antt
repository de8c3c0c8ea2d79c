-- A word for each of some numbers: which words are new, and which as before. Assumes nothing.
use mathlib.Core.Path.{◌≡◌, refl, sym, ap, ap₂, ◌∙◌}
use mathlib.Core.Logic.{◌≢◌}
use mathlib.Core.Bool.{Bool, true, false, cond}
use mathlib.Core.List.{List, [], ◌∷◌, ◌++◌}
use Prim.Native.Nat.{ℕ, suc, ◌+◌, ◌-◌, ◌≤◌, ◌<◌}
use native.Mathlib.Omega.{arith}
use lib.ListN.{length, take, drop, get_or, set, replicate, length-set, length-replicate, get_or-replicate, take-append-drop}
use lib.Seq.{ext_get_or, get_or-set_same, get_or-set_other, drop-set-lt, get_or-take, length-take-le}
use lib.Dec.{eqb}
use borrow.Author.Tests.{eqb-true, eqb-false}
use Rattle.basis.specs.Lists.{memb}
use Rattle.basis.specs.Stored.{stored, nought}
use Rattle.basis.proofs.Lists.{memb_here}
use Rattle.basis.proofs.Logic.{by_test, or_right}

pub length-stored : (base : ℕ) (f : ℕ → ℕ) (W zs : List ℕ) → length (stored base f W zs) ≡ length W
unfolding stored
length-stored base f W [] = refl
length-stored base f W (z ∷ zs) = length-stored base f (set W (base + z - 1) (f z)) zs ∙ length-set W (base + z - 1) (f z)

pub stored-append : (base : ℕ) (f : ℕ → ℕ) (W xs ys : List ℕ) → stored base f W (xs ++ ys) ≡ stored base f (stored base f W xs) ys
unfolding stored
stored-append base f W [] ys = refl
stored-append base f W (x ∷ xs) ys = stored-append base f (set W (base + x - 1) (f x)) xs ys

-- the numbers have their word, and every other number what it had
pub stored_at : (base : ℕ) (f : ℕ → ℕ) (W zs : List ℕ) → ((z : ℕ) → memb z zs ≡ true → 1 ≤ z) → (q : ℕ) → 1 ≤ q → base + q ≤ length W
    → get_or (stored base f W zs) (base + q - 1) 0 ≡ cond (memb q zs) (f q) (get_or W (base + q - 1) 0)
unfolding stored
stored_at base f W [] low q l h = refl
stored_at base f W (z ∷ zs) low q l h =
    stored_at base f (set W (base + z - 1) (f z)) zs (λ y m. low y (or_right (eqb y z) m)) q l (rw (length-set W (base + z - 1) (f z)) h)
    ∙ by_test (eqb q z)
    (λ e.
    let q' : q ≡ z = eqb-true q z e in
    let s : get_or (set W (base + z - 1) (f z)) (base + q - 1) 0 ≡ f q =
    ap (λ (x : ℕ). get_or (set W (base + z - 1) (f z)) (base + x - 1) 0) q' ∙ get_or-set_same W (base + z - 1) (f z) 0 (omega (arith, low z (memb_here z zs))) ∙ ap f (sym q') in
    rw (e, s) (both (memb q zs) (f q)))
    (λ e.
    let ne = eqb-false q z e in
    let d : base + q - 1 ≢ base + z - 1 = λ x. ne (omega (arith, low z (memb_here z zs))) in
    rw (e, get_or-set_other W (base + z - 1) (base + q - 1) (f z) 0 d))
  where
    both : (b : Bool) (x : ℕ) → cond b x x ≡ x
    both true x = refl
    both false x = refl

-- every other word is as it was
pub stored_other : (base n : ℕ) (f : ℕ → ℕ) (W zs : List ℕ) → ((z : ℕ) → memb z zs ≡ true → (1 ≤ z) × (z ≤ n)) → (i : ℕ)
    → ((z : ℕ) → 1 ≤ z → z ≤ n → i ≡ base + z - 1 → ⊥) → get_or (stored base f W zs) i 0 ≡ get_or W i 0
unfolding stored
stored_other base n f W [] r i h = refl
stored_other base n f W (z ∷ zs) r i h =
    stored_other base n f (set W (base + z - 1) (f z)) zs (λ y m. r y (or_right (eqb y z) m)) i h
    ∙ get_or-set_other W (base + z - 1) i (f z) 0 (λ e. h z (r z (memb_here z zs)).0 (r z (memb_here z zs)).1 e)

-- what stands behind the words of all numbers is as it was
pub stored_behind : (base n : ℕ) (f : ℕ → ℕ) (W zs : List ℕ) → ((z : ℕ) → memb z zs ≡ true → (1 ≤ z) × (base + z ≤ n)) → drop n (stored base f W zs) ≡ drop n W
unfolding stored
stored_behind base n f W [] r = refl
stored_behind base n f W (z ∷ zs) r =
    let h = r z (memb_here z zs) in
    stored_behind base n f (set W (base + z - 1) (f z)) zs (λ y m. r y (or_right (eqb y z) m))
    ∙ drop-set-lt n W (base + z - 1) (f z) (omega (arith, h.0, h.1))

-- 0 for each of some numbers of 1..n, where the words of the others are 0: the first n words are 0
module _ (n : ℕ) (W zs : List ℕ) (fit : n ≤ length W) (inside : (z : ℕ) → memb z zs ≡ true → (1 ≤ z) × (z ≤ n))
    (clean : (i : ℕ) → i < n → memb (suc i) zs ≡ false → get_or W i 0 ≡ 0) where
  each_zero : (i : ℕ) → i < n → get_or (stored 0 nought W zs) i 0 ≡ 0
  each_zero i h =
      let q : 0 + suc i - 1 ≡ i = omega arith in
      ap (λ (j : ℕ). get_or (stored 0 nought W zs) j 0) (sym q) ∙ stored_at 0 nought W zs (λ z m. (inside z m).0) (suc i) (omega arith) (omega arith)
      ∙ by_test (memb (suc i) zs) (λ e. rw e refl) (λ e. rw (e, q) (clean i h e))

  pub stored-zeros : stored 0 nought W zs ≡ replicate n 0 ++ drop n W
  stored-zeros =
      sym (take-append-drop n (stored 0 nought W zs)) ∙ ap₂ (λ (a b : List ℕ). a ++ b) zeros
      (stored_behind 0 n nought W zs (λ z m. ((inside z m).0, omega (arith, (inside z m).1))))
    where
      long : length (take n (stored 0 nought W zs)) ≡ n
      long = length-take-le n (stored 0 nought W zs) (omega (arith, length-stored 0 nought W zs))

      zeros : take n (stored 0 nought W zs) ≡ replicate n 0
      zeros =
          ext_get_or 0 (take n (stored 0 nought W zs)) (replicate n 0) (long ∙ sym (length-replicate n 0))
          (λ i h.
          let b : i < n = omega (arith, long) in
          get_or-take n (stored 0 nought W zs) i 0 b ∙ each_zero i b ∙ sym (get_or-replicate n i 0 0 b))
