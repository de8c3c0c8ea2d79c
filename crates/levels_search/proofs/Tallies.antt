-- Levels by node and how often each stands in a list of levels: after a store, and the greatest of them. Assumes nothing.
use mathlib.Core.Path.{◌≡◌, refl, ap, ◌∙◌}
use mathlib.Core.Logic.{◌≢◌}
use mathlib.Core.Bool.{Bool, true, false, cond}
use mathlib.Core.List.{List, [], ◌∷◌, map}
use Prim.Native.Nat.{ℕ, zero, suc, ◌+◌, ◌-◌, ◌≤◌, ◌<◌, max}
use native.Mathlib.Nat.{not-suc-le-zero, le_of_suc-le-suc}
use native.Mathlib.Numerals.{add-one}
use native.Mathlib.Omega.{arith}
use lib.ListN.{length, get_or, set, replicate, get_or-eq_default}
use lib.Seq.{ext_get_or, get_or-set_same, get_or-set_other}
use lib.Dec.{eqb, ltb}
use borrow.Author.Tests.{ne_eqb, eqb-true, eqb-false, lt-ltb, ltb-true, ltb-false}
use Rattle.basis.specs.Lists.{bit, countb, memb, greatest, up_from}
use Rattle.basis.specs.Perm.{times, Once}
use Rattle.basis.proofs.Count.{count_length, memb-times, times_none, times-memb, none_times}
use Rattle.basis.proofs.Index.{greatest_le, greatest-step}
use Rattle.basis.proofs.Lists.{map_cong, up_from_in}
use Rattle.basis.proofs.Logic.{by_test}
use Rattle.spec.specs.Combined.{count_at, width_of}
use Rattle.spec.specs.Graph.{of_node}

-- ---- levels by node

-- what has a level is a node
pub of_node-some : (L : List ℕ) (q : ℕ) → 1 ≤ of_node L q → (1 ≤ q) × (q ≤ length L)
unfolding of_node
of_node-some L zero h = absurd (omega arith)
of_node-some L (suc k) h =
    by_test (ltb k (length L))
    (λ e. (omega arith, ltb-true k (length L) e))
    (λ e. absurd (omega (arith, get_or-eq_default L 0 (ltb-false k (length L) e))))

pub of_node-set : (L : List ℕ) (v j q : ℕ) → 1 ≤ v → v ≤ length L → of_node (set L (v - 1) j) q ≡ cond (eqb q v) j (of_node L q)
unfolding of_node
of_node-set L v j zero lo hi = rw (ne_eqb 0 v (λ e. omega arith))
of_node-set L v j (suc k) lo hi =
    by_test (eqb (suc k) v)
    (λ t.
    let q : v - 1 ≡ k = let q' = eqb-true (suc k) v t in omega arith in
    rw (t, q) (get_or-set_same L k j 0 (omega arith)))
    (λ t.
    let q : k ≢ v - 1 = λ x. eqb-false (suc k) v t (omega arith) in
    rw t (get_or-set_other L (v - 1) k j 0 q))

-- two lists of levels that give each node the same
pub levels_ext : (L M : List ℕ) → length L ≡ length M → ((q : ℕ) → 1 ≤ q → q ≤ length L → of_node L q ≡ of_node M q) → L ≡ M
unfolding of_node
levels_ext L M e h = ext_get_or 0 L M e (λ k l. h (suc k) (omega arith) (omega arith))

-- ---- how often a level stands

pub times-set : (v : ℕ) (L : List ℕ) (k x : ℕ) → k < length L → times v (set L k x) + bit (eqb v (get_or L k 0)) ≡ times v L + bit (eqb v x)
times-set v [] k x h = absurd (not-suc-le-zero h)
times-set v (y ∷ L) zero x h = omega arith
times-set v (y ∷ L) (suc k) x h = omega (arith, times-set v L k x (le_of_suc-le-suc h))

pub times-zeros : (n : ℕ) → times 0 (replicate n 0) ≡ n
times-zeros zero = refl
times-zeros (suc n) = omega (arith, times-zeros n)

-- with a level, and without
pub times-rest : (L : List ℕ) → countb (ltb 0) L + times 0 L ≡ length L
times-rest [] = refl
times-rest (zero ∷ L) = omega (arith, times-rest L)
times-rest (suc x ∷ L) = let ih = times-rest L in rw (lt-ltb 0 (suc x) (omega arith), ne_eqb 0 (suc x) (λ q. omega arith)) (omega arith)

-- what stands as often as a test passes is in the list where it passes
pub times-bit : (q : ℕ) (l : List ℕ) (b : Bool) → times q l ≡ bit b → memb q l ≡ b
times-bit q l true e = times-memb q l (omega arith)
times-bit q l false e = none_times q l e

pub once_bit : (l : List ℕ) → Once l → (q : ℕ) → times q l ≡ bit (memb q l)
once_bit l o q = by_test (memb q l) (λ t. rw t (omega (arith, o q, memb-times q l t))) (λ t. rw t (times_none q l t))

-- ---- the greatest level

pub greatest-set : (L : List ℕ) (k x : ℕ) → greatest (set L k x) ≤ max x (greatest L)
greatest-set [] k x = omega arith
greatest-set (y ∷ L) zero x = omega arith
greatest-set (y ∷ L) (suc k) x = omega (arith, greatest-set L k x)

pub greatest-at : (L : List ℕ) (q : ℕ) → of_node L q ≤ greatest L
unfolding of_node
greatest-at L zero = omega arith
greatest-at L (suc k) = at L k
  where
    at : (L : List ℕ) (k : ℕ) → get_or L k 0 ≤ greatest L
    at [] k = omega arith
    at (y ∷ L) zero = omega arith
    at (y ∷ L) (suc k) = omega (arith, at L k)

pub greatest-times : (v : ℕ) (L : List ℕ) → 0 < times v L → v ≤ greatest L
greatest-times v [] h = absurd (not-suc-le-zero h)
greatest-times v (y ∷ L) h =
    by_test (eqb v y)
    (λ e. omega (arith, eqb-true v y e))
    (λ e. omega (arith, greatest-times v L (omega (arith, rw e at h))))

pub times_above : (v : ℕ) (L : List ℕ) → greatest L < v → times v L ≡ 0
times_above v [] h = refl
times_above v (y ∷ L) h = rw (ne_eqb v y (λ q. omega arith)) (omega (arith, times_above v L (omega arith)))

-- no entry is d + 1
pub greatest_less : (d : ℕ) (L : List ℕ) → greatest L ≤ d + 1 → times (d + 1) L ≡ 0 → greatest L ≤ d
greatest_less d [] h e = omega arith
greatest_less d (y ∷ L) h e =
    by_test (eqb (d + 1) y)
    (λ t. absurd (omega (arith, rw t at e)))
    (λ t. let ne = eqb-false (d + 1) y t in let ih = greatest_less d L (omega arith) (omega (arith, rw t at e)) in omega arith)

-- ---- the width, level by level

pub width_more : (L : List ℕ) (d : ℕ) → width_of (d + 1) L ≡ max (width_of d L) (times (d + 1) L)
unfolding width_of count_at
width_more L d =
    let e : d + 1 ≡ suc d = add-one d in
    let f : 1 + d ≡ d + 1 = omega arith in
    ap (λ (m : ℕ). greatest (map (λ i. countb (eqb i) L) (up_from 1 m))) e ∙ greatest-step (λ i. countb (eqb i) L) 1 d
    ∙ ap (λ (m : ℕ). max (greatest (map (λ i. countb (eqb i) L) (up_from 1 d))) (countb (eqb m) L)) f

pub width_same : (L M : List ℕ) (d : ℕ) → ((i : ℕ) → 1 ≤ i → i ≤ d → times i L ≡ times i M) → width_of d L ≡ width_of d M
unfolding width_of count_at
width_same L M d h = ap greatest (map_cong (λ i. countb (eqb i) L) (λ i. countb (eqb i) M) (up_from 1 d) (λ i m. let w = up_from_in 1 d i m in h i w.0 (omega (arith, w.1))))

pub width_most : (L : List ℕ) (d : ℕ) → width_of d L ≤ length L
unfolding width_of count_at
width_most L d = greatest_le (λ i. countb (eqb i) L) (up_from 1 d) (length L) (λ i m. count_length (eqb i) L)
