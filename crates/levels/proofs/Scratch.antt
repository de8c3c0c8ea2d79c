-- Words that were set to 0, and parts of them that are lent. Assumes nothing.
use mathlib.Core.Path.{◌≡◌, sym, ap, ◌∙◌}
use mathlib.Core.List.{List, ◌++◌}
use Prim.Native.Nat.{ℕ, ◌+◌, ◌-◌, ◌≤◌}
use native.Mathlib.Omega.{arith}
use lib.ListN.{length, take, drop, replicate, length-drop, length-replicate}
use lib.Seq.{sets, length-sets, ext_get_or, get_or-drop, take-append-le, drop-append-add, drop-drop}
use Rattle.basis.proofs.Next.{sets_behind}
use Rattle.spec.specs.Lent.{zeroed}
use Rattle.laws.proofs.Lent.{zeroed_is}
use Rattle.levels_search.proofs.Stores.{take-replicate}

-- the front of words that were set to 0
pub zero_front : (k m : ℕ) (W : List ℕ) → k ≤ m → take k (zeroed m W) ≡ replicate k 0
zero_front k m W h =
    let e : m ≡ k + (m - k) = omega arith in
    ap (take k) (zeroed_is m W) ∙ take-append-le k (replicate m 0) (drop m W) (omega (arith, length-replicate {A = ℕ} m 0))
    ∙ ap (λ (j : ℕ). take k (replicate j 0)) e ∙ take-replicate k (m - k) 0

-- what lies behind a front that was written
pub behind_front : (k m : ℕ) (X W : List ℕ) → length X ≡ k → k ≤ m → drop m (X ++ drop k W) ≡ drop m W
behind_front k m X W e h =
    let f : m ≡ length X + (m - k) = omega arith in
    let g : k + (m - k) ≡ m = omega arith in
    ap (λ (j : ℕ). drop j (X ++ drop k W)) f ∙ drop-append-add X (drop k W) (m - k) ∙ drop-drop (m - k) k W ∙ ap (λ (j : ℕ). drop j W) g

-- what lies behind words that were stored
pub behind_sets : (m : ℕ) (W : List ℕ) (i : ℕ) (xs : List ℕ) → i + length xs ≤ m → drop m (sets W i xs) ≡ drop m W
behind_sets m W i xs h =
    ext_get_or 0 (drop m (sets W i xs)) (drop m W) (omega (arith, length-drop m (sets W i xs), length-drop m W, length-sets W i xs))
    (λ j l. get_or-drop m (sets W i xs) j 0 ∙ sets_behind W i xs (m + j) (omega arith) ∙ sym (get_or-drop m W j 0))

-- set to 0 again, whatever stood in front
pub zeroed_again : (m : ℕ) (A W : List ℕ) → drop m A ≡ drop m W → zeroed m A ≡ zeroed m W
zeroed_again m A W e = zeroed_is m A ∙ ap (λ (l : List ℕ). replicate m 0 ++ l) e ∙ sym (zeroed_is m W)
