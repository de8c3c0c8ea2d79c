-- Working words whose first n are 0 and whose next hold an order: read, and turned. Assumes nothing.
use mathlib.Core.Path.{◌≡◌, sym, ap, ap₂, ◌∙◌, subst}
use mathlib.Core.Bool.{true, false}
use mathlib.Core.List.{List, ◌++◌, reverse}
use Prim.Native.Nat.{ℕ, ◌+◌, ◌-◌, ◌≤◌, ◌<◌}
use native.Mathlib.Omega.{arith}
use borrow.Author.Tests.{lt-ltb, le-ltb}
use borrow.Rule.Slice.PartMut.{mid_of, put_mid}
use lib.ListN.{length, take, drop, get_or, replicate, length-append, length-replicate, get_or-replicate, take-append-drop, get_or-append}
use lib.Seq.{take_at, drop_at, drop-drop}
use Rattle.spec.specs.Graph.{Graph, size_of}
use Rattle.spec.specs.Measures.{profile}
use Rattle.spec.specs.Numbering.{turns}
use Rattle.spec.specs.Unknowns.{order_unknowns}
use Rattle.numbering_reverse.specs.Places.{segment, Part, Clean}

-- n zeros, the order, the rest
abbrev pub laid : ℕ → List ℕ → List ℕ → List ℕ
laid n o R = replicate n 0 ++ (o ++ R)

-- what a call leaves that ends with n zeros
pub laid_from : (n m : ℕ) (B W : List ℕ) → W ≡ replicate n 0 ++ drop n B → W ≡ laid n (segment n m B) (drop (n + m) B)
laid_from n m B W e =
    e ∙ ap (λ (l : List ℕ). replicate n 0 ++ l) (sym (take-append-drop m (drop n B)) ∙ ap (λ (l : List ℕ). segment n m B ++ l) (drop-drop m n B))

module _ (n m : ℕ) (o R W : List ℕ) (len : length o ≡ m) (e : W ≡ laid n o R) where
  behind : drop n W ≡ o ++ R
  behind = ap (drop n) e ∙ drop_at (replicate n 0) (o ++ R) n (length-replicate n 0)

  pub laid-order : segment n m W ≡ o
  laid-order = ap (take m) behind ∙ take_at o R m len

  laid-rest : drop m (drop n W) ≡ R
  laid-rest = ap (drop m) behind ∙ drop_at o R m len

  laid_clean : (p : List ℕ) → Clean n p W
  laid_clean p k h out =
      ap (λ (l : List ℕ). get_or l k 0) e
      ∙ get_or-append (replicate n 0) (o ++ R) 0 k (subst (λ (j : ℕ). k < j) (sym (length-replicate n 0)) h)
      ∙ get_or-replicate n k 0 0 h

  laid_fits : n + m ≤ length W
  laid_fits =
      let z : length (replicate {A = ℕ} n 0) ≡ n = length-replicate n 0 in
      omega (arith, ap length e, length-append (replicate n 0) (o ++ R), length-append o R)

  -- so the profiles can be had of them
  pub laid_ready : {S N : List ℕ} → n ≡ size_of S → Part S N o
      → ((n ≡ size_of S) × (n + m ≤ length W)) × (Part S N (segment n m W) × Clean n (segment n m W) W)
  laid_ready {S} {N} size P = ((size, laid_fits), (subst (λ (p : List ℕ). Part S N p) (sym laid-order) P, laid_clean (segment n m W)))

  -- the order turned in its place
  pub laid_turned : (t : List ℕ) → t ≡ reverse (mid_of n (n + m - n) W) → put_mid n (n + m - n) W t ≡ laid n (reverse o) R
  laid_turned t q =
      let k : n + m - n ≡ m = omega arith in
      ap (λ (j : ℕ). take n W ++ (t ++ drop j (drop n W))) k
      ∙ ap₂ (λ (a b : List ℕ). a ++ (t ++ b)) (ap (take n) e ∙ take_at (replicate n 0) (o ++ R) n (length-replicate n 0)) laid-rest
      ∙ ap (λ (l : List ℕ). replicate n 0 ++ (l ++ R)) (q ∙ ap reverse (ap (λ (j : ℕ). take j (drop n W)) k ∙ laid-order))

-- "exactly if that makes its profile less"
module _ (g : Graph) (K o : List ℕ) {b f : ℕ} (eb : b ≡ profile (order_unknowns g K (reverse o))) (ef : f ≡ profile (order_unknowns g K o)) where
  pub turns_yes : b < f → true ≡ turns g K o
  unfolding turns
  turns_yes h = sym (lt-ltb (profile (order_unknowns g K (reverse o))) (profile (order_unknowns g K o)) (omega arith))

  pub turns_no : f ≤ b → false ≡ turns g K o
  unfolding turns
  turns_no h = sym (le-ltb (profile (order_unknowns g K (reverse o))) (profile (order_unknowns g K o)) (omega arith))
