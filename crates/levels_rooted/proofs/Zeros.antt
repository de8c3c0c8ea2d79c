-- The words of the sizes at the end of `rooted`: the sizes, then zeros. Assumes nothing.
use mathlib.Core.Path.{◌≡◌, ap, ◌∙◌}
use mathlib.Core.List.{List, [], ◌++◌, append-nil}
use Prim.Native.Nat.{ℕ, ◌-◌, ◌≤◌}
use native.Mathlib.Omega.{arith}
use lib.ListN.{length, take, replicate, drop_of_length-le}
use borrow.Rule.Slice.PartMut.{mid_of, post_of, put_mid, Post-is, mid_len}
use Rattle.spec.specs.Graph.{Graph}
use Rattle.spec.specs.Lent.{zeroed}
use Rattle.spec.specs.Levels.{levels, depth, size_list}
use Rattle.laws.proofs.Lent.{zeroed-all}
use Rattle.laws.proofs.Levels.{depth_most}
use Rattle.levels_rooted.specs.Answer.{figures_of, counts_of, sizes_of}
use Rattle.levels_rooted.specs.declared.shape.Figures.{Figures}

-- d words are sizes; Z is all n words before the others are cleared
module _ (g : Graph) (root : ℕ) {f : Figures} (F : f ≡ figures_of g root) {n d : ℕ} (size : n ≡ g.size) (deep : d ≡ f.depth) where
  depth_is : d ≡ depth (levels g root)
  depth_is = deep ∙ ap (λ (x : Figures). x.depth) F

  pub d_most : d ≤ n
  d_most = omega (arith, depth_is, depth_most g root, size)

  pub zeros_behind : (Z : List ℕ) {X : List ℕ} → length Z ≡ n → take f.depth Z ≡ counts_of g root → X ≡ zeroed (n - d) (mid_of d (n - d) Z)
      → put_mid d (n - d) Z X ≡ sizes_of g root
  unfolding size_list
  zeros_behind Z {X} l c x =
      let a : take d Z ≡ counts_of g root = ap (λ (k : ℕ). take k Z) deep ∙ c in
      let m : X ≡ replicate (n - d) 0 = x ∙ zeroed-all (n - d) (mid_of d (n - d) Z) (mid_len d n Z (omega arith)) in
      let e : post_of d (n - d) Z ≡ [] = Post-is d n Z d_most ∙ drop_of_length-le Z {i = n} (omega arith) in
      (λ i. a i ++ (m i ++ e i)) ∙ ap (λ (r : List ℕ). counts_of g root ++ r) (append-nil (replicate (n - d) 0))
      ∙ (λ i. counts_of g root ++ replicate (size i - depth_is i) 0)
