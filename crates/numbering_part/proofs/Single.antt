-- A part of one node: its figures, its number and its one level, from the laws of every part and of whatever is found of it. Assumes nothing.
use mathlib.Core.Path.{◌≡◌, sym, ap, ◌∙◌}
use mathlib.Core.Bool.{true, false, cond}
use mathlib.Core.List.{List, [], ◌∷◌, map}
use Prim.Native.Nat.{ℕ, ◌+◌, ◌-◌}
use native.Mathlib.Omega.{arith}
use lib.ListN.{length, get_or, set, length-map, length-set}
use lib.Dec.{eqb}
use borrow.Author.Tests.{eqb-true}
use Rattle.basis.specs.Lists.{memb, sum}
use Rattle.basis.proofs.Lists.{memb-one}
use Rattle.basis.proofs.Logic.{by_test, eqb_self}
use Rattle.basis.proofs.Perm.{perm_length, perm_memb, perm_sum}
use Rattle.spec.specs.Graph.{Graph, nodes, of_node}
use Rattle.spec.specs.Levels.{part}
use Rattle.spec.specs.Numbering.{PartResult}
use Rattle.spec.specs.Unknowns.{unknowns_at}
use Rattle.laws.specs.Results.{Sound}
use Rattle.laws.specs.Legal.{Node, LegalGraph}
use Rattle.laws.specs.Structure.{LevelStructure}
use Rattle.laws.proofs.Legal.{length-nodes, of_node-at, of_node-map, by_node}
use Rattle.laws.proofs.Levels.{part_self}
use Rattle.laws.proofs.PartOrder.{forward_is, levels_perm}
use Rattle.laws.proofs.UnknownOrder.{unknown_width_met, weight_is}
use Rattle.levels_search.proofs.Tallies.{of_node-set}
use Rattle.numbering_part.specs.Part.{number_from, renewed, new_numbers, new_levels, part_figures_of}

-- a list of one that holds z
alone : (z : ℕ) (l : List ℕ) → length l ≡ 1 → memb z l ≡ true → l ≡ z ∷ []
alone z [] e m = absurd (omega arith)
alone z (x ∷ []) e m = ap (λ (y : ℕ). y ∷ []) (sym (eqb-true z x (sym (memb-one z x) ∙ m)))
alone z (x ∷ y ∷ l) e m = absurd (omega arith)

module _ {g : Graph} (G : LegalGraph g) {z : ℕ} (Z : Node g z) {cs : List ℕ} {found : PartResult} (R : Sound g cs z found) (one : length (part g z) ≡ 1) where
  part_is : part g z ≡ z ∷ []
  part_is = alone z (part g z) one (part_self G Z)

  only : (q : ℕ) → memb q (part g z) ≡ true → q ≡ z
  only q m = eqb-true q z (sym (ap (memb q) part_is ∙ memb-one q z) ∙ m)

  -- ---- its levels: the first is the last

  abbrev ls : List ℕ
  ls = found.levels

  abbrev S : LevelStructure g z found.report.k found.report.v found.report.u found.levels
  S = R.structure

  level-one : of_node ls z ≡ 1
  level-one = ap (of_node ls) (sym (only _ R.v-part)) ∙ S.v-first

  k-one : found.report.k ≡ 1
  k-one = sym S.u_last ∙ ap (of_node ls) (only _ R.u_part) ∙ level-one

  -- and has all its unknowns
  unknowns_one : unknowns_at g cs ls 1 ≡ of_node cs z
  unknowns_one =
      let f : ℕ → ℕ = λ x. cond (eqb (of_node ls x) 1) (of_node cs x) 0 in
      let r = forward_is G Z S R.v-part in
      let all : sum (map f (part g z)) ≡ of_node cs z + 0 = ap (λ (l : List ℕ). sum (map f l)) part_is ∙ rw level-one in
      sym (weight_is G cs Z S r 1 (omega arith)) ∙ perm_sum f (levels_perm G Z S r) ∙ all ∙ omega arith

  width_one : found.report.width ≡ get_or cs (z - 1) 0
  width_one =
      let m = unknown_width_met g cs found.report.k ls (omega (arith, k-one)) in
      let i : m.0 ≡ 1 = omega (arith, m.1, m.2, k-one) in
      R.width ∙ sym m.3 ∙ ap (unknowns_at g cs ls) i ∙ unknowns_one ∙ of_node-at cs z Z.low

  passes_one : found.report.passes ≡ 1
  passes_one = omega (arith, R.some_pass, R.most_passes, k-one)

  pub figures_one : record { k = 1; width = get_or cs (z - 1) 0; passes = 1 } ≡ part_figures_of found.report
  figures_one = λ i. record { k = sym k-one i; width = sym width_one i; passes = sym passes_one i }

  -- ---- the two lists

  -- a word put at the one node is what it gets
  put_one : (f : ℕ → ℕ) (L : List ℕ) (v : ℕ) → length L ≡ g.size → f z ≡ v → set L (z - 1) v ≡ renewed g z f L
  unfolding renewed
  put_one f L v l e =
      by_node g (set L (z - 1) v) (renewed g z f L)
      (length-set L (z - 1) v ∙ l)
      (length-map (nodes g) (λ q. cond (memb q (part g z)) (f q) (of_node L q)) ∙ length-nodes g)
      (λ q N.
      of_node-set L z v q Z.low (omega (arith, Z.high))
      ∙ by_test (eqb q z)
      (λ t. rw t (sym e ∙ ap f (sym (eqb-true q z t)) ∙ sym (hit q t)))
      (λ t. rw t (sym (miss q t)))
      ∙ sym (of_node-map g (λ q. cond (memb q (part g z)) (f q) (of_node L q)) q N))
    where
      member : (q : ℕ) → memb q (part g z) ≡ eqb q z
      member q = ap (memb q) part_is ∙ memb-one q z

      hit : (q : ℕ) → eqb q z ≡ true → cond (memb q (part g z)) (f q) (of_node L q) ≡ f q
      hit q t = rw (member q, t)

      miss : (q : ℕ) → eqb q z ≡ false → cond (memb q (part g z)) (f q) (of_node L q) ≡ of_node L q
      miss q t = rw (member q, t)

  order_is : found.order ≡ z ∷ []
  order_is = alone z found.order (perm_length R.perm ∙ one) (perm_memb R.perm z ∙ part_self G Z)

  pub numbers_one : (a : ℕ) (X : List ℕ) → length X ≡ g.size → set X (z - 1) (a + 1) ≡ new_numbers g z found a X
  numbers_one a X l = put_one (number_from a found.order) X (a + 1) l (ap (λ (o : List ℕ). number_from a o z) order_is ∙ rw (eqb_self z))

  pub levels-one : (L : List ℕ) → length L ≡ g.size → set L (z - 1) 1 ≡ new_levels g z found L
  levels-one L l = put_one (of_node found.levels) L 1 l level-one
