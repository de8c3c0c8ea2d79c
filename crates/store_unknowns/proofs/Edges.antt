-- The pairs of unknowns that are joined at first, walked by old number. Assumes nothing.
use mathlib.Core.Path.{◌≡◌, sym, ap, ap₂, ◌∙◌}
use mathlib.Core.Bool.{Bool, true, false}
use mathlib.Core.List.{List, map}
use Prim.Native.Nat.{ℕ, ◌+◌, ◌-◌, ◌*◌, ◌≤◌}
use native.Mathlib.Nat.{mul-le-mul}
use native.Mathlib.Omega.{arith}
use lib.Dec.{ltb}
use Rattle.basis.specs.Lists.{bit, up_from, sum}
use Rattle.basis.proofs.Lists.{sum_cong, sum-within}
use Rattle.spec.specs.Graph.{Graph, nodes, adjoins, of_node}
use Rattle.spec.specs.Measures.{is_numbering, renumbered}
use Rattle.spec.specs.Unknowns.{bad_counts}
use Rattle.laws.specs.Legal.{Node, LegalGraph}
use Rattle.laws.specs.Unknowns.{triangle, lower_unknowns, unknown_edges}
use Rattle.laws.proofs.ByTest.{renumbered_legal}
use Rattle.laws.proofs.Legal.{node_in_lem, row-sum, as_map}
use Rattle.laws.proofs.Renumber.{renumbered-adjoins}
use Rattle.laws.proofs.UnknownBounds.{counts_size, unknowns_most}
use Rattle.laws.proofs.UnknownMeasures.{triangle_is}
use Rattle.graph_envelope.proofs.Folds.{sum_more}
use Rattle.graph_envelope.proofs.InUnknowns.{new_counts, sum-old, count_is, count_few}
use Rattle.store_unknowns.specs.Edges.{lower, lowers, edges_at}

-- ---- the pairs of nodes

-- the pairs of node a, and of the nodes 1 .. p together
abbrev pub edges_of : Graph → List ℕ → List ℕ → ℕ → ℕ
edges_of g K x a = edges_at (renumbered g x) (new_counts K x) (of_node x a)

abbrev pub edges_to : Graph → List ℕ → List ℕ → ℕ → ℕ
edges_to g K x p = sum (map (edges_of g K x) (up_from 1 p))

-- ---- a sum over a row

module _ {g : Graph} (G : LegalGraph g) (x : List ℕ) (ok : is_numbering g.size x ≡ true) where
  -- over the neighbours of a number, by old number
  row_old : (a : ℕ) → Node g a → (f : ℕ → ℕ) → sum (map f ((renumbered g x).row (of_node x a))) ≡ sum (map (λ b. f (of_node x b)) (g.row a))
  row_old a A f =
      row-sum (renumbered_legal G x) (of_node x a) f
      ∙ sum-old G x ok (λ p. bit (adjoins (renumbered g x) (of_node x a) p) * f p)
      ∙ sum_cong _ _ (nodes g) (λ b m. ap (λ (t : Bool). bit t * f (of_node x b)) (renumbered-adjoins G x ok a b A (node_in_lem g b m)))
      ∙ sym (row-sum G a (λ b. f (of_node x b)))

  module _ (K : List ℕ) (fit : bad_counts g.size K ≡ false) where
    -- the unknowns of the lower neighbours
    pub lower_is : (a : ℕ) → Node g a → lowers K x (of_node x a) (g.row a) ≡ lower_unknowns (renumbered g x) (new_counts K x) (of_node x a)
    unfolding lower_unknowns adjoins
    lower_is a A =
        sym (
        row_old a A (λ p. bit (ltb p (of_node x a)) * of_node (new_counts K x) p)
        ∙ sum_cong _ _ (g.row a) (λ b m. ap (λ (c : ℕ). bit (ltb (of_node x b) (of_node x a)) * c) (count_is G x ok K fit b (G.inside a b m)))
        )

    -- are not more than all
    pub lower_most : (a : ℕ) → Node g a → g.size ≤ 4096 → lowers K x (of_node x a) (g.row a) ≤ 24576
    lower_most a A few =
        omega (
          arith,
          row-sum G a (lower K x (of_node x a)),
          sum-within (λ b. bit (adjoins g a b) * lower K x (of_node x a) b) (of_node K) (nodes g) (λ b m. within (adjoins g a b) (ltb (of_node x b) (of_node x a)) (of_node K b)),
          ap sum (as_map g K (counts_size g.size K fit)),
          unknowns_most g.size K fit,
        )
      where
        within : (s t : Bool) (c : ℕ) → bit s * (bit t * c) ≤ c
        within true true c = omega arith
        within true false c = omega arith
        within false t c = omega arith

    -- the pairs of a node
    pub node_is : (a : ℕ) → Node g a → of_node K a * lowers K x (of_node x a) (g.row a) + triangle (of_node K a) ≡ edges_of g K x a
    unfolding edges_at
    node_is a A = ap₂ (λ (c : ℕ) (w : ℕ). c * w + triangle c) (sym (count_is G x ok K fit a A)) (lower_is a A)

    -- at most 6 × 24,576 + 15
    pub node_most : (a : ℕ) → Node g a → g.size ≤ 4096 → edges_of g K x a ≤ 147471
    node_most a A few =
        let c = (count_few G x ok K fit a A).1 in
        omega (arith, node_is a A, mul-le-mul c (lower_most a A few), triangle_is (of_node K a) c, squares (of_node K a) c)
      where
        squares : (c : ℕ) → c ≤ 6 → c * (c - 1) ≤ 30
        squares c h = let l : c - 1 ≤ 5 = omega arith in mul-le-mul h l

    -- one node more
    pub edges_step : (p : ℕ) → Node g p → g.size ≤ 4096 → {t r : ℕ} → t ≤ 147471 * (p - 1) → t ≡ edges_to g K x (p - 1) → r ≡ edges_of g K x p
        → (t + r ≤ 147471 * p) × (t + r ≡ edges_to g K x p)
    edges_step p A few {t} {r} small et er =
        let e : p - 1 + 1 ≡ p = omega (arith, A.low) in
        let er' : r ≡ edges_of g K x (p - 1 + 1) = rw e er in
        (omega (arith, A.low, node_most p A few), rw e at (sum_more (edges_of g K x) (p - 1) et er'))

    -- and all
    pub edges_all : edges_to g K x g.size ≡ unknown_edges (renumbered g x) (new_counts K x)
    unfolding unknown_edges edges_at nodes
    edges_all = sym (sum-old G x ok (edges_at (renumbered g x) (new_counts K x)))
