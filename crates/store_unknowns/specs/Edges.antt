-- The pairs of unknowns that are joined at first, as they are counted. Assumes nothing.
use Rattle.std.specs.Prelude.{List, map, ℕ, ◌+◌, ◌*◌, ltb}
use Rattle.basis.specs.Lists.{bit, sum}
use Rattle.spec.specs.Graph.{Graph, of_node}
use Rattle.spec.specs.Measures.{order_of}
use Rattle.laws.specs.Unknowns.{triangle, lower_unknowns}
use Rattle.store_spread.specs.Rows.{Given}

-- the two lists S and N are a legal graph, K has a count for each node, and x numbers them
abbrev pub Counted : List ℕ → List ℕ → List ℕ → List ℕ → Type 0
Counted S N K x = Given S N x K (order_of x)

-- the unknowns of node q, if its number is below `own`
abbrev pub lower : List ℕ → List ℕ → ℕ → ℕ → ℕ
lower K x own q = bit (ltb (of_node x q) own) * of_node K q

-- and those of a row
abbrev pub lowers : List ℕ → List ℕ → ℕ → List ℕ → ℕ
lowers K x own row = sum (map (lower K x own) row)

-- the pairs of the unknowns of number q with those of its lower neighbours, and its own
unfoldable pub edges_at : Graph → List ℕ → ℕ → ℕ
edges_at h cs q = of_node cs q * lower_unknowns h cs q + triangle (of_node cs q)
