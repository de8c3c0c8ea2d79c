-- Unknowns per node (document 02, A.6): "A hinge node has three unknowns and a shell node six, and the store is laid out in unknowns." The
-- unknowns of a graph are a graph again, so that every measure, place, elimination and mark of a graph is one of the unknowns: "Bandwidth,
-- profile, front, store and elimination are then measured in unknowns". Counts run by the graph's own numbers.
-- Assumes nothing.
use Rattle.std.specs.Prelude.{ℕ, suc, Bool, not, ◌&&◌, ◌||◌, cond, List, [], ◌∷◌, ◌++◌, map, length, replicate, eqb}
use Rattle.basis.specs.Lists.{anyb, up_from, greatest, sum}
use Rattle.spec.specs.Graph.{Graph, nodes, adjoins, graph_by, outside, of_node}
use Rattle.spec.specs.Measures.{order_of, in_order}

-- ---- counts

-- "Each node gets a count from 1 to 6, listed by old number"
abbrev pub max_count : ℕ
max_count = 6

-- 15: "a count outside 1 to 6, or a library count list that hasn't n words"
unfoldable pub bad_counts : ℕ → List ℕ → Bool
bad_counts n counts = not (eqb (length counts) n) || anyb (outside max_count) counts

-- "Version 1 means one unknown each"
abbrev pub ones : ℕ → List ℕ
ones n = replicate n 1

-- counts by old number, listed in the order of new numbers
unfoldable pub counts_in : List ℕ → List ℕ → List ℕ
counts_in counts order = map (of_node counts) order

-- ---- the graph of the unknowns

-- the node of each unknown, from node q on: as often as the node has unknowns
unfoldable pub owners_from : ℕ → List ℕ → List ℕ
owners_from q [] = []
owners_from q (c ∷ cs) = replicate c q ++ owners_from (suc q) cs

-- "Unknowns take consecutive numbers in the order of their nodes"
unfoldable pub owners : List ℕ → List ℕ
owners counts = owners_from 1 counts

-- p and q are one node, or adjoin
unfoldable pub touches : Graph → ℕ → ℕ → Bool
touches g p q = eqb p q || adjoins g p q

-- "Any two of one node, or of two nodes that adjoin, adjoin and are joined from the start": the eliminations begin with what adjoins
unfoldable pub in_unknowns : Graph → List ℕ → Graph
in_unknowns g counts =
    let os : List ℕ = owners counts in
    graph_by (length os) (λ x y. not (eqb x y) && touches g (of_node os x) (of_node os y))

-- the unknowns of the listed nodes, by the new numbers of the nodes: the first listed has the number 1
unfoldable pub order_unknowns : Graph → List ℕ → List ℕ → Graph
order_unknowns g counts order = in_unknowns (in_order g order) (counts_in counts order)

-- the unknowns by the new numbers of a numbering
unfoldable pub renumbered_unknowns : Graph → List ℕ → List ℕ → Graph
renumbered_unknowns g counts x = order_unknowns g counts (order_of x)

-- ---- levels in unknowns

-- the number of unknowns in level i of levels by old number
unfoldable pub unknowns_at : Graph → List ℕ → List ℕ → ℕ → ℕ
unknowns_at g counts ls i = sum (map (λ z. cond (eqb (of_node ls z) i) (of_node counts z) 0) (nodes g))

-- "the w of the run, of A.3's call and of the part report is the greatest number of unknowns in a level", of the levels 1..k
unfoldable pub unknown_width : Graph → List ℕ → ℕ → List ℕ → ℕ
unknown_width g counts k ls = greatest (map (unknowns_at g counts ls) (up_from 1 k))
