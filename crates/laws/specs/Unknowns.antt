-- Unknowns per node, as the laws and the code count them: node by node. Assumes nothing.
use Rattle.std.specs.Prelude.{◌≡◌, true, ◌&&◌, List, map, ℕ, zero, suc, ◌+◌, ◌-◌, ◌*◌, ◌≤◌, ◌<◌, length, get_or, take, leb, ltb}
use Rattle.basis.specs.Lists.{bit, up_from, sum}
use Rattle.spec.specs.Graph.{Graph, nodes, adjoins, of_node}
use Rattle.spec.specs.Measures.{first_in}
use Rattle.spec.specs.Store.{start_of, marks}
use Rattle.spec.specs.Unknowns.{in_unknowns}

-- how many unknowns stand before those of node q: its first unknown has the number after that, U_q
unfoldable pub unknowns_before : List ℕ → ℕ → ℕ
unknowns_before counts q = sum (take (q - 1) counts)

-- a count for each of n nodes, none of them 0
pub record Counted (n : ℕ) (cs : List ℕ) : Type 0 where
  pub size : length cs ≡ n
  pub some : (q : ℕ) → 1 ≤ q → q ≤ n → 1 ≤ of_node cs q

-- x is one of the unknowns of node q
pub record Owns (cs : List ℕ) (q x : ℕ) : Type 0 where
  pub low : 1 ≤ q
  pub high : q ≤ length cs
  pub after : unknowns_before cs q < x
  pub upto : x ≤ unknowns_before cs q + of_node cs q

-- c (c − 1) / 2: the pairs of c unknowns
abbrev pub triangle : ℕ → ℕ
triangle zero = 0
triangle (suc c) = triangle c + c

-- how far below the diagonal the last unknown of node q reaches
unfoldable pub node_reach : Graph → List ℕ → ℕ → ℕ
node_reach h cs q = unknowns_before cs q + of_node cs q - suc (unknowns_before cs (first_in h q))

-- how far all unknowns of node q reach together: the node's share of the profile
unfoldable pub node_span : Graph → List ℕ → ℕ → ℕ
node_span h cs q = of_node cs q * (unknowns_before cs q - unknowns_before cs (first_in h q)) + triangle (of_node cs q)

-- the unknowns of the nodes in the front at q
unfoldable pub node_front : Graph → List ℕ → ℕ → ℕ
node_front h cs q = sum (map (λ r. bit (leb (first_in h r) q && leb q r) * of_node cs r) (up_from 1 (length cs)))

-- how many unknowns the first a nodes of an order have
unfoldable pub ahead : List ℕ → List ℕ → ℕ → ℕ
ahead counts o a = sum (map (of_node counts) (take a o))

-- an edge between listed nodes reaches less than d unknowns, from the first unknown of one to the last of the other; and so does a node alone
pub record Reaches (g : Graph) (counts o : List ℕ) (d : ℕ) : Type 0 where
  pub near : (a b : ℕ) → a < length o → b < length o → adjoins g (get_or o a 0) (get_or o b 0) ≡ true
      → ahead counts o b + of_node counts (get_or o b 0) ≤ ahead counts o a + d
  pub own : (a : ℕ) → a < length o → of_node counts (get_or o a 0) ≤ d

-- where the rows of node q's unknowns start in the store
unfoldable pub node_start : Graph → List ℕ → ℕ → ℕ
node_start h cs q = sum (map (node_span h cs) (up_from 1 (q - 1)))

-- how many unknowns the envelope of node q holds before its own
unfoldable pub node_width : Graph → List ℕ → ℕ → ℕ
node_width h cs q = unknowns_before cs q - unknowns_before cs (first_in h q)

-- the unknowns of the lower neighbours of node q
unfoldable pub lower_unknowns : Graph → List ℕ → ℕ → ℕ
lower_unknowns h cs q = sum (map (λ p. bit (ltb p q) * of_node cs p) (h.row q))

-- the pairs of unknowns that are joined at first: for each node those with its lower neighbours, and its own
unfoldable pub unknown_edges : Graph → List ℕ → ℕ
unknown_edges h cs = sum (map (λ q. of_node cs q * lower_unknowns h cs q + triangle (of_node cs q)) (nodes h))

-- ---- spreading the marks of nodes over their unknowns, in place, from the last row to the first. m is the marks as they stand, by place

-- the rows of the nodes after q are spread: below stand the marks of nodes, then zeros, then the marks of unknowns
pub record Spread (h : Graph) (cs : List ℕ) (q : ℕ) (m : ℕ → ℕ) : Type 0 where
  pub nodes-below : (t : ℕ) → t < start_of h (suc q) → m t ≡ get_or (marks h) t 0
  pub between : (t : ℕ) → start_of h (suc q) ≤ t → t < node_start h cs (suc q) → m t ≡ 0
  pub above : (t : ℕ) → node_start h cs (suc q) ≤ t → m t ≡ get_or (marks (in_unknowns h cs)) t 0

-- what is done with row q: its marks go to their blocks, its own pairs are marked, and what is left of the row is 0
pub record SpreadRow (h : Graph) (cs : List ℕ) (q : ℕ) (m m' : ℕ → ℕ) : Type 0 where
  pub lower : (t : ℕ) → t < start_of h q → m' t ≡ m t
  pub left : (t : ℕ) → start_of h q ≤ t → t < node_start h cs q → m' t ≡ 0
  pub blocks : (p x j : ℕ) → Owns cs p x → first_in h q ≤ p → p < q → j < of_node cs q
      → m' (node_start h cs q + (j * node_width h cs q + triangle j) + (x - suc (unknowns_before cs (first_in h q)))) ≡ m (start_of h q + (p - first_in h q))
  pub own : (i j : ℕ) → i < j → j < of_node cs q → m' (node_start h cs q + (j * node_width h cs q + triangle j) + (node_width h cs q + i)) ≡ 1
  pub higher : (t : ℕ) → node_start h cs (suc q) ≤ t → m' t ≡ m t
