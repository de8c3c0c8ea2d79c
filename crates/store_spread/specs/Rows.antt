-- What is spread, row by row. Assumes nothing.
use Rattle.std.specs.Prelude.{◌≡◌, true, false, List, ℕ, suc, ◌+◌, ◌-◌, ◌≤◌, ◌<◌, length}
use Rattle.spec.specs.Graph.{Graph, of_node, size_of, graph_of}
use Rattle.spec.specs.Measures.{is_numbering, order_of, renumbered, first_in}
use Rattle.spec.specs.Store.{start_of, mark_at}
use Rattle.spec.specs.Unknowns.{bad_counts, counts_in}
use Rattle.laws.specs.Legal.{LegalGraph, Starts}
use Rattle.laws.specs.Unknowns.{unknowns_before, node_start, node_width}
use Rattle.store_spread.specs.declared.legal.Row.{Row}
use Rattle.store_spread.specs.declared.legal.Ends.{Ends}

-- o lists nodes, few, each with a count from 1 to 6 in K
pub record Listed (K o : List ℕ) : Type 0 where
  pub few : length o ≤ 4096
  pub low : (p : ℕ) → 1 ≤ p → p ≤ length o → 1 ≤ of_node o p
  pub high : (p : ℕ) → 1 ≤ p → p ≤ length o → of_node o p ≤ length K
  pub some : (p : ℕ) → 1 ≤ p → p ≤ length o → 1 ≤ of_node (counts_in K o) p
  pub most : (p : ℕ) → 1 ≤ p → p ≤ length o → of_node (counts_in K o) p ≤ 6

-- how many unknowns the nodes f .. r − 1 have
abbrev pub offset : List ℕ → ℕ → ℕ → ℕ
offset cs f r = unknowns_before cs r - unknowns_before cs f

-- the nodes f .. q − 1 have w unknowns, and their marks are to move from place s to no earlier place t
pub record Ahead (cs : List ℕ) (f q w s t : ℕ) : Type 0 where
  pub low : 1 ≤ f
  pub upto : f ≤ q
  pub high : q ≤ length cs
  pub wide : w ≡ offset cs f q
  pub later : s ≤ t
  -- no node is without unknowns
  pub some : (p : ℕ) → f ≤ p → p ≤ q → p - f ≤ offset cs f p

-- the marks of the nodes p .. q − 1 stand from place t on, each as often as its node has unknowns; those of f .. p − 1 where they were, from place s on;
-- and between is nothing
pub record Expanded (cs : List ℕ) (f q s t p : ℕ) (l l' : List ℕ) : Type 0 where
  pub size : length l' ≡ length l
  pub below : (u : ℕ) → u < s + (p - f) → mark_at l' u ≡ mark_at l u
  pub left : (u : ℕ) → s + (p - f) ≤ u → u < t + offset cs f p → mark_at l' u ≡ 0
  pub here : (r u : ℕ) → p ≤ r → r < q → t + offset cs f r ≤ u → u < t + offset cs f (suc r) → mark_at l' u ≡ mark_at l (s + (r - f))
  pub above : (u : ℕ) → t + offset cs f q ≤ u → mark_at l' u ≡ mark_at l u

-- ---- of a graph h with the counts cs

-- the row of number q
abbrev pub row_at : Graph → List ℕ → ℕ → Row
row_at h cs q = record { q = q; first = first_in h q; count = of_node cs q; width = node_width h cs q; source = start_of h q; start = node_start h cs q }

-- the places of the rows up to q end so
pub record EndsAt (h : Graph) (cs : List ℕ) (q : ℕ) (ends : Ends) : Type 0 where
  pub nodes : ends.nodes ≡ start_of h (suc q)
  pub unknowns : ends.unknowns ≡ node_start h cs (suc q)

-- ---- of two lists, a numbering, its order and counts

-- the two lists S and N are a legal graph, x numbers its nodes, o has them in that order, and K their counts
pub record Given (S N x K o : List ℕ) : Type 0 where
  pub starts : Starts S N
  pub graph : LegalGraph (graph_of S N)
  pub numbering : is_numbering (size_of S) x ≡ true
  pub counts : bad_counts (size_of S) K ≡ false
  pub order : o ≡ order_of x

-- the graph by its new numbers
abbrev pub new_graph : List ℕ → List ℕ → List ℕ → Graph
new_graph S N x = renumbered (graph_of S N) x

-- and its counts
abbrev pub new_counts : List ℕ → List ℕ → List ℕ
new_counts K x = counts_in K (order_of x)
