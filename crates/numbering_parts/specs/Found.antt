-- The parts found so far, as a walk over the nodes meets their lowest nodes. Assumes nothing.
use Rattle.std.specs.Prelude.{◌≡◌, true, List, ◌++◌, map, ℕ, ◌+◌, ◌-◌, ◌≤◌, length, replicate}
use Rattle.basis.specs.Lists.{filterb, join_all, up_from}
use Rattle.spec.specs.Graph.{Graph, of_node, size_of, graph_of, graph_refusal}
use Rattle.spec.specs.Levels.{level_list, part, leads}
use Rattle.numbering_parts.specs.Labels.{begins}

-- the parts whose lowest node is at most p
unfoldable pub parts_to : Graph → ℕ → List (List ℕ)
parts_to g p = map (part g) (filterb (leads g) (up_from 1 p))

-- After node p: m parts with a nodes. The 4n words W are the search's, which are 0; the labels, where a node's label is the number of its
-- part, as a level is the number of its level; and the begins of the parts.
pub record Led (S N : List ℕ) (p m a : ℕ) (W : List ℕ) : Type 0 where
  pub legal : graph_refusal S N ≡ 0
  pub count : m ≡ length (parts_to (graph_of S N) p)
  pub filled : a ≡ length (join_all (parts_to (graph_of S N) p))
  pub words : W
      ≡ replicate (size_of S + size_of S) 0
      ++ (level_list (graph_of S N) (parts_to (graph_of S N) p) ++ (begins 0 (parts_to (graph_of S N) p) ++ replicate (size_of S - m) 0))

-- the lowest node of each part, as far as p, has the part's size in X
pub record Sized (g : Graph) (p : ℕ) (X : List ℕ) : Type 0 where
  pub room : length X ≡ g.size
  pub each : (z : ℕ) → 1 ≤ z → z ≤ p → leads g z ≡ true → of_node X z ≡ length (part g z)
