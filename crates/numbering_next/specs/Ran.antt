-- How far a numbering is after some parts, and at its end. Assumes nothing.
use Rattle.std.specs.Prelude.{◌≡◌, true, false, List, ◌++◌, map, ℕ, suc, ◌+◌, ◌*◌, ◌≤◌, max, length, take, drop, replicate}
use Rattle.std.proofs.Math.Seq.{slice}
use Rattle.basis.specs.Lists.{join_all, memb, greatest, sum, position}
use Rattle.spec.specs.Graph.{Graph, graph_of, size_of, graph_refusal, of_node}
use Rattle.spec.specs.Levels.{part, leaders, parts}
use Rattle.spec.specs.Numbering.{PartResult, Figures, whole_order, whole_levels, part_passes}
use Rattle.spec.specs.Unknowns.{bad_counts}
use Rattle.laws.specs.Legal.{Node}
use Rattle.laws.specs.Scratch.{members_area, tally_area, areas_end}
use Rattle.numbering_parts.specs.Walked.{Walked}
use Rattle.numbering_part.specs.declared.shape.PartFigures.{PartFigures}
use Rattle.numbering_next.specs.Orders.{result_of}
use Rattle.numbering_next.specs.declared.shape.Tally.{Tally}
use Rattle.numbering_next.specs.declared.order.Order.{Order}

-- of the results of the parts, those of the first j parts
abbrev pub found_to : Graph → (ℕ → PartResult) → ℕ → List PartResult
found_to g results j = map results (take j (leaders g))

-- what is found of them in this order
abbrev pub so_far : Order → List ℕ → List ℕ → List ℕ → ℕ → List PartResult
so_far order S N K j = found_to (graph_of S N) (result_of order (graph_of S N) K) j

-- After j parts with a nodes, in this order: K are the counts of unknowns, X and L are the numbers and the levels by old number, P the passes of each part, W the scratch with
-- the members of all parts in their area and zeros in the areas before and behind, and k and w what is summed up. The nodes of later parts have
-- level 0; in place of their numbers the lowest node of each has the part's size.
pub record Ran (order : Order) (S N K : List ℕ) (j a k w : ℕ) (X L P W : List ℕ) : Type 0 where
  pub legal : graph_refusal S N ≡ 0
  pub counted : bad_counts (size_of S) K ≡ false
  pub walked : Walked (graph_of S N) j a
  pub room : length X ≡ size_of S
  pub numbers : (q : ℕ) → Node (graph_of S N) q → memb q (whole_order (so_far order S N K j)) ≡ true
      → of_node X q ≡ suc (position q (whole_order (so_far order S N K j)))
  pub sizes : (z : ℕ) → memb z (drop j (leaders (graph_of S N))) ≡ true → of_node X z ≡ length (part (graph_of S N) z)
  pub levels : L ≡ whole_levels (graph_of S N) (so_far order S N K j)
  pub depths : k ≡ sum (map (λ r. r.report.k) (so_far order S N K j))
  pub widest : w ≡ greatest (map (λ r. r.report.width) (so_far order S N K j))
  pub passes : P ≡ part_passes (graph_of S N) (so_far order S N K j)
  pub few_levels : k ≤ 4096 * j
  pub words : W ≡ replicate (members_area (size_of S)) 0 ++ (join_all (parts (graph_of S N)) ++ drop (tally_area (size_of S)) W)
  pub full : areas_end (size_of S) ≤ length W
  pub blank : slice (tally_area (size_of S)) (areas_end (size_of S)) W ≡ replicate (size_of S) 0

-- what is summed up, with one part of m nodes more
abbrev pub added : Tally → ℕ → PartFigures → Tally
added t m f = record {
  parts = t.parts + 1;
  nodes = t.nodes + m;
  levels = t.levels + f.k;
  width = max t.width f.width;
}

-- what is summed up is that of the figures
pub record Summed (F : Figures) (parts nodes levels width : ℕ) : Type 0 where
  pub parts_are : parts ≡ F.parts
  pub nodes_are : nodes ≡ F.nodes
  pub levels_are : levels ≡ F.levels
  pub width_is : width ≡ F.width
