-- The mesh call (document 01, "Lent buffers" and its table): n and the element words are given, starts n + 1, neighbours 32,768 and scratch n
-- are lent.
-- Assumes nothing.
use Rattle.std.specs.Prelude.{ℕ, suc, ◌||◌, List, length, eqb}
use Rattle.spec.specs.Refusal.{refuse, ◌or_else◌}
use Rattle.spec.specs.Lent.{Outcome, outcome, filled, scratch_after, short}
use Rattle.spec.specs.Graph.{Graph, bad_size, max_entries}
use Rattle.spec.specs.Mesh.{elements_refusal, elements, mesh_graph, entry_count, start_list, neighbour_list, refuses11}

-- the graph of n nodes and these element words
unfoldable pub graph_of_elements : ℕ → List ℕ → Graph
graph_of_elements n ws = mesh_graph n (elements ws)

module _ (n : ℕ) (ws startsBuffer neighboursBuffer scratch : List ℕ) where
  -- 1, then 5 for any of the three buffers, then 9 and 10 element by element, then 11
  unfoldable pub mesh_refusal : ℕ
  mesh_refusal =
      refuse (bad_size n) 1
      or_else refuse (short startsBuffer (suc n) || short neighboursBuffer max_entries || short scratch n) 5
      or_else elements_refusal (length ws) n ws
      or_else refuse (refuses11 (graph_of_elements n ws)) 11

  -- "the mesh call the entry count"
  unfoldable pub mesh_answer : Outcome ℕ
  mesh_answer = outcome mesh_refusal (entry_count (graph_of_elements n ws))

  -- the starts afterwards
  unfoldable pub mesh_starts : List ℕ
  mesh_starts = filled mesh_refusal (start_list (graph_of_elements n ws)) startsBuffer

  -- the neighbours afterwards: "Neighbour words past the last used are untouched"
  unfoldable pub mesh_neighbours : List ℕ
  mesh_neighbours = filled mesh_refusal (neighbour_list (graph_of_elements n ws)) neighboursBuffer

  -- the scratch afterwards: accepted, and by 11, "the n scratch words 0"
  unfoldable pub mesh_scratch : List ℕ
  mesh_scratch = scratch_after (eqb mesh_refusal 0 || eqb mesh_refusal 11) n scratch
