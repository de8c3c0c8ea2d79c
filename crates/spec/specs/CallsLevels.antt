-- The calls of the library `levels`, and the adjacency test (document 01, "Lent buffers" and its table): what each answers, and what every
-- lent buffer holds afterwards, from the call's arguments and the buffers' contents before it. The two lists are only read.
-- Assumes nothing.
use Rattle.std.specs.Prelude.{ℕ, ◌*◌, ◌||◌, List, eqb}
use Rattle.spec.specs.Refusal.{refuse, ◌or_else◌}
use Rattle.spec.specs.Lent.{Outcome, outcome, filled, scratch_after, words_per_node, short}
use Rattle.spec.specs.Graph.{Graph, graph_of, graph_refusal, size_of, outside}
use Rattle.spec.specs.Levels.{levels, level_list, size_list, depth, width, reached}
use Rattle.spec.specs.Ends.{Ends, ends}
use Rattle.spec.specs.Combined.{combined, width_of}

-- ---- the adjacency test, a call of our own: nothing is lent

-- 1 to 4; where none refuses there is nothing more to say
unfoldable pub adjacency_answer : List ℕ → List ℕ → Outcome (Unit {0})
adjacency_answer starts neighbours = outcome (graph_refusal starts neighbours) tt

-- ---- rooted levels: a root is given, levels n and sizes n are lent

-- "Depth, width and the count reached are returned"
pub record LevelFigures : Type 0 where
  pub depth : ℕ
  pub width : ℕ
  pub reached : ℕ

-- the three of these levels
unfoldable pub level_figures : List (List ℕ) → LevelFigures
level_figures ls = record { depth = depth ls; width = width ls; reached = reached ls }

module _ (starts neighbours : List ℕ) (root : ℕ) (levelsBuffer sizesBuffer : List ℕ) where
  -- 1 to 4, then 5, then 6. "Refusal 5 now covers the list too" (document 02, A.2)
  unfoldable pub rooted_refusal : ℕ
  rooted_refusal =
      graph_refusal starts neighbours
      or_else refuse (short levelsBuffer (size_of starts) || short sizesBuffer (size_of starts)) 5
      or_else refuse (outside (size_of starts) root) 6

  -- what the call answers
  unfoldable pub rooted_answer : Outcome LevelFigures
  rooted_answer = outcome rooted_refusal (level_figures (levels (graph_of starts neighbours) root))

  -- the levels afterwards: "Nodes outside the root's part get 0"
  unfoldable pub rooted_levels : List ℕ
  rooted_levels = let g : Graph = graph_of starts neighbours in filled rooted_refusal (level_list g (levels g root)) levelsBuffer

  -- the sizes afterwards: "The rooted level call also fills a lent list of n words with the size of each level"
  unfoldable pub rooted_sizes : List ℕ
  rooted_sizes = let g : Graph = graph_of starts neighbours in filled rooted_refusal (size_list g (levels g root)) sizesBuffer

-- ---- the calls on one part: "each given any node of the part", scratch 6n is lent

-- the scratch after a call that refuses by code, 0 for accepted
unfoldable pub part_scratch : ℕ → List ℕ → List ℕ → List ℕ
part_scratch code starts scratch = scratch_after (eqb code 0) (words_per_node * size_of starts) scratch

module _ (starts neighbours : List ℕ) (node : ℕ) (scratch : List ℕ) where
  -- 1 to 4, then 5, then 6
  unfoldable pub part_refusal : ℕ
  part_refusal =
      graph_refusal starts neighbours
      or_else refuse (short scratch (words_per_node * size_of starts)) 5
      or_else refuse (outside (size_of starts) node) 6

  -- what the end search answers: v and u as the search names them, before any change of names
  unfoldable pub ends_answer : Outcome Ends
  ends_answer = outcome part_refusal (ends (graph_of starts neighbours) node)

  -- the scratch after the end search
  unfoldable pub ends_scratch : List ℕ
  ends_scratch = part_scratch part_refusal starts scratch

-- ---- combined levels: any node of the part is given, levels n and scratch 6n are lent

-- "The call returns k and the greatest level count"
pub record CombinedFigures : Type 0 where
  pub k : ℕ
  pub width : ℕ

-- the two of the part with these ends
unfoldable pub combined_figures : Graph → Ends → CombinedFigures
combined_figures g e = record { k = e.k; width = width_of e.k (combined g e) }

module _ (starts neighbours : List ℕ) (node : ℕ) (levelsBuffer scratch : List ℕ) where
  -- 1 to 4, then 5 for either buffer, then 6
  unfoldable pub combined_refusal : ℕ
  combined_refusal =
      graph_refusal starts neighbours
      or_else refuse (short levelsBuffer (size_of starts) || short scratch (words_per_node * size_of starts)) 5
      or_else refuse (outside (size_of starts) node) 6

  -- what the call answers
  unfoldable pub combined_answer : Outcome CombinedFigures
  combined_answer = let g : Graph = graph_of starts neighbours in outcome combined_refusal (combined_figures g (ends g node))

  -- the levels afterwards, before any change of names: "other parts get 0"
  unfoldable pub combined_levels : List ℕ
  combined_levels = let g : Graph = graph_of starts neighbours in filled combined_refusal (combined g (ends g node)) levelsBuffer

  -- the scratch afterwards
  unfoldable pub combined_scratch : List ℕ
  combined_scratch = part_scratch combined_refusal starts scratch
