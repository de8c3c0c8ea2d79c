-- The starred rows of document 01's bracket table, all as one table, and the program's sample: each holds by computation.
-- Assumes nothing.
use Prim.Native.Nat.{ℕ}
use mathlib.Core.Path.{◌≡◌, refl}
use mathlib.Core.List.{List, [], ◌∷◌}
use Rattle.spec.specs.Graph.{graph_of}
use Rattle.spec.specs.Measures.{in_order, profile, fronts}
use Rattle.spec.specs.Numbering.{Reversed}
use Rattle.spec.specs.Text.{ascii}
use Rattle.spec.specs.File.{program_output}
use Rattle.spec.specs.Lent.{refused, accepted}
use Rattle.spec.proofs.Compute.{computes}
use Rattle.spec.proofs.Called.{Lists, numbers_for, levels_for, figures_for, rooted_for, report_for, measures_for, elimination_for, bytes_for, seven, passes_for}

-- one node
one : Lists
one = record { starts = 0 ∷ 0 ∷ []; neighbours = [] }

-- two isolated nodes
isolated : Lists
isolated = record { starts = 0 ∷ 0 ∷ 0 ∷ []; neighbours = [] }

-- 1-2-3
triangle : Lists
triangle = record { starts = 0 ∷ 2 ∷ 4 ∷ 6 ∷ []; neighbours = 2 ∷ 3 ∷ 1 ∷ 3 ∷ 1 ∷ 2 ∷ [] }

-- centre 1, leaves 2, 3, 4
star : Lists
star = record { starts = 0 ∷ 3 ∷ 4 ∷ 5 ∷ 6 ∷ []; neighbours = 2 ∷ 3 ∷ 4 ∷ 1 ∷ 1 ∷ 1 ∷ [] }

-- 1-2-3-4-1
ring : Lists
ring = record { starts = 0 ∷ 2 ∷ 4 ∷ 6 ∷ 8 ∷ []; neighbours = 2 ∷ 4 ∷ 1 ∷ 3 ∷ 2 ∷ 4 ∷ 1 ∷ 3 ∷ [] }

-- edges 1-2, 1-4, 2-3, 3-5
path : Lists
path = record { starts = 0 ∷ 2 ∷ 4 ∷ 6 ∷ 7 ∷ 8 ∷ []; neighbours = 2 ∷ 4 ∷ 1 ∷ 3 ∷ 2 ∷ 5 ∷ 1 ∷ 3 ∷ [] }

-- rows {2}, {}
unpaired : Lists
unpaired = record { starts = 0 ∷ 1 ∷ 1 ∷ []; neighbours = 2 ∷ [] }

-- the file of the sample: GRD, version 1, 5 nodes, 4 elements, bars 1-2, 1-4, 2-3, 3-5
sample : List ℕ
sample =
    71 ∷ 82 ∷ 68 ∷ 1 ∷ 0 ∷ 5 ∷ 0 ∷ 4 ∷ 0
    ∷ 1 ∷ 0 ∷ 1 ∷ 0 ∷ 2 ∷ 0
    ∷ 1 ∷ 0 ∷ 1 ∷ 0 ∷ 4 ∷ 0
    ∷ 1 ∷ 0 ∷ 2 ∷ 0 ∷ 3 ∷ 0
    ∷ 1 ∷ 0 ∷ 3 ∷ 0 ∷ 5 ∷ 0
    ∷ []

-- the file of the two isolated nodes: GRD, version 1, 2 nodes, no element
isolated_file : List ℕ
isolated_file = 71 ∷ 82 ∷ 68 ∷ 1 ∷ 0 ∷ 2 ∷ 0 ∷ 0 ∷ 0 ∷ []

-- the rows; the figures stand in the order of the program's first line
record BracketTable : Type 0 where
  -- One node: number 1, bandwidth 0, profile 0, front 1
  one_numbers : numbers_for one ≡ 1 ∷ []
  one_figures : figures_for one ≡ seven 1 1 0 0 1 1 1
  -- Two isolated nodes: numbers 1, 2; two parts; passes 1, 1 (document 02, A.9)
  isolated_numbers : numbers_for isolated ≡ 1 ∷ 2 ∷ []
  isolated_figures : figures_for isolated ≡ seven 2 2 0 0 1 2 1
  isolated_passes : passes_for isolated ≡ 1 ∷ 1 ∷ []
  -- Triangle 1-2-3: levels 1, 2, 2; numbers 1, 2, 3; bandwidth 2, profile 3, front 3
  triangle-levels : levels_for triangle ≡ 1 ∷ 2 ∷ 2 ∷ []
  triangle_numbers : numbers_for triangle ≡ 1 ∷ 2 ∷ 3 ∷ []
  triangle_figures : figures_for triangle ≡ seven 3 1 2 3 3 2 2
  -- Star, centre 1, leaves 2, 3, 4: levels 2, 1, 3, 3; numbers 3, 4, 2, 1, Reversed (4 falls to 3); bandwidth 2, front 2
  star_levels : levels_for star ≡ 2 ∷ 1 ∷ 3 ∷ 3 ∷ []
  star_numbers : numbers_for star ≡ 3 ∷ 4 ∷ 2 ∷ 1 ∷ []
  star_report : report_for star 1 ≡ accepted (record { v = 2; u = 3; k = 3; width = 2; passes = 1; direction = Reversed })
  star_forward : profile (in_order (graph_of star.starts star.neighbours) (2 ∷ 1 ∷ 3 ∷ 4 ∷ [])) ≡ 4
  star_figures : figures_for star ≡ seven 4 1 2 3 2 3 2
  -- Ring 1-2-3-4-1: levels 1, 2, 3, 2; numbers 1, 2, 4, 3; bandwidth 2, profile 5; marks 5, new 1
  ring_levels : levels_for ring ≡ 1 ∷ 2 ∷ 3 ∷ 2 ∷ []
  ring_numbers : numbers_for ring ≡ 1 ∷ 2 ∷ 4 ∷ 3 ∷ []
  ring_figures : figures_for ring ≡ seven 4 1 2 5 3 3 2
  ring_marks : elimination_for ring (1 ∷ 2 ∷ 4 ∷ 3 ∷ []) 1 ≡ accepted (record { marked = 5; new = 1 })
  ring_bytes : bytes_for ring (1 ∷ 2 ∷ 4 ∷ 3 ∷ []) 2 ≡ 31 ∷ 9 ∷ []
  -- Edges 1-2, 1-4, 2-3, 3-5 under numbers 1 to 5: bandwidth 3, profile 7, fronts 3, 3, 3, 2, 1
  path_measures : measures_for path (1 ∷ 2 ∷ 3 ∷ 4 ∷ 5 ∷ []) ≡ accepted (record { bandwidth = 3; profile = 7; front = 3 })
  path-fronts : fronts (graph_of path.starts path.neighbours) ≡ 3 ∷ 3 ∷ 3 ∷ 2 ∷ 1 ∷ []
  -- Numbering 1, 1 of two nodes: 7
  repeated_number : measures_for isolated (1 ∷ 1 ∷ []) ≡ refused 7
  repeated_number_elimination : elimination_for isolated (1 ∷ 1 ∷ []) 1 ≡ refused 7
  -- Rows {2}, {}: 4
  unpaired_run : figures_for unpaired ≡ refused 4
  unpaired_numbers : numbers_for unpaired ≡ 9 ∷ 9 ∷ []
  -- Root 0: 6
  root_zero : rooted_for triangle 0 ≡ refused 6
  -- the program's sample
  sample_output : program_output sample ≡ ascii "nodes 5 parts 1 bandwidth 1 profile 4 front 2 levels 5 width 1 passes 1\n1 2 2\n2 3 3\n3 4 4\n4 1 1\n5 5 5\n"
  -- "prints their sum under the old label" (document 02, A.9)
  isolated_output : program_output isolated_file ≡ ascii "nodes 2 parts 2 bandwidth 0 profile 0 front 1 levels 2 width 1 passes 2\n1 1 1\n2 2 1\n"

-- the whole table
bracket_table : BracketTable
unfolding computes one isolated triangle star ring path unpaired sample isolated_file
bracket_table = record {
  one_numbers = refl;
  one_figures = refl;
  isolated_numbers = refl;
  isolated_figures = refl;
  isolated_passes = refl;
  triangle-levels = refl;
  triangle_numbers = refl;
  triangle_figures = refl;
  star_levels = refl;
  star_numbers = refl;
  star_report = refl;
  star_forward = refl;
  star_figures = refl;
  ring_levels = refl;
  ring_numbers = refl;
  ring_figures = refl;
  ring_marks = refl;
  ring_bytes = refl;
  path_measures = refl;
  path-fronts = refl;
  repeated_number = refl;
  repeated_number_elimination = refl;
  unpaired_run = refl;
  unpaired_numbers = refl;
  root_zero = refl;
  sample_output = refl;
  isolated_output = refl;
}
