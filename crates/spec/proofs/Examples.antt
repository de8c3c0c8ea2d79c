-- A second table by computation: graphs chosen so that each slip of document 01 and each tie rule shows, the passes of each part, reverse
-- Cuthill-McKee, the order of the refusals, the sizes of levels, and elements that have a node more than once.
-- Made by tests/definitions/examples.py: every expected value is the independent program's, tests/reference. Assumes nothing.
use Prim.Native.Nat.{ℕ, ◌*◌}
use mathlib.Core.Path.{◌≡◌, refl}
use mathlib.Core.List.{List, [], ◌∷◌, ◌++◌}
use lib.ListN.{replicate}
use Rattle.spec.specs.Graph.{size_of}
use Rattle.spec.specs.Ends.{Ends}
use Rattle.spec.specs.Numbering.{Forward, Reversed, PartReport, Figures}
use Rattle.spec.specs.Lent.{Outcome, accepted}
use Rattle.spec.specs.Unknowns.{ones}
use Rattle.spec.specs.Mesh.{start_list, neighbour_list}
use Rattle.spec.specs.File.{file_graph, file_refusal}
use Rattle.spec.specs.CallsLevels.{CombinedFigures, adjacency_answer, rooted_answer, rooted_sizes, ends_answer}
use Rattle.spec.specs.CallsNumbering.{run_answer, run_passes, measures_answer}
use Rattle.spec.specs.CallsCuthill.{cuthill_answer, cuthill_numbers, cuthill_levels, cuthill_passes}
use Rattle.spec.specs.CallsStore.{EliminationFigures, elimination_answer}
use Rattle.spec.proofs.Compute.{computes}
use Rattle.spec.proofs.Called.{Lists, number_of, numbers_for, levels_for, passes_for, figures_for}
use Rattle.spec.proofs.Called.{ends_for, combined_for, thickness_for, report_for, elimination_for, bytes_for}

-- what the calls say of a graph and of the part of node 1; the elimination is handed the run's numbers and four bytes
record Found : Type 0 where
  ends : Outcome Ends
  combined : List ℕ
  thickness : Outcome CombinedFigures
  report : Outcome PartReport
  levels : List ℕ
  numbers : List ℕ
  passes : List ℕ
  figures : Outcome Figures
  marks : Outcome EliminationFigures
  bytes : List ℕ

found : Lists → Found
found l = record {
  ends = ends_for l 1;
  combined = combined_for l 1;
  thickness = thickness_for l 1;
  report = report_for l 1;
  levels = levels_for l;
  numbers = numbers_for l;
  passes = passes_for l;
  figures = figures_for l;
  marks = elimination_for l (numbers_for l) 4;
  bytes = bytes_for l (numbers_for l) 4;
}

-- what reverse Cuthill-McKee says of a graph, with just enough lent
record Ordered : Type 0 where
  levels : List ℕ
  numbers : List ℕ
  passes : List ℕ
  figures : Outcome Figures

ordered : List ℕ → List ℕ → Ordered
ordered S N =
    let c : List ℕ = ones (size_of S) in
    let w : List ℕ = replicate (size_of S) 9 in
    let x : List ℕ = replicate (6 * size_of S) 9 in
    record {
      levels = cuthill_levels S N c w w w x;
      numbers = cuthill_numbers S N c w w w x;
      passes = cuthill_passes S N c w w w x;
      figures = cuthill_answer S N c w w w x;
    }

-- what the adjacency test, rooted levels, ends, run, reverse Cuthill-McKee, measures and elimination refuse by, with so many words lent for each
-- node and no mark byte
refusals : List ℕ → List ℕ → ℕ → List ℕ → ℕ → List ℕ
refusals S N node x k =
    let c : List ℕ = ones (size_of S) in
    let w : List ℕ = replicate (k * size_of S) 9 in
    number_of (adjacency_answer S N)
    ∷ number_of (rooted_answer S N node w w)
    ∷ number_of (ends_answer S N node w)
    ∷ number_of (run_answer S N c w w w w)
    ∷ number_of (cuthill_answer S N c w w w w)
    ∷ number_of (measures_answer S N c x w)
    ∷ number_of (elimination_answer S N c x w [])
    ∷ []

-- a change of names: u has lower degree than v
names : Lists
names = record {
  starts = 0 ∷ 3 ∷ 5 ∷ 8 ∷ 12 ∷ 16 ∷ 20 ∷ 22 ∷ [];
  neighbours = 4 ∷ 5 ∷ 6 ∷ 5 ∷ 7 ∷ 4 ∷ 6 ∷ 7 ∷ 1 ∷ 3 ∷ 5 ∷ 6 ∷ 1 ∷ 2 ∷ 4 ∷ 6 ∷ 1 ∷ 3 ∷ 4 ∷ 5 ∷ 2 ∷ 3 ∷ [];
}

names_found : Found
names_found = record {
  ends = accepted (record { v = 1; u = 7; k = 4; v_width = 3; u_width = 3; passes = 2 });
  combined = 1 ∷ 3 ∷ 3 ∷ 2 ∷ 2 ∷ 2 ∷ 4 ∷ [];
  thickness = accepted (record { k = 4; width = 3 });
  report = accepted (record { v = 7; u = 1; k = 4; width = 3; passes = 2; direction = Forward });
  levels = 4 ∷ 2 ∷ 2 ∷ 3 ∷ 3 ∷ 3 ∷ 1 ∷ [];
  numbers = 7 ∷ 2 ∷ 3 ∷ 5 ∷ 4 ∷ 6 ∷ 1 ∷ [];
  passes = 2 ∷ 0 ∷ 0 ∷ 0 ∷ 0 ∷ 0 ∷ 0 ∷ [];
  figures = accepted (record { nodes = 7; parts = 1; bandwidth = 3; profile = 13; front = 4; levels = 4; width = 3 });
  marks = accepted (record { marked = 13; new = 2 });
  bytes = 255 ∷ 31 ∷ 9 ∷ 9 ∷ [];
}

names_ordered : Ordered
names_ordered = record {
  levels = 1 ∷ 3 ∷ 3 ∷ 2 ∷ 2 ∷ 2 ∷ 4 ∷ [];
  numbers = 7 ∷ 2 ∷ 3 ∷ 6 ∷ 5 ∷ 4 ∷ 1 ∷ [];
  passes = 2 ∷ 0 ∷ 0 ∷ 0 ∷ 0 ∷ 0 ∷ 0 ∷ [];
  figures = accepted (record { nodes = 7; parts = 1; bandwidth = 3; profile = 13; front = 4; levels = 4; width = 3 });
}

-- a change of names after two passes: the first s deeper than v, not the last
deeper : Lists
deeper = record {
  starts = 0 ∷ 3 ∷ 6 ∷ 7 ∷ 9 ∷ 11 ∷ 13 ∷ 15 ∷ 16 ∷ [];
  neighbours = 3 ∷ 4 ∷ 7 ∷ 4 ∷ 5 ∷ 6 ∷ 1 ∷ 1 ∷ 2 ∷ 2 ∷ 6 ∷ 2 ∷ 5 ∷ 1 ∷ 8 ∷ 7 ∷ [];
}

deeper-found : Found
deeper-found = record {
  ends = accepted (record { v = 5; u = 8; k = 6; v_width = 2; u_width = 2; passes = 2 });
  combined = 4 ∷ 2 ∷ 5 ∷ 3 ∷ 1 ∷ 2 ∷ 5 ∷ 6 ∷ [];
  thickness = accepted (record { k = 6; width = 2 });
  report = accepted (record { v = 8; u = 5; k = 6; width = 2; passes = 2; direction = Forward });
  levels = 3 ∷ 5 ∷ 2 ∷ 4 ∷ 6 ∷ 5 ∷ 2 ∷ 1 ∷ [];
  numbers = 4 ∷ 6 ∷ 3 ∷ 5 ∷ 8 ∷ 7 ∷ 2 ∷ 1 ∷ [];
  passes = 2 ∷ 0 ∷ 0 ∷ 0 ∷ 0 ∷ 0 ∷ 0 ∷ 0 ∷ [];
  figures = accepted (record { nodes = 8; parts = 1; bandwidth = 2; profile = 8; front = 3; levels = 6; width = 2 });
  marks = accepted (record { marked = 8; new = 0 });
  bytes = 255 ∷ 9 ∷ 9 ∷ 9 ∷ [];
}

deeper-ordered : Ordered
deeper-ordered = record {
  levels = 4 ∷ 2 ∷ 5 ∷ 3 ∷ 1 ∷ 2 ∷ 5 ∷ 6 ∷ [];
  numbers = 4 ∷ 6 ∷ 3 ∷ 5 ∷ 8 ∷ 7 ∷ 2 ∷ 1 ∷ [];
  passes = 2 ∷ 0 ∷ 0 ∷ 0 ∷ 0 ∷ 0 ∷ 0 ∷ 0 ∷ [];
  figures = accepted (record { nodes = 8; parts = 1; bandwidth = 2; profile = 8; front = 3; levels = 6; width = 2 });
}

-- three passes
passes : Lists
passes = record {
  starts = 0 ∷ 2 ∷ 4 ∷ 6 ∷ 8 ∷ 10 ∷ 12 ∷ 14 ∷ 17 ∷ 20 ∷ [];
  neighbours = 4 ∷ 9 ∷ 5 ∷ 9 ∷ 4 ∷ 5 ∷ 1 ∷ 3 ∷ 2 ∷ 3 ∷ 7 ∷ 8 ∷ 6 ∷ 8 ∷ 6 ∷ 7 ∷ 9 ∷ 1 ∷ 2 ∷ 8 ∷ [];
}

passes_found : Found
passes_found = record {
  ends = accepted (record { v = 6; u = 3; k = 6; v_width = 2; u_width = 2; passes = 3 });
  combined = 4 ∷ 4 ∷ 6 ∷ 5 ∷ 5 ∷ 1 ∷ 2 ∷ 2 ∷ 3 ∷ [];
  thickness = accepted (record { k = 6; width = 2 });
  report = accepted (record { v = 6; u = 3; k = 6; width = 2; passes = 3; direction = Forward });
  levels = 4 ∷ 4 ∷ 6 ∷ 5 ∷ 5 ∷ 1 ∷ 2 ∷ 2 ∷ 3 ∷ [];
  numbers = 5 ∷ 6 ∷ 9 ∷ 7 ∷ 8 ∷ 1 ∷ 2 ∷ 3 ∷ 4 ∷ [];
  passes = 3 ∷ 0 ∷ 0 ∷ 0 ∷ 0 ∷ 0 ∷ 0 ∷ 0 ∷ 0 ∷ [];
  figures = accepted (record { nodes = 9; parts = 1; bandwidth = 2; profile = 13; front = 3; levels = 6; width = 2 });
  marks = accepted (record { marked = 13; new = 3 });
  bytes = 255 ∷ 31 ∷ 9 ∷ 9 ∷ [];
}

passes_ordered : Ordered
passes_ordered = record {
  levels = 4 ∷ 4 ∷ 6 ∷ 5 ∷ 5 ∷ 1 ∷ 2 ∷ 2 ∷ 3 ∷ [];
  numbers = 5 ∷ 4 ∷ 1 ∷ 3 ∷ 2 ∷ 9 ∷ 8 ∷ 7 ∷ 6 ∷ [];
  passes = 3 ∷ 0 ∷ 0 ∷ 0 ∷ 0 ∷ 0 ∷ 0 ∷ 0 ∷ 0 ∷ [];
  figures = accepted (record { nodes = 9; parts = 1; bandwidth = 2; profile = 13; front = 3; levels = 6; width = 2 });
}

-- S is taken in E, not by number
in_e : Lists
in_e = record {
  starts = 0 ∷ 2 ∷ 4 ∷ 7 ∷ 9 ∷ 10 ∷ 13 ∷ 14 ∷ [];
  neighbours = 6 ∷ 7 ∷ 3 ∷ 4 ∷ 2 ∷ 4 ∷ 6 ∷ 2 ∷ 3 ∷ 6 ∷ 1 ∷ 3 ∷ 5 ∷ 1 ∷ [];
}

in_e_found : Found
in_e_found = record {
  ends = accepted (record { v = 7; u = 2; k = 5; v_width = 2; u_width = 2; passes = 2 });
  combined = 2 ∷ 5 ∷ 4 ∷ 5 ∷ 4 ∷ 3 ∷ 1 ∷ [];
  thickness = accepted (record { k = 5; width = 2 });
  report = accepted (record { v = 7; u = 2; k = 5; width = 2; passes = 2; direction = Reversed });
  levels = 2 ∷ 5 ∷ 4 ∷ 5 ∷ 4 ∷ 3 ∷ 1 ∷ [];
  numbers = 6 ∷ 2 ∷ 3 ∷ 1 ∷ 4 ∷ 5 ∷ 7 ∷ [];
  passes = 2 ∷ 0 ∷ 0 ∷ 0 ∷ 0 ∷ 0 ∷ 0 ∷ [];
  figures = accepted (record { nodes = 7; parts = 1; bandwidth = 2; profile = 7; front = 3; levels = 5; width = 2 });
  marks = accepted (record { marked = 7; new = 0 });
  bytes = 127 ∷ 9 ∷ 9 ∷ 9 ∷ [];
}

in_e_ordered : Ordered
in_e_ordered = record {
  levels = 2 ∷ 5 ∷ 4 ∷ 5 ∷ 4 ∷ 3 ∷ 1 ∷ [];
  numbers = 6 ∷ 2 ∷ 3 ∷ 1 ∷ 4 ∷ 5 ∷ 7 ∷ [];
  passes = 2 ∷ 0 ∷ 0 ∷ 0 ∷ 0 ∷ 0 ∷ 0 ∷ [];
  figures = accepted (record { nodes = 7; parts = 1; bandwidth = 2; profile = 7; front = 3; levels = 5; width = 2 });
}

-- several pieces of equal size: the lowest number first, each against the counts as they then are
equal : Lists
equal = record {
  starts = 0 ∷ 4 ∷ 6 ∷ 7 ∷ 8 ∷ 9 ∷ 10 ∷ [];
  neighbours = 2 ∷ 4 ∷ 5 ∷ 6 ∷ 1 ∷ 3 ∷ 2 ∷ 1 ∷ 1 ∷ 1 ∷ [];
}

equal_found : Found
equal_found = record {
  ends = accepted (record { v = 3; u = 4; k = 4; v_width = 3; u_width = 3; passes = 1 });
  combined = 3 ∷ 2 ∷ 1 ∷ 4 ∷ 4 ∷ 2 ∷ [];
  thickness = accepted (record { k = 4; width = 2 });
  report = accepted (record { v = 3; u = 4; k = 4; width = 2; passes = 1; direction = Forward });
  levels = 3 ∷ 2 ∷ 1 ∷ 4 ∷ 4 ∷ 2 ∷ [];
  numbers = 4 ∷ 2 ∷ 1 ∷ 5 ∷ 6 ∷ 3 ∷ [];
  passes = 1 ∷ 0 ∷ 0 ∷ 0 ∷ 0 ∷ 0 ∷ [];
  figures = accepted (record { nodes = 6; parts = 1; bandwidth = 2; profile = 6; front = 3; levels = 4; width = 2 });
  marks = accepted (record { marked = 6; new = 1 });
  bytes = 63 ∷ 9 ∷ 9 ∷ 9 ∷ [];
}

equal_ordered : Ordered
equal_ordered = record {
  levels = 3 ∷ 2 ∷ 1 ∷ 4 ∷ 4 ∷ 4 ∷ [];
  numbers = 4 ∷ 5 ∷ 6 ∷ 3 ∷ 2 ∷ 1 ∷ [];
  passes = 1 ∷ 0 ∷ 0 ∷ 0 ∷ 0 ∷ 0 ∷ [];
  figures = accepted (record { nodes = 6; parts = 1; bandwidth = 3; profile = 5; front = 2; levels = 4; width = 3 });
}

-- larger pieces first; a second part
larger : Lists
larger = record {
  starts = 0 ∷ 2 ∷ 8 ∷ 9 ∷ 9 ∷ 12 ∷ 15 ∷ 16 ∷ 18 ∷ [];
  neighbours = 2 ∷ 6 ∷ 1 ∷ 3 ∷ 5 ∷ 6 ∷ 7 ∷ 8 ∷ 2 ∷ 2 ∷ 6 ∷ 8 ∷ 1 ∷ 2 ∷ 5 ∷ 2 ∷ 2 ∷ 5 ∷ [];
}

larger-found : Found
larger-found = record {
  ends = accepted (record { v = 3; u = 5; k = 3; v_width = 5; u_width = 3; passes = 1 });
  combined = 1 ∷ 2 ∷ 1 ∷ 0 ∷ 3 ∷ 2 ∷ 3 ∷ 2 ∷ [];
  thickness = accepted (record { k = 3; width = 3 });
  report = accepted (record { v = 3; u = 5; k = 3; width = 3; passes = 1; direction = Forward });
  levels = 1 ∷ 2 ∷ 1 ∷ 1 ∷ 3 ∷ 2 ∷ 3 ∷ 2 ∷ [];
  numbers = 2 ∷ 3 ∷ 1 ∷ 8 ∷ 7 ∷ 4 ∷ 6 ∷ 5 ∷ [];
  passes = 1 ∷ 1 ∷ 0 ∷ 0 ∷ 0 ∷ 0 ∷ 0 ∷ 0 ∷ [];
  figures = accepted (record { nodes = 8; parts = 2; bandwidth = 4; profile = 13; front = 5; levels = 4; width = 3 });
  marks = accepted (record { marked = 13; new = 4 });
  bytes = 255 ∷ 31 ∷ 9 ∷ 9 ∷ [];
}

larger-ordered : Ordered
larger-ordered = record {
  levels = 3 ∷ 2 ∷ 1 ∷ 1 ∷ 3 ∷ 3 ∷ 3 ∷ 3 ∷ [];
  numbers = 4 ∷ 6 ∷ 7 ∷ 8 ∷ 2 ∷ 1 ∷ 5 ∷ 3 ∷ [];
  passes = 1 ∷ 1 ∷ 0 ∷ 0 ∷ 0 ∷ 0 ∷ 0 ∷ 0 ∷ [];
  figures = accepted (record { nodes = 8; parts = 2; bandwidth = 5; profile = 11; front = 4; levels = 4; width = 5 });
}

-- h over the levels that the piece touches
untouched : Lists
untouched = record {
  starts = 0 ∷ 6 ∷ 8 ∷ 9 ∷ 12 ∷ 15 ∷ 17 ∷ 20 ∷ [];
  neighbours = 2 ∷ 3 ∷ 4 ∷ 5 ∷ 6 ∷ 7 ∷ 1 ∷ 4 ∷ 1 ∷ 1 ∷ 2 ∷ 7 ∷ 1 ∷ 6 ∷ 7 ∷ 1 ∷ 5 ∷ 1 ∷ 4 ∷ 5 ∷ [];
}

untouched_found : Found
untouched_found = record {
  ends = accepted (record { v = 3; u = 4; k = 3; v_width = 5; u_width = 3; passes = 1 });
  combined = 2 ∷ 3 ∷ 1 ∷ 3 ∷ 1 ∷ 1 ∷ 2 ∷ [];
  thickness = accepted (record { k = 3; width = 3 });
  report = accepted (record { v = 3; u = 4; k = 3; width = 3; passes = 1; direction = Forward });
  levels = 2 ∷ 3 ∷ 1 ∷ 3 ∷ 1 ∷ 1 ∷ 2 ∷ [];
  numbers = 4 ∷ 6 ∷ 1 ∷ 7 ∷ 3 ∷ 2 ∷ 5 ∷ [];
  passes = 1 ∷ 0 ∷ 0 ∷ 0 ∷ 0 ∷ 0 ∷ 0 ∷ [];
  figures = accepted (record { nodes = 7; parts = 1; bandwidth = 3; profile = 11; front = 4; levels = 3; width = 3 });
  marks = accepted (record { marked = 11; new = 1 });
  bytes = 255 ∷ 7 ∷ 9 ∷ 9 ∷ [];
}

untouched_ordered : Ordered
untouched_ordered = record {
  levels = 2 ∷ 3 ∷ 1 ∷ 3 ∷ 3 ∷ 3 ∷ 3 ∷ [];
  numbers = 6 ∷ 5 ∷ 7 ∷ 3 ∷ 2 ∷ 4 ∷ 1 ∷ [];
  passes = 1 ∷ 0 ∷ 0 ∷ 0 ∷ 0 ∷ 0 ∷ 0 ∷ [];
  figures = accepted (record { nodes = 7; parts = 1; bandwidth = 5; profile = 13; front = 4; levels = 3; width = 5 });
}

-- h and l equal, and u narrower than v: by second numbers
narrower : Lists
narrower = record {
  starts = 0 ∷ 2 ∷ 3 ∷ 7 ∷ 9 ∷ 10 ∷ 12 ∷ [];
  neighbours = 3 ∷ 6 ∷ 4 ∷ 1 ∷ 4 ∷ 5 ∷ 6 ∷ 2 ∷ 3 ∷ 3 ∷ 1 ∷ 3 ∷ [];
}

narrower-found : Found
narrower-found = record {
  ends = accepted (record { v = 2; u = 1; k = 4; v_width = 3; u_width = 2; passes = 1 });
  combined = 4 ∷ 1 ∷ 3 ∷ 2 ∷ 2 ∷ 3 ∷ [];
  thickness = accepted (record { k = 4; width = 2 });
  report = accepted (record { v = 2; u = 1; k = 4; width = 2; passes = 1; direction = Forward });
  levels = 4 ∷ 1 ∷ 3 ∷ 2 ∷ 2 ∷ 3 ∷ [];
  numbers = 6 ∷ 1 ∷ 4 ∷ 2 ∷ 3 ∷ 5 ∷ [];
  passes = 1 ∷ 0 ∷ 0 ∷ 0 ∷ 0 ∷ 0 ∷ [];
  figures = accepted (record { nodes = 6; parts = 1; bandwidth = 2; profile = 6; front = 3; levels = 4; width = 2 });
  marks = accepted (record { marked = 6; new = 0 });
  bytes = 63 ∷ 9 ∷ 9 ∷ 9 ∷ [];
}

narrower-ordered : Ordered
narrower-ordered = record {
  levels = 4 ∷ 1 ∷ 3 ∷ 2 ∷ 4 ∷ 4 ∷ [];
  numbers = 2 ∷ 6 ∷ 4 ∷ 5 ∷ 3 ∷ 1 ∷ [];
  passes = 1 ∷ 0 ∷ 0 ∷ 0 ∷ 0 ∷ 0 ∷ [];
  figures = accepted (record { nodes = 6; parts = 1; bandwidth = 3; profile = 6; front = 3; levels = 4; width = 3 });
}

-- degree in the whole graph, not in what is left of it
degrees : Lists
degrees = record {
  starts = 0 ∷ 1 ∷ 3 ∷ 8 ∷ 9 ∷ 11 ∷ 12 ∷ [];
  neighbours = 3 ∷ 3 ∷ 5 ∷ 1 ∷ 2 ∷ 4 ∷ 5 ∷ 6 ∷ 3 ∷ 2 ∷ 3 ∷ 3 ∷ [];
}

degrees_found : Found
degrees_found = record {
  ends = accepted (record { v = 1; u = 2; k = 3; v_width = 4; u_width = 3; passes = 1 });
  combined = 1 ∷ 3 ∷ 2 ∷ 1 ∷ 2 ∷ 3 ∷ [];
  thickness = accepted (record { k = 3; width = 2 });
  report = accepted (record { v = 1; u = 2; k = 3; width = 2; passes = 1; direction = Forward });
  levels = 1 ∷ 3 ∷ 2 ∷ 1 ∷ 2 ∷ 3 ∷ [];
  numbers = 1 ∷ 6 ∷ 3 ∷ 2 ∷ 4 ∷ 5 ∷ [];
  passes = 1 ∷ 0 ∷ 0 ∷ 0 ∷ 0 ∷ 0 ∷ [];
  figures = accepted (record { nodes = 6; parts = 1; bandwidth = 3; profile = 8; front = 4; levels = 3; width = 2 });
  marks = accepted (record { marked = 8; new = 2 });
  bytes = 255 ∷ 9 ∷ 9 ∷ 9 ∷ [];
}

degrees_ordered : Ordered
degrees_ordered = record {
  levels = 1 ∷ 3 ∷ 2 ∷ 3 ∷ 3 ∷ 3 ∷ [];
  numbers = 6 ∷ 2 ∷ 5 ∷ 4 ∷ 1 ∷ 3 ∷ [];
  passes = 1 ∷ 0 ∷ 0 ∷ 0 ∷ 0 ∷ 0 ∷ [];
  figures = accepted (record { nodes = 6; parts = 1; bandwidth = 4; profile = 6; front = 3; levels = 3; width = 4 });
}

-- nodes left in a level: the first in E
leftover : Lists
leftover = record {
  starts = 0 ∷ 5 ∷ 7 ∷ 10 ∷ 13 ∷ 15 ∷ 16 ∷ [];
  neighbours = 2 ∷ 3 ∷ 4 ∷ 5 ∷ 6 ∷ 1 ∷ 3 ∷ 1 ∷ 2 ∷ 4 ∷ 1 ∷ 3 ∷ 5 ∷ 1 ∷ 4 ∷ 1 ∷ [];
}

leftover_found : Found
leftover_found = record {
  ends = accepted (record { v = 6; u = 2; k = 3; v_width = 4; u_width = 3; passes = 1 });
  combined = 2 ∷ 3 ∷ 2 ∷ 1 ∷ 1 ∷ 1 ∷ [];
  thickness = accepted (record { k = 3; width = 3 });
  report = accepted (record { v = 6; u = 2; k = 3; width = 3; passes = 1; direction = Forward });
  levels = 2 ∷ 3 ∷ 2 ∷ 1 ∷ 1 ∷ 1 ∷ [];
  numbers = 4 ∷ 6 ∷ 5 ∷ 3 ∷ 2 ∷ 1 ∷ [];
  passes = 1 ∷ 0 ∷ 0 ∷ 0 ∷ 0 ∷ 0 ∷ [];
  figures = accepted (record { nodes = 6; parts = 1; bandwidth = 3; profile = 8; front = 3; levels = 3; width = 3 });
  marks = accepted (record { marked = 8; new = 0 });
  bytes = 255 ∷ 9 ∷ 9 ∷ 9 ∷ [];
}

leftover_ordered : Ordered
leftover_ordered = record {
  levels = 2 ∷ 3 ∷ 3 ∷ 3 ∷ 3 ∷ 1 ∷ [];
  numbers = 5 ∷ 4 ∷ 2 ∷ 1 ∷ 3 ∷ 6 ∷ [];
  passes = 1 ∷ 0 ∷ 0 ∷ 0 ∷ 0 ∷ 0 ∷ [];
  figures = accepted (record { nodes = 6; parts = 1; bandwidth = 4; profile = 10; front = 4; levels = 3; width = 4 });
}

-- within a level the lowest-numbered node first
lowest : Lists
lowest = record {
  starts = 0 ∷ 3 ∷ 5 ∷ 8 ∷ 12 ∷ 16 ∷ 19 ∷ 23 ∷ 25 ∷ 28 ∷ [];
  neighbours = 3 ∷ 6 ∷ 9 ∷ 4 ∷ 7 ∷ 1 ∷ 4 ∷ 8 ∷ 2 ∷ 3 ∷ 5 ∷ 6 ∷ 4 ∷ 6 ∷ 7 ∷ 9 ∷ 1 ∷ 4 ∷ 5 ∷ 2 ∷ 5 ∷ 8 ∷ 9 ∷ 3 ∷ 7 ∷ 1 ∷ 5 ∷ 7 ∷ [];
}

lowest_found : Found
lowest_found = record {
  ends = accepted (record { v = 2; u = 1; k = 4; v_width = 5; u_width = 4; passes = 1 });
  combined = 4 ∷ 1 ∷ 3 ∷ 2 ∷ 2 ∷ 3 ∷ 2 ∷ 2 ∷ 3 ∷ [];
  thickness = accepted (record { k = 4; width = 4 });
  report = accepted (record { v = 2; u = 1; k = 4; width = 4; passes = 1; direction = Reversed });
  levels = 4 ∷ 1 ∷ 3 ∷ 2 ∷ 2 ∷ 3 ∷ 2 ∷ 2 ∷ 3 ∷ [];
  numbers = 1 ∷ 9 ∷ 4 ∷ 8 ∷ 6 ∷ 3 ∷ 7 ∷ 5 ∷ 2 ∷ [];
  passes = 1 ∷ 0 ∷ 0 ∷ 0 ∷ 0 ∷ 0 ∷ 0 ∷ 0 ∷ 0 ∷ [];
  figures = accepted (record { nodes = 9; parts = 1; bandwidth = 5; profile = 23; front = 5; levels = 4; width = 4 });
  marks = accepted (record { marked = 23; new = 9 });
  bytes = 255 ∷ 255 ∷ 127 ∷ 9 ∷ [];
}

lowest_ordered : Ordered
lowest_ordered = record {
  levels = 4 ∷ 1 ∷ 3 ∷ 2 ∷ 3 ∷ 3 ∷ 2 ∷ 3 ∷ 3 ∷ [];
  numbers = 1 ∷ 9 ∷ 6 ∷ 8 ∷ 4 ∷ 5 ∷ 7 ∷ 3 ∷ 2 ∷ [];
  passes = 1 ∷ 0 ∷ 0 ∷ 0 ∷ 0 ∷ 0 ∷ 0 ∷ 0 ∷ 0 ∷ [];
  figures = accepted (record { nodes = 9; parts = 1; bandwidth = 5; profile = 23; front = 5; levels = 4; width = 5 });
}

-- three parts, Forward beside Reversed
directions : Lists
directions = record {
  starts = 0 ∷ 2 ∷ 6 ∷ 8 ∷ 8 ∷ 9 ∷ 10 ∷ 12 ∷ [];
  neighbours = 2 ∷ 3 ∷ 1 ∷ 3 ∷ 5 ∷ 7 ∷ 1 ∷ 2 ∷ 2 ∷ 7 ∷ 2 ∷ 6 ∷ [];
}

directions_found : Found
directions_found = record {
  ends = accepted (record { v = 5; u = 6; k = 4; v_width = 3; u_width = 3; passes = 1 });
  combined = 3 ∷ 2 ∷ 3 ∷ 0 ∷ 1 ∷ 4 ∷ 3 ∷ [];
  thickness = accepted (record { k = 4; width = 3 });
  report = accepted (record { v = 5; u = 6; k = 4; width = 3; passes = 1; direction = Reversed });
  levels = 3 ∷ 2 ∷ 3 ∷ 1 ∷ 1 ∷ 4 ∷ 3 ∷ [];
  numbers = 4 ∷ 5 ∷ 3 ∷ 7 ∷ 6 ∷ 1 ∷ 2 ∷ [];
  passes = 1 ∷ 1 ∷ 0 ∷ 0 ∷ 0 ∷ 0 ∷ 0 ∷ [];
  figures = accepted (record { nodes = 7; parts = 2; bandwidth = 3; profile = 6; front = 3; levels = 5; width = 3 });
  marks = accepted (record { marked = 6; new = 0 });
  bytes = 63 ∷ 9 ∷ 9 ∷ 9 ∷ [];
}

directions_ordered : Ordered
directions_ordered = record {
  levels = 3 ∷ 2 ∷ 3 ∷ 1 ∷ 1 ∷ 4 ∷ 3 ∷ [];
  numbers = 4 ∷ 5 ∷ 3 ∷ 7 ∷ 6 ∷ 1 ∷ 2 ∷ [];
  passes = 1 ∷ 1 ∷ 0 ∷ 0 ∷ 0 ∷ 0 ∷ 0 ∷ [];
  figures = accepted (record { nodes = 7; parts = 2; bandwidth = 3; profile = 6; front = 3; levels = 5; width = 3 });
}

-- equal profiles stay Forward; equal widths of u and v go by first numbers
profiles : Lists
profiles = record {
  starts = 0 ∷ 2 ∷ 4 ∷ 4 ∷ 6 ∷ [];
  neighbours = 2 ∷ 4 ∷ 1 ∷ 4 ∷ 1 ∷ 2 ∷ [];
}

profiles_found : Found
profiles_found = record {
  ends = accepted (record { v = 1; u = 2; k = 2; v_width = 2; u_width = 2; passes = 1 });
  combined = 1 ∷ 2 ∷ 0 ∷ 2 ∷ [];
  thickness = accepted (record { k = 2; width = 2 });
  report = accepted (record { v = 1; u = 2; k = 2; width = 2; passes = 1; direction = Forward });
  levels = 1 ∷ 2 ∷ 1 ∷ 2 ∷ [];
  numbers = 1 ∷ 2 ∷ 4 ∷ 3 ∷ [];
  passes = 1 ∷ 1 ∷ 0 ∷ 0 ∷ [];
  figures = accepted (record { nodes = 4; parts = 2; bandwidth = 2; profile = 3; front = 3; levels = 3; width = 2 });
  marks = accepted (record { marked = 3; new = 0 });
  bytes = 7 ∷ 9 ∷ 9 ∷ 9 ∷ [];
}

profiles_ordered : Ordered
profiles_ordered = record {
  levels = 1 ∷ 2 ∷ 1 ∷ 2 ∷ [];
  numbers = 3 ∷ 2 ∷ 4 ∷ 1 ∷ [];
  passes = 1 ∷ 1 ∷ 0 ∷ 0 ∷ [];
  figures = accepted (record { nodes = 4; parts = 2; bandwidth = 2; profile = 3; front = 3; levels = 3; width = 2 });
}

-- parts of two, three and one passes: in the order of the parts, neither by size nor by passes
each_part : Lists
each_part = record {
  starts = 0 ∷ 1 ∷ 3 ∷ 3 ∷ 5 ∷ 7 ∷ 8 ∷ 10 ∷ 12 ∷ 14 ∷ 16 ∷ 18 ∷ 21 ∷ 23 ∷ 24 ∷ 27 ∷ 30 ∷ [];
  neighbours = 12 ∷ 8 ∷ 16 ∷ 6 ∷ 12 ∷ 10 ∷ 16 ∷ 4 ∷ 8 ∷ 10 ∷ 2 ∷ 7 ∷ 12 ∷ 14 ∷ 5 ∷ 7 ∷ 13 ∷ 15 ∷ 1 ∷ 4 ∷ 9 ∷ 11 ∷ 15 ∷ 9 ∷ 11 ∷ 13 ∷ 16 ∷ 2 ∷ 5 ∷ 15 ∷ [];
}

each_part_found : Found
each_part_found = record {
  ends = accepted (record { v = 6; u = 14; k = 5; v_width = 2; u_width = 2; passes = 2 });
  combined = 4 ∷ 0 ∷ 0 ∷ 2 ∷ 0 ∷ 1 ∷ 0 ∷ 0 ∷ 4 ∷ 0 ∷ 0 ∷ 3 ∷ 0 ∷ 5 ∷ 0 ∷ 0 ∷ [];
  thickness = accepted (record { k = 5; width = 2 });
  report = accepted (record { v = 6; u = 14; k = 5; width = 2; passes = 2; direction = Reversed });
  levels = 4 ∷ 4 ∷ 1 ∷ 2 ∷ 4 ∷ 1 ∷ 6 ∷ 5 ∷ 4 ∷ 5 ∷ 1 ∷ 3 ∷ 2 ∷ 5 ∷ 2 ∷ 3 ∷ [];
  numbers = 3 ∷ 11 ∷ 16 ∷ 5 ∷ 12 ∷ 6 ∷ 15 ∷ 13 ∷ 2 ∷ 14 ∷ 7 ∷ 4 ∷ 8 ∷ 1 ∷ 9 ∷ 10 ∷ [];
  passes = (2 ∷ []) ++ (3 ∷ []) ++ (1 ∷ []) ++ replicate 13 0;
  figures = accepted (record { nodes = 16; parts = 3; bandwidth = 2; profile = 18; front = 3; levels = 12; width = 2 });
  marks = accepted (record { marked = 18; new = 3 });
  bytes = 255 ∷ 255 ∷ 3 ∷ 9 ∷ [];
}

each_part_ordered : Ordered
each_part_ordered = record {
  levels = 4 ∷ 4 ∷ 1 ∷ 2 ∷ 4 ∷ 1 ∷ 6 ∷ 5 ∷ 4 ∷ 5 ∷ 1 ∷ 3 ∷ 2 ∷ 5 ∷ 2 ∷ 3 ∷ [];
  numbers = 3 ∷ 11 ∷ 16 ∷ 5 ∷ 10 ∷ 6 ∷ 7 ∷ 9 ∷ 2 ∷ 8 ∷ 15 ∷ 4 ∷ 14 ∷ 1 ∷ 13 ∷ 12 ∷ [];
  passes = (2 ∷ []) ++ (3 ∷ []) ++ (1 ∷ []) ++ replicate 13 0;
  figures = accepted (record { nodes = 16; parts = 3; bandwidth = 2; profile = 18; front = 3; levels = 12; width = 2 });
}

-- two isolated nodes: a pass each
isolated : Lists
isolated = record {
  starts = 0 ∷ 0 ∷ 0 ∷ [];
  neighbours = [];
}

isolated_found : Found
isolated_found = record {
  ends = accepted (record { v = 1; u = 1; k = 1; v_width = 1; u_width = 1; passes = 1 });
  combined = 1 ∷ 0 ∷ [];
  thickness = accepted (record { k = 1; width = 1 });
  report = accepted (record { v = 1; u = 1; k = 1; width = 1; passes = 1; direction = Forward });
  levels = 1 ∷ 1 ∷ [];
  numbers = 1 ∷ 2 ∷ [];
  passes = 1 ∷ 1 ∷ [];
  figures = accepted (record { nodes = 2; parts = 2; bandwidth = 0; profile = 0; front = 1; levels = 2; width = 1 });
  marks = accepted (record { marked = 0; new = 0 });
  bytes = 9 ∷ 9 ∷ 9 ∷ 9 ∷ [];
}

isolated_ordered : Ordered
isolated_ordered = record {
  levels = 1 ∷ 1 ∷ [];
  numbers = 1 ∷ 2 ∷ [];
  passes = 1 ∷ 1 ∷ [];
  figures = accepted (record { nodes = 2; parts = 2; bandwidth = 0; profile = 0; front = 1; levels = 2; width = 1 });
}

record ExampleTable : Type 0 where
  is_names : found names ≡ names_found
  order_of_names : ordered (0 ∷ 3 ∷ 5 ∷ 8 ∷ 12 ∷ 16 ∷ 20 ∷ 22 ∷ []) (4 ∷ 5 ∷ 6 ∷ 5 ∷ 7 ∷ 4 ∷ 6 ∷ 7 ∷ 1 ∷ 3 ∷ 5 ∷ 6 ∷ 1 ∷ 2 ∷ 4 ∷ 6 ∷ 1 ∷ 3 ∷ 4 ∷ 5 ∷ 2 ∷ 3 ∷ []) ≡ names_ordered
  is_deeper : found deeper ≡ deeper-found
  order_of-deeper : ordered (0 ∷ 3 ∷ 6 ∷ 7 ∷ 9 ∷ 11 ∷ 13 ∷ 15 ∷ 16 ∷ []) (3 ∷ 4 ∷ 7 ∷ 4 ∷ 5 ∷ 6 ∷ 1 ∷ 1 ∷ 2 ∷ 2 ∷ 6 ∷ 2 ∷ 5 ∷ 1 ∷ 8 ∷ 7 ∷ []) ≡ deeper-ordered
  is_passes : found passes ≡ passes_found
  order_of_passes : ordered (0 ∷ 2 ∷ 4 ∷ 6 ∷ 8 ∷ 10 ∷ 12 ∷ 14 ∷ 17 ∷ 20 ∷ []) (4 ∷ 9 ∷ 5 ∷ 9 ∷ 4 ∷ 5 ∷ 1 ∷ 3 ∷ 2 ∷ 3 ∷ 7 ∷ 8 ∷ 6 ∷ 8 ∷ 6 ∷ 7 ∷ 9 ∷ 1 ∷ 2 ∷ 8 ∷ []) ≡ passes_ordered
  is_in_e : found in_e ≡ in_e_found
  order_of_in_e : ordered (0 ∷ 2 ∷ 4 ∷ 7 ∷ 9 ∷ 10 ∷ 13 ∷ 14 ∷ []) (6 ∷ 7 ∷ 3 ∷ 4 ∷ 2 ∷ 4 ∷ 6 ∷ 2 ∷ 3 ∷ 6 ∷ 1 ∷ 3 ∷ 5 ∷ 1 ∷ []) ≡ in_e_ordered
  is_equal : found equal ≡ equal_found
  order_of_equal : ordered (0 ∷ 4 ∷ 6 ∷ 7 ∷ 8 ∷ 9 ∷ 10 ∷ []) (2 ∷ 4 ∷ 5 ∷ 6 ∷ 1 ∷ 3 ∷ 2 ∷ 1 ∷ 1 ∷ 1 ∷ []) ≡ equal_ordered
  is_larger : found larger ≡ larger-found
  order_of-larger : ordered (0 ∷ 2 ∷ 8 ∷ 9 ∷ 9 ∷ 12 ∷ 15 ∷ 16 ∷ 18 ∷ []) (2 ∷ 6 ∷ 1 ∷ 3 ∷ 5 ∷ 6 ∷ 7 ∷ 8 ∷ 2 ∷ 2 ∷ 6 ∷ 8 ∷ 1 ∷ 2 ∷ 5 ∷ 2 ∷ 2 ∷ 5 ∷ []) ≡ larger-ordered
  is_untouched : found untouched ≡ untouched_found
  order_of_untouched : ordered (0 ∷ 6 ∷ 8 ∷ 9 ∷ 12 ∷ 15 ∷ 17 ∷ 20 ∷ []) (2 ∷ 3 ∷ 4 ∷ 5 ∷ 6 ∷ 7 ∷ 1 ∷ 4 ∷ 1 ∷ 1 ∷ 2 ∷ 7 ∷ 1 ∷ 6 ∷ 7 ∷ 1 ∷ 5 ∷ 1 ∷ 4 ∷ 5 ∷ []) ≡ untouched_ordered
  is_narrower : found narrower ≡ narrower-found
  order_of-narrower : ordered (0 ∷ 2 ∷ 3 ∷ 7 ∷ 9 ∷ 10 ∷ 12 ∷ []) (3 ∷ 6 ∷ 4 ∷ 1 ∷ 4 ∷ 5 ∷ 6 ∷ 2 ∷ 3 ∷ 3 ∷ 1 ∷ 3 ∷ []) ≡ narrower-ordered
  is_degrees : found degrees ≡ degrees_found
  order_of_degrees : ordered (0 ∷ 1 ∷ 3 ∷ 8 ∷ 9 ∷ 11 ∷ 12 ∷ []) (3 ∷ 3 ∷ 5 ∷ 1 ∷ 2 ∷ 4 ∷ 5 ∷ 6 ∷ 3 ∷ 2 ∷ 3 ∷ 3 ∷ []) ≡ degrees_ordered
  is_leftover : found leftover ≡ leftover_found
  order_of_leftover : ordered (0 ∷ 5 ∷ 7 ∷ 10 ∷ 13 ∷ 15 ∷ 16 ∷ []) (2 ∷ 3 ∷ 4 ∷ 5 ∷ 6 ∷ 1 ∷ 3 ∷ 1 ∷ 2 ∷ 4 ∷ 1 ∷ 3 ∷ 5 ∷ 1 ∷ 4 ∷ 1 ∷ []) ≡ leftover_ordered
  is_lowest : found lowest ≡ lowest_found
  order_of_lowest : ordered (0 ∷ 3 ∷ 5 ∷ 8 ∷ 12 ∷ 16 ∷ 19 ∷ 23 ∷ 25 ∷ 28 ∷ []) (3 ∷ 6 ∷ 9 ∷ 4 ∷ 7 ∷ 1 ∷ 4 ∷ 8 ∷ 2 ∷ 3 ∷ 5 ∷ 6 ∷ 4 ∷ 6 ∷ 7 ∷ 9 ∷ 1 ∷ 4 ∷ 5 ∷ 2 ∷ 5 ∷ 8 ∷ 9 ∷ 3 ∷ 7 ∷ 1 ∷ 5 ∷ 7 ∷ []) ≡ lowest_ordered
  is_directions : found directions ≡ directions_found
  order_of_directions : ordered (0 ∷ 2 ∷ 6 ∷ 8 ∷ 8 ∷ 9 ∷ 10 ∷ 12 ∷ []) (2 ∷ 3 ∷ 1 ∷ 3 ∷ 5 ∷ 7 ∷ 1 ∷ 2 ∷ 2 ∷ 7 ∷ 2 ∷ 6 ∷ []) ≡ directions_ordered
  is_profiles : found profiles ≡ profiles_found
  order_of_profiles : ordered (0 ∷ 2 ∷ 4 ∷ 4 ∷ 6 ∷ []) (2 ∷ 4 ∷ 1 ∷ 4 ∷ 1 ∷ 2 ∷ []) ≡ profiles_ordered
  is_each_part : found each_part ≡ each_part_found
  order_of_each_part : ordered (0 ∷ 1 ∷ 3 ∷ 3 ∷ 5 ∷ 7 ∷ 8 ∷ 10 ∷ 12 ∷ 14 ∷ 16 ∷ 18 ∷ 21 ∷ 23 ∷ 24 ∷ 27 ∷ 30 ∷ []) (12 ∷ 8 ∷ 16 ∷ 6 ∷ 12 ∷ 10 ∷ 16 ∷ 4 ∷ 8 ∷ 10 ∷ 2 ∷ 7 ∷ 12 ∷ 14 ∷ 5 ∷ 7 ∷ 13 ∷ 15 ∷ 1 ∷ 4 ∷ 9 ∷ 11 ∷ 15 ∷ 9 ∷ 11 ∷ 13 ∷ 16 ∷ 2 ∷ 5 ∷ 15 ∷ []) ≡ each_part_ordered
  is_isolated : found isolated ≡ isolated_found
  order_of_isolated : ordered (0 ∷ 0 ∷ 0 ∷ []) [] ≡ isolated_ordered
  -- an empty start list
  refusals_1 : refusals [] [] 1 [] 6 ≡ (1 ∷ 1 ∷ 1 ∷ 1 ∷ 1 ∷ 1 ∷ 1 ∷ [])
  -- one start word
  refusals_2 : refusals (5 ∷ []) [] 1 [] 6 ≡ (1 ∷ 1 ∷ 1 ∷ 1 ∷ 1 ∷ 1 ∷ 1 ∷ [])
  -- starts that fall, and a row that leaves 1..n
  refusals_3 : refusals (0 ∷ 2 ∷ 1 ∷ 3 ∷ []) (9 ∷ 9 ∷ 9 ∷ []) 1 [] 6 ≡ (2 ∷ 2 ∷ 2 ∷ 2 ∷ 2 ∷ 2 ∷ 2 ∷ [])
  -- 3 before 4: row 1 lacks its partner, and row 3 falls
  refusals_4 : refusals (0 ∷ 1 ∷ 1 ∷ 3 ∷ []) (2 ∷ 2 ∷ 1 ∷ []) 1 [] 6 ≡ (3 ∷ 3 ∷ 3 ∷ 3 ∷ 3 ∷ 3 ∷ 3 ∷ [])
  -- equal neighbours side by side
  refusals_5 : refusals (0 ∷ 2 ∷ 4 ∷ []) (2 ∷ 2 ∷ 1 ∷ 1 ∷ []) 1 [] 6 ≡ (3 ∷ 3 ∷ 3 ∷ 3 ∷ 3 ∷ 3 ∷ 3 ∷ [])
  -- 4 before 5: no partner, and nothing lent
  refusals_6 : refusals (0 ∷ 1 ∷ 1 ∷ []) (2 ∷ []) 1 (1 ∷ 2 ∷ []) 0 ≡ (4 ∷ 4 ∷ 4 ∷ 4 ∷ 4 ∷ 4 ∷ 4 ∷ [])
  -- 5 before 6 and 7: nothing lent, node 0, and a numbering that is none
  refusals_7 : refusals (0 ∷ 1 ∷ 2 ∷ []) (2 ∷ 1 ∷ []) 0 (1 ∷ 1 ∷ []) 0 ≡ (0 ∷ 5 ∷ 5 ∷ 5 ∷ 5 ∷ 5 ∷ 5 ∷ [])
  -- 6, and a numbering that is too long
  refusals_8 : refusals (0 ∷ 1 ∷ 2 ∷ []) (2 ∷ 1 ∷ []) 3 (1 ∷ 2 ∷ 1 ∷ []) 6 ≡ (0 ∷ 6 ∷ 6 ∷ 0 ∷ 0 ∷ 7 ∷ 7 ∷ [])
  -- 7 before 8: a numbering that is none, and no mark byte
  refusals_9 : refusals (0 ∷ 1 ∷ 2 ∷ []) (2 ∷ 1 ∷ []) 1 (0 ∷ 1 ∷ []) 6 ≡ (0 ∷ 0 ∷ 0 ∷ 0 ∷ 0 ∷ 7 ∷ 7 ∷ [])
  -- 8: no mark byte; 6n words are enough for the rest
  refusals_10 : refusals (0 ∷ 1 ∷ 2 ∷ []) (2 ∷ 1 ∷ []) 1 (2 ∷ 1 ∷ []) 6 ≡ (0 ∷ 0 ∷ 0 ∷ 0 ∷ 0 ∷ 0 ∷ 8 ∷ [])
  -- 5 where 6n words are asked for, and one less is lent
  refusals_11 : refusals (0 ∷ 0 ∷ []) [] 1 (1 ∷ []) 5 ≡ (0 ∷ 0 ∷ 5 ∷ 5 ∷ 5 ∷ 0 ∷ 0 ∷ [])
  -- one node
  sizes_1 : rooted_sizes (0 ∷ 0 ∷ []) [] 1 (9 ∷ []) (9 ∷ []) ≡ (1 ∷ [])
  -- an isolated root: zeros after the depth
  sizes_2 : rooted_sizes (0 ∷ 1 ∷ 1 ∷ 3 ∷ 4 ∷ []) (3 ∷ 1 ∷ 4 ∷ 3 ∷ []) 2 (9 ∷ 9 ∷ 9 ∷ 9 ∷ []) (9 ∷ 9 ∷ 9 ∷ 9 ∷ []) ≡ (1 ∷ 0 ∷ 0 ∷ 0 ∷ [])
  -- the part of the root alone; longer lists keep their excess
  sizes_3 : rooted_sizes (0 ∷ 1 ∷ 3 ∷ 4 ∷ 5 ∷ 6 ∷ []) (2 ∷ 1 ∷ 4 ∷ 5 ∷ 2 ∷ 3 ∷ []) 5 (9 ∷ 9 ∷ 9 ∷ 9 ∷ 9 ∷ 9 ∷ []) (9 ∷ 9 ∷ 9 ∷ 9 ∷ 9 ∷ 9 ∷ 9 ∷ []) ≡ (1 ∷ 1 ∷ 0 ∷ 0 ∷ 0 ∷ 9 ∷ 9 ∷ [])
  -- a path from an end: a level in each word
  sizes_4 : rooted_sizes (0 ∷ 1 ∷ 3 ∷ 5 ∷ 6 ∷ []) (2 ∷ 1 ∷ 3 ∷ 2 ∷ 4 ∷ 3 ∷ []) 4 (9 ∷ 9 ∷ 9 ∷ 9 ∷ []) (9 ∷ 9 ∷ 9 ∷ 9 ∷ []) ≡ (1 ∷ 1 ∷ 1 ∷ 1 ∷ [])
  -- a star from its centre
  sizes_5 : rooted_sizes (0 ∷ 4 ∷ 5 ∷ 6 ∷ 7 ∷ 8 ∷ []) (2 ∷ 3 ∷ 4 ∷ 5 ∷ 1 ∷ 1 ∷ 1 ∷ 1 ∷ []) 1 (9 ∷ 9 ∷ 9 ∷ 9 ∷ 9 ∷ []) (9 ∷ 9 ∷ 9 ∷ 9 ∷ 9 ∷ []) ≡ (1 ∷ 4 ∷ 0 ∷ 0 ∷ 0 ∷ [])
  -- a star from a leaf
  sizes_6 : rooted_sizes (0 ∷ 4 ∷ 5 ∷ 6 ∷ 7 ∷ 8 ∷ []) (2 ∷ 3 ∷ 4 ∷ 5 ∷ 1 ∷ 1 ∷ 1 ∷ 1 ∷ []) 3 (9 ∷ 9 ∷ 9 ∷ 9 ∷ 9 ∷ []) (9 ∷ 9 ∷ 9 ∷ 9 ∷ 9 ∷ []) ≡ (1 ∷ 1 ∷ 3 ∷ 0 ∷ 0 ∷ [])
  -- thickest in the middle
  sizes_7 : rooted_sizes (0 ∷ 1 ∷ 5 ∷ 7 ∷ 9 ∷ 11 ∷ 15 ∷ 16 ∷ []) (2 ∷ 1 ∷ 3 ∷ 4 ∷ 5 ∷ 2 ∷ 6 ∷ 2 ∷ 6 ∷ 2 ∷ 6 ∷ 3 ∷ 4 ∷ 5 ∷ 7 ∷ 6 ∷ []) 1 (9 ∷ 9 ∷ 9 ∷ 9 ∷ 9 ∷ 9 ∷ 9 ∷ []) (9 ∷ 9 ∷ 9 ∷ 9 ∷ 9 ∷ 9 ∷ 9 ∷ []) ≡ (1 ∷ 1 ∷ 3 ∷ 1 ∷ 1 ∷ 0 ∷ 0 ∷ [])
  -- a short list of levels: the sizes stay
  sizes_8 : rooted_sizes (0 ∷ 1 ∷ 2 ∷ 2 ∷ []) (2 ∷ 1 ∷ []) 1 (9 ∷ 9 ∷ []) (9 ∷ 9 ∷ 9 ∷ []) ≡ (9 ∷ 9 ∷ 9 ∷ [])
  -- a short list of sizes: it stays
  sizes_9 : rooted_sizes (0 ∷ 1 ∷ 2 ∷ 2 ∷ []) (2 ∷ 1 ∷ []) 1 (9 ∷ 9 ∷ 9 ∷ []) (9 ∷ 9 ∷ []) ≡ (9 ∷ 9 ∷ [])
  -- a root that is none: the sizes stay
  sizes_10 : rooted_sizes (0 ∷ 1 ∷ 2 ∷ 2 ∷ []) (2 ∷ 1 ∷ []) 4 (9 ∷ 9 ∷ 9 ∷ []) (9 ∷ 9 ∷ 9 ∷ []) ≡ (9 ∷ 9 ∷ 9 ∷ [])
  -- two isolated nodes
  run_1_refusal : number_of (run_answer (0 ∷ 0 ∷ 0 ∷ []) [] (1 ∷ 1 ∷ []) (9 ∷ 9 ∷ []) (9 ∷ 9 ∷ []) (9 ∷ 9 ∷ []) (replicate 12 9)) ≡ 0
  run_1_passes : run_passes (0 ∷ 0 ∷ 0 ∷ []) [] (1 ∷ 1 ∷ []) (9 ∷ 9 ∷ []) (9 ∷ 9 ∷ []) (9 ∷ 9 ∷ []) (replicate 12 9) ≡ (1 ∷ 1 ∷ [])
  cuthill_1_refusal : number_of (cuthill_answer (0 ∷ 0 ∷ 0 ∷ []) [] (1 ∷ 1 ∷ []) (9 ∷ 9 ∷ []) (9 ∷ 9 ∷ []) (9 ∷ 9 ∷ []) (replicate 12 9)) ≡ 0
  cuthill_1_passes : cuthill_passes (0 ∷ 0 ∷ 0 ∷ []) [] (1 ∷ 1 ∷ []) (9 ∷ 9 ∷ []) (9 ∷ 9 ∷ []) (9 ∷ 9 ∷ []) (replicate 12 9) ≡ (1 ∷ 1 ∷ [])
  -- zeros after the last part; a longer list keeps its excess
  run_2_refusal : number_of (run_answer (0 ∷ 1 ∷ 1 ∷ 3 ∷ 4 ∷ []) (3 ∷ 1 ∷ 4 ∷ 3 ∷ []) (1 ∷ 1 ∷ 1 ∷ 1 ∷ []) (9 ∷ 9 ∷ 9 ∷ 9 ∷ []) (9 ∷ 9 ∷ 9 ∷ 9 ∷ []) (9 ∷ 9 ∷ 9 ∷ 9 ∷ 9 ∷ 9 ∷ []) (replicate 24 9)) ≡ 0
  run_2_passes : run_passes (0 ∷ 1 ∷ 1 ∷ 3 ∷ 4 ∷ []) (3 ∷ 1 ∷ 4 ∷ 3 ∷ []) (1 ∷ 1 ∷ 1 ∷ 1 ∷ []) (9 ∷ 9 ∷ 9 ∷ 9 ∷ []) (9 ∷ 9 ∷ 9 ∷ 9 ∷ []) (9 ∷ 9 ∷ 9 ∷ 9 ∷ 9 ∷ 9 ∷ []) (replicate 24 9) ≡ (1 ∷ 1 ∷ 0 ∷ 0 ∷ 9 ∷ 9 ∷ [])
  cuthill_2_refusal : number_of (cuthill_answer (0 ∷ 1 ∷ 1 ∷ 3 ∷ 4 ∷ []) (3 ∷ 1 ∷ 4 ∷ 3 ∷ []) (1 ∷ 1 ∷ 1 ∷ 1 ∷ []) (9 ∷ 9 ∷ 9 ∷ 9 ∷ []) (9 ∷ 9 ∷ 9 ∷ 9 ∷ []) (9 ∷ 9 ∷ 9 ∷ 9 ∷ 9 ∷ 9 ∷ []) (replicate 24 9)) ≡ 0
  cuthill_2_passes : cuthill_passes (0 ∷ 1 ∷ 1 ∷ 3 ∷ 4 ∷ []) (3 ∷ 1 ∷ 4 ∷ 3 ∷ []) (1 ∷ 1 ∷ 1 ∷ 1 ∷ []) (9 ∷ 9 ∷ 9 ∷ 9 ∷ []) (9 ∷ 9 ∷ 9 ∷ 9 ∷ []) (9 ∷ 9 ∷ 9 ∷ 9 ∷ 9 ∷ 9 ∷ []) (replicate 24 9) ≡ (1 ∷ 1 ∷ 0 ∷ 0 ∷ 9 ∷ 9 ∷ [])
  -- a short list of passes: 5, and it stays
  run_3_refusal : number_of (run_answer (0 ∷ 1 ∷ 1 ∷ 3 ∷ 4 ∷ []) (3 ∷ 1 ∷ 4 ∷ 3 ∷ []) (1 ∷ 1 ∷ 1 ∷ 1 ∷ []) (9 ∷ 9 ∷ 9 ∷ 9 ∷ []) (9 ∷ 9 ∷ 9 ∷ 9 ∷ []) (9 ∷ 9 ∷ 9 ∷ []) (replicate 24 9)) ≡ 5
  run_3_passes : run_passes (0 ∷ 1 ∷ 1 ∷ 3 ∷ 4 ∷ []) (3 ∷ 1 ∷ 4 ∷ 3 ∷ []) (1 ∷ 1 ∷ 1 ∷ 1 ∷ []) (9 ∷ 9 ∷ 9 ∷ 9 ∷ []) (9 ∷ 9 ∷ 9 ∷ 9 ∷ []) (9 ∷ 9 ∷ 9 ∷ []) (replicate 24 9) ≡ (9 ∷ 9 ∷ 9 ∷ [])
  cuthill_3_refusal : number_of (cuthill_answer (0 ∷ 1 ∷ 1 ∷ 3 ∷ 4 ∷ []) (3 ∷ 1 ∷ 4 ∷ 3 ∷ []) (1 ∷ 1 ∷ 1 ∷ 1 ∷ []) (9 ∷ 9 ∷ 9 ∷ 9 ∷ []) (9 ∷ 9 ∷ 9 ∷ 9 ∷ []) (9 ∷ 9 ∷ 9 ∷ []) (replicate 24 9)) ≡ 5
  cuthill_3_passes : cuthill_passes (0 ∷ 1 ∷ 1 ∷ 3 ∷ 4 ∷ []) (3 ∷ 1 ∷ 4 ∷ 3 ∷ []) (1 ∷ 1 ∷ 1 ∷ 1 ∷ []) (9 ∷ 9 ∷ 9 ∷ 9 ∷ []) (9 ∷ 9 ∷ 9 ∷ 9 ∷ []) (9 ∷ 9 ∷ 9 ∷ []) (replicate 24 9) ≡ (9 ∷ 9 ∷ 9 ∷ [])
  -- no list of passes: 5
  run_4_refusal : number_of (run_answer (0 ∷ 0 ∷ []) [] (1 ∷ []) (9 ∷ []) (9 ∷ []) [] (9 ∷ 9 ∷ 9 ∷ 9 ∷ 9 ∷ 9 ∷ [])) ≡ 5
  run_4_passes : run_passes (0 ∷ 0 ∷ []) [] (1 ∷ []) (9 ∷ []) (9 ∷ []) [] (9 ∷ 9 ∷ 9 ∷ 9 ∷ 9 ∷ 9 ∷ []) ≡ []
  cuthill_4_refusal : number_of (cuthill_answer (0 ∷ 0 ∷ []) [] (1 ∷ []) (9 ∷ []) (9 ∷ []) [] (9 ∷ 9 ∷ 9 ∷ 9 ∷ 9 ∷ 9 ∷ [])) ≡ 5
  cuthill_4_passes : cuthill_passes (0 ∷ 0 ∷ []) [] (1 ∷ []) (9 ∷ []) (9 ∷ []) [] (9 ∷ 9 ∷ 9 ∷ 9 ∷ 9 ∷ 9 ∷ []) ≡ []
  -- a short list of levels: the passes stay
  run_5_refusal : number_of (run_answer (0 ∷ 1 ∷ 1 ∷ 3 ∷ 4 ∷ []) (3 ∷ 1 ∷ 4 ∷ 3 ∷ []) (1 ∷ 1 ∷ 1 ∷ 1 ∷ []) (9 ∷ 9 ∷ 9 ∷ 9 ∷ []) (9 ∷ 9 ∷ 9 ∷ []) (9 ∷ 9 ∷ 9 ∷ 9 ∷ []) (replicate 24 9)) ≡ 5
  run_5_passes : run_passes (0 ∷ 1 ∷ 1 ∷ 3 ∷ 4 ∷ []) (3 ∷ 1 ∷ 4 ∷ 3 ∷ []) (1 ∷ 1 ∷ 1 ∷ 1 ∷ []) (9 ∷ 9 ∷ 9 ∷ 9 ∷ []) (9 ∷ 9 ∷ 9 ∷ []) (9 ∷ 9 ∷ 9 ∷ 9 ∷ []) (replicate 24 9) ≡ (9 ∷ 9 ∷ 9 ∷ 9 ∷ [])
  cuthill_5_refusal : number_of (cuthill_answer (0 ∷ 1 ∷ 1 ∷ 3 ∷ 4 ∷ []) (3 ∷ 1 ∷ 4 ∷ 3 ∷ []) (1 ∷ 1 ∷ 1 ∷ 1 ∷ []) (9 ∷ 9 ∷ 9 ∷ 9 ∷ []) (9 ∷ 9 ∷ 9 ∷ []) (9 ∷ 9 ∷ 9 ∷ 9 ∷ []) (replicate 24 9)) ≡ 5
  cuthill_5_passes : cuthill_passes (0 ∷ 1 ∷ 1 ∷ 3 ∷ 4 ∷ []) (3 ∷ 1 ∷ 4 ∷ 3 ∷ []) (1 ∷ 1 ∷ 1 ∷ 1 ∷ []) (9 ∷ 9 ∷ 9 ∷ 9 ∷ []) (9 ∷ 9 ∷ 9 ∷ []) (9 ∷ 9 ∷ 9 ∷ 9 ∷ []) (replicate 24 9) ≡ (9 ∷ 9 ∷ 9 ∷ 9 ∷ [])
  -- a word of scratch too few: the passes stay
  run_6_refusal : number_of (run_answer (0 ∷ 1 ∷ 1 ∷ 3 ∷ 4 ∷ []) (3 ∷ 1 ∷ 4 ∷ 3 ∷ []) (1 ∷ 1 ∷ 1 ∷ 1 ∷ []) (9 ∷ 9 ∷ 9 ∷ 9 ∷ []) (9 ∷ 9 ∷ 9 ∷ 9 ∷ []) (9 ∷ 9 ∷ 9 ∷ 9 ∷ []) (replicate 23 9)) ≡ 5
  run_6_passes : run_passes (0 ∷ 1 ∷ 1 ∷ 3 ∷ 4 ∷ []) (3 ∷ 1 ∷ 4 ∷ 3 ∷ []) (1 ∷ 1 ∷ 1 ∷ 1 ∷ []) (9 ∷ 9 ∷ 9 ∷ 9 ∷ []) (9 ∷ 9 ∷ 9 ∷ 9 ∷ []) (9 ∷ 9 ∷ 9 ∷ 9 ∷ []) (replicate 23 9) ≡ (9 ∷ 9 ∷ 9 ∷ 9 ∷ [])
  cuthill_6_refusal : number_of (cuthill_answer (0 ∷ 1 ∷ 1 ∷ 3 ∷ 4 ∷ []) (3 ∷ 1 ∷ 4 ∷ 3 ∷ []) (1 ∷ 1 ∷ 1 ∷ 1 ∷ []) (9 ∷ 9 ∷ 9 ∷ 9 ∷ []) (9 ∷ 9 ∷ 9 ∷ 9 ∷ []) (9 ∷ 9 ∷ 9 ∷ 9 ∷ []) (replicate 23 9)) ≡ 5
  cuthill_6_passes : cuthill_passes (0 ∷ 1 ∷ 1 ∷ 3 ∷ 4 ∷ []) (3 ∷ 1 ∷ 4 ∷ 3 ∷ []) (1 ∷ 1 ∷ 1 ∷ 1 ∷ []) (9 ∷ 9 ∷ 9 ∷ 9 ∷ []) (9 ∷ 9 ∷ 9 ∷ 9 ∷ []) (9 ∷ 9 ∷ 9 ∷ 9 ∷ []) (replicate 23 9) ≡ (9 ∷ 9 ∷ 9 ∷ 9 ∷ [])
  -- a wrong mark, and no node: 12 before 1
  file_1 : file_refusal (71 ∷ 82 ∷ 88 ∷ 1 ∷ 0 ∷ 0 ∷ 0 ∷ 0 ∷ 0 ∷ []) ≡ 12
  -- a wrong version, and a node too many
  file_2 : file_refusal (71 ∷ 82 ∷ 68 ∷ 3 ∷ 0 ∷ 1 ∷ 16 ∷ 0 ∷ 0 ∷ []) ≡ 12
  -- no node, and an unknown kind: 1 before 9
  file_3 : file_refusal (71 ∷ 82 ∷ 68 ∷ 1 ∷ 0 ∷ 0 ∷ 0 ∷ 1 ∷ 0 ∷ 0 ∷ 0 ∷ []) ≡ 1
  -- an unknown kind as the last word
  file_4 : file_refusal (71 ∷ 82 ∷ 68 ∷ 1 ∷ 0 ∷ 2 ∷ 0 ∷ 1 ∷ 0 ∷ 11 ∷ 0 ∷ []) ≡ 9
  -- a record past the end, seen before its node 0
  file_5 : file_refusal (71 ∷ 82 ∷ 68 ∷ 1 ∷ 0 ∷ 2 ∷ 0 ∷ 1 ∷ 0 ∷ 1 ∷ 0 ∷ 0 ∷ 0 ∷ []) ≡ 12
  -- nodes that are none, then an unknown kind
  file_6 : file_refusal (71 ∷ 82 ∷ 68 ∷ 1 ∷ 0 ∷ 2 ∷ 0 ∷ 2 ∷ 0 ∷ 1 ∷ 0 ∷ 0 ∷ 0 ∷ 1 ∷ 0 ∷ 11 ∷ 0 ∷ []) ≡ 10
  -- a node above n, and a byte left over: 10 before 12
  file_7 : file_refusal (71 ∷ 82 ∷ 68 ∷ 1 ∷ 0 ∷ 2 ∷ 0 ∷ 1 ∷ 0 ∷ 1 ∷ 0 ∷ 2 ∷ 0 ∷ 3 ∷ 0 ∷ 0 ∷ []) ≡ 10
  -- a node above n twice, and a byte left over: 10 before 12
  file_8 : file_refusal (71 ∷ 82 ∷ 68 ∷ 1 ∷ 0 ∷ 2 ∷ 0 ∷ 1 ∷ 0 ∷ 1 ∷ 0 ∷ 3 ∷ 0 ∷ 3 ∷ 0 ∷ 0 ∷ []) ≡ 10
  -- node 0 twice
  file_9 : file_refusal (71 ∷ 82 ∷ 68 ∷ 1 ∷ 0 ∷ 2 ∷ 0 ∷ 1 ∷ 0 ∷ 1 ∷ 0 ∷ 0 ∷ 0 ∷ 0 ∷ 0 ∷ []) ≡ 10
  -- a repeated node, which is legal, and a byte left over: 12
  file_10 : file_refusal (71 ∷ 82 ∷ 68 ∷ 1 ∷ 0 ∷ 2 ∷ 0 ∷ 1 ∷ 0 ∷ 1 ∷ 0 ∷ 2 ∷ 0 ∷ 2 ∷ 0 ∷ 0 ∷ []) ≡ 12
  -- a repeated node, then an unknown kind
  file_11 : file_refusal (71 ∷ 82 ∷ 68 ∷ 1 ∷ 0 ∷ 2 ∷ 0 ∷ 2 ∷ 0 ∷ 1 ∷ 0 ∷ 2 ∷ 0 ∷ 2 ∷ 0 ∷ 11 ∷ 0 ∷ []) ≡ 9
  -- a byte left over
  file_12 : file_refusal (71 ∷ 82 ∷ 68 ∷ 1 ∷ 0 ∷ 2 ∷ 0 ∷ 1 ∷ 0 ∷ 1 ∷ 0 ∷ 1 ∷ 0 ∷ 2 ∷ 0 ∷ 0 ∷ []) ≡ 12
  -- half a kind word
  file_13 : file_refusal (71 ∷ 82 ∷ 68 ∷ 1 ∷ 0 ∷ 2 ∷ 0 ∷ 1 ∷ 0 ∷ 1 ∷ []) ≡ 12
  -- none of these
  file_14 : file_refusal (71 ∷ 82 ∷ 68 ∷ 1 ∷ 0 ∷ 2 ∷ 0 ∷ 1 ∷ 0 ∷ 1 ∷ 0 ∷ 1 ∷ 0 ∷ 2 ∷ 0 ∷ []) ≡ 0
  file_14_starts : start_list (file_graph (71 ∷ 82 ∷ 68 ∷ 1 ∷ 0 ∷ 2 ∷ 0 ∷ 1 ∷ 0 ∷ 1 ∷ 0 ∷ 1 ∷ 0 ∷ 2 ∷ 0 ∷ [])) ≡ (0 ∷ 1 ∷ 2 ∷ [])
  file_14_neighbours : neighbour_list (file_graph (71 ∷ 82 ∷ 68 ∷ 1 ∷ 0 ∷ 2 ∷ 0 ∷ 1 ∷ 0 ∷ 1 ∷ 0 ∷ 1 ∷ 0 ∷ 2 ∷ 0 ∷ [])) ≡ (2 ∷ 1 ∷ [])
  -- a bar on one node joins nothing
  file_15 : file_refusal (71 ∷ 82 ∷ 68 ∷ 1 ∷ 0 ∷ 2 ∷ 0 ∷ 1 ∷ 0 ∷ 1 ∷ 0 ∷ 2 ∷ 0 ∷ 2 ∷ 0 ∷ []) ≡ 0
  file_15_starts : start_list (file_graph (71 ∷ 82 ∷ 68 ∷ 1 ∷ 0 ∷ 2 ∷ 0 ∷ 1 ∷ 0 ∷ 1 ∷ 0 ∷ 2 ∷ 0 ∷ 2 ∷ 0 ∷ [])) ≡ (0 ∷ 0 ∷ 0 ∷ [])
  file_15_neighbours : neighbour_list (file_graph (71 ∷ 82 ∷ 68 ∷ 1 ∷ 0 ∷ 2 ∷ 0 ∷ 1 ∷ 0 ∷ 1 ∷ 0 ∷ 2 ∷ 0 ∷ 2 ∷ 0 ∷ [])) ≡ []
  -- a triangle
  file_16 : file_refusal (71 ∷ 82 ∷ 68 ∷ 1 ∷ 0 ∷ 3 ∷ 0 ∷ 1 ∷ 0 ∷ 2 ∷ 0 ∷ 1 ∷ 0 ∷ 2 ∷ 0 ∷ 3 ∷ 0 ∷ []) ≡ 0
  file_16_starts : start_list (file_graph (71 ∷ 82 ∷ 68 ∷ 1 ∷ 0 ∷ 3 ∷ 0 ∷ 1 ∷ 0 ∷ 2 ∷ 0 ∷ 1 ∷ 0 ∷ 2 ∷ 0 ∷ 3 ∷ 0 ∷ [])) ≡ (0 ∷ 2 ∷ 4 ∷ 6 ∷ [])
  file_16_neighbours : neighbour_list (file_graph (71 ∷ 82 ∷ 68 ∷ 1 ∷ 0 ∷ 3 ∷ 0 ∷ 1 ∷ 0 ∷ 2 ∷ 0 ∷ 1 ∷ 0 ∷ 2 ∷ 0 ∷ 3 ∷ 0 ∷ [])) ≡ (2 ∷ 3 ∷ 1 ∷ 3 ∷ 1 ∷ 2 ∷ [])
  -- a quadrilateral with one corner twice: the lists of the triangle
  file_17 : file_refusal (71 ∷ 82 ∷ 68 ∷ 1 ∷ 0 ∷ 3 ∷ 0 ∷ 1 ∷ 0 ∷ 3 ∷ 0 ∷ 1 ∷ 0 ∷ 2 ∷ 0 ∷ 3 ∷ 0 ∷ 3 ∷ 0 ∷ []) ≡ 0
  file_17_starts : start_list (file_graph (71 ∷ 82 ∷ 68 ∷ 1 ∷ 0 ∷ 3 ∷ 0 ∷ 1 ∷ 0 ∷ 3 ∷ 0 ∷ 1 ∷ 0 ∷ 2 ∷ 0 ∷ 3 ∷ 0 ∷ 3 ∷ 0 ∷ [])) ≡ (0 ∷ 2 ∷ 4 ∷ 6 ∷ [])
  file_17_neighbours : neighbour_list (file_graph (71 ∷ 82 ∷ 68 ∷ 1 ∷ 0 ∷ 3 ∷ 0 ∷ 1 ∷ 0 ∷ 3 ∷ 0 ∷ 1 ∷ 0 ∷ 2 ∷ 0 ∷ 3 ∷ 0 ∷ 3 ∷ 0 ∷ [])) ≡ (2 ∷ 3 ∷ 1 ∷ 3 ∷ 1 ∷ 2 ∷ [])
  -- a quadrilateral with two opposite corners the same: the lists of the triangle
  file_18 : file_refusal (71 ∷ 82 ∷ 68 ∷ 1 ∷ 0 ∷ 3 ∷ 0 ∷ 1 ∷ 0 ∷ 3 ∷ 0 ∷ 2 ∷ 0 ∷ 1 ∷ 0 ∷ 2 ∷ 0 ∷ 3 ∷ 0 ∷ []) ≡ 0
  file_18_starts : start_list (file_graph (71 ∷ 82 ∷ 68 ∷ 1 ∷ 0 ∷ 3 ∷ 0 ∷ 1 ∷ 0 ∷ 3 ∷ 0 ∷ 2 ∷ 0 ∷ 1 ∷ 0 ∷ 2 ∷ 0 ∷ 3 ∷ 0 ∷ [])) ≡ (0 ∷ 2 ∷ 4 ∷ 6 ∷ [])
  file_18_neighbours : neighbour_list (file_graph (71 ∷ 82 ∷ 68 ∷ 1 ∷ 0 ∷ 3 ∷ 0 ∷ 1 ∷ 0 ∷ 3 ∷ 0 ∷ 2 ∷ 0 ∷ 1 ∷ 0 ∷ 2 ∷ 0 ∷ 3 ∷ 0 ∷ [])) ≡ (2 ∷ 3 ∷ 1 ∷ 3 ∷ 1 ∷ 2 ∷ [])
  -- a pyramid on two nodes
  file_19 : file_refusal (71 ∷ 82 ∷ 68 ∷ 1 ∷ 0 ∷ 3 ∷ 0 ∷ 1 ∷ 0 ∷ 5 ∷ 0 ∷ 3 ∷ 0 ∷ 1 ∷ 0 ∷ 1 ∷ 0 ∷ 3 ∷ 0 ∷ 3 ∷ 0 ∷ []) ≡ 0
  file_19_starts : start_list (file_graph (71 ∷ 82 ∷ 68 ∷ 1 ∷ 0 ∷ 3 ∷ 0 ∷ 1 ∷ 0 ∷ 5 ∷ 0 ∷ 3 ∷ 0 ∷ 1 ∷ 0 ∷ 1 ∷ 0 ∷ 3 ∷ 0 ∷ 3 ∷ 0 ∷ [])) ≡ (0 ∷ 1 ∷ 1 ∷ 2 ∷ [])
  file_19_neighbours : neighbour_list (file_graph (71 ∷ 82 ∷ 68 ∷ 1 ∷ 0 ∷ 3 ∷ 0 ∷ 1 ∷ 0 ∷ 5 ∷ 0 ∷ 3 ∷ 0 ∷ 1 ∷ 0 ∷ 1 ∷ 0 ∷ 3 ∷ 0 ∷ 3 ∷ 0 ∷ [])) ≡ (3 ∷ 1 ∷ [])
  -- a brick on one node
  file_20 : file_refusal (71 ∷ 82 ∷ 68 ∷ 1 ∷ 0 ∷ 2 ∷ 0 ∷ 1 ∷ 0 ∷ 7 ∷ 0 ∷ 2 ∷ 0 ∷ 2 ∷ 0 ∷ 2 ∷ 0 ∷ 2 ∷ 0 ∷ 2 ∷ 0 ∷ 2 ∷ 0 ∷ 2 ∷ 0 ∷ 2 ∷ 0 ∷ []) ≡ 0
  file_20_starts : start_list (file_graph (71 ∷ 82 ∷ 68 ∷ 1 ∷ 0 ∷ 2 ∷ 0 ∷ 1 ∷ 0 ∷ 7 ∷ 0 ∷ 2 ∷ 0 ∷ 2 ∷ 0 ∷ 2 ∷ 0 ∷ 2 ∷ 0 ∷ 2 ∷ 0 ∷ 2 ∷ 0 ∷ 2 ∷ 0 ∷ 2 ∷ 0 ∷ [])) ≡ (0 ∷ 0 ∷ 0 ∷ [])
  file_20_neighbours : neighbour_list (file_graph (71 ∷ 82 ∷ 68 ∷ 1 ∷ 0 ∷ 2 ∷ 0 ∷ 1 ∷ 0 ∷ 7 ∷ 0 ∷ 2 ∷ 0 ∷ 2 ∷ 0 ∷ 2 ∷ 0 ∷ 2 ∷ 0 ∷ 2 ∷ 0 ∷ 2 ∷ 0 ∷ 2 ∷ 0 ∷ 2 ∷ 0 ∷ [])) ≡ []

-- the whole table
example_table : ExampleTable
unfolding computes found ordered number_of refusals names names_found names_ordered deeper deeper-found deeper-ordered passes passes_found passes_ordered in_e in_e_found in_e_ordered equal equal_found equal_ordered larger larger-found larger-ordered untouched untouched_found untouched_ordered narrower narrower-found narrower-ordered degrees degrees_found degrees_ordered leftover leftover_found leftover_ordered lowest lowest_found lowest_ordered directions directions_found directions_ordered profiles profiles_found profiles_ordered each_part each_part_found each_part_ordered isolated isolated_found isolated_ordered
example_table = record {
  is_names = refl;
  order_of_names = refl;
  is_deeper = refl;
  order_of-deeper = refl;
  is_passes = refl;
  order_of_passes = refl;
  is_in_e = refl;
  order_of_in_e = refl;
  is_equal = refl;
  order_of_equal = refl;
  is_larger = refl;
  order_of-larger = refl;
  is_untouched = refl;
  order_of_untouched = refl;
  is_narrower = refl;
  order_of-narrower = refl;
  is_degrees = refl;
  order_of_degrees = refl;
  is_leftover = refl;
  order_of_leftover = refl;
  is_lowest = refl;
  order_of_lowest = refl;
  is_directions = refl;
  order_of_directions = refl;
  is_profiles = refl;
  order_of_profiles = refl;
  is_each_part = refl;
  order_of_each_part = refl;
  is_isolated = refl;
  order_of_isolated = refl;
  refusals_1 = refl;
  refusals_2 = refl;
  refusals_3 = refl;
  refusals_4 = refl;
  refusals_5 = refl;
  refusals_6 = refl;
  refusals_7 = refl;
  refusals_8 = refl;
  refusals_9 = refl;
  refusals_10 = refl;
  refusals_11 = refl;
  sizes_1 = refl;
  sizes_2 = refl;
  sizes_3 = refl;
  sizes_4 = refl;
  sizes_5 = refl;
  sizes_6 = refl;
  sizes_7 = refl;
  sizes_8 = refl;
  sizes_9 = refl;
  sizes_10 = refl;
  run_1_refusal = refl;
  run_1_passes = refl;
  cuthill_1_refusal = refl;
  cuthill_1_passes = refl;
  run_2_refusal = refl;
  run_2_passes = refl;
  cuthill_2_refusal = refl;
  cuthill_2_passes = refl;
  run_3_refusal = refl;
  run_3_passes = refl;
  cuthill_3_refusal = refl;
  cuthill_3_passes = refl;
  run_4_refusal = refl;
  run_4_passes = refl;
  cuthill_4_refusal = refl;
  cuthill_4_passes = refl;
  run_5_refusal = refl;
  run_5_passes = refl;
  cuthill_5_refusal = refl;
  cuthill_5_passes = refl;
  run_6_refusal = refl;
  run_6_passes = refl;
  cuthill_6_refusal = refl;
  cuthill_6_passes = refl;
  file_1 = refl;
  file_2 = refl;
  file_3 = refl;
  file_4 = refl;
  file_5 = refl;
  file_6 = refl;
  file_7 = refl;
  file_8 = refl;
  file_9 = refl;
  file_10 = refl;
  file_11 = refl;
  file_12 = refl;
  file_13 = refl;
  file_14 = refl;
  file_14_starts = refl;
  file_14_neighbours = refl;
  file_15 = refl;
  file_15_starts = refl;
  file_15_neighbours = refl;
  file_16 = refl;
  file_16_starts = refl;
  file_16_neighbours = refl;
  file_17 = refl;
  file_17_starts = refl;
  file_17_neighbours = refl;
  file_18 = refl;
  file_18_starts = refl;
  file_18_neighbours = refl;
  file_19 = refl;
  file_19_starts = refl;
  file_19_neighbours = refl;
  file_20 = refl;
  file_20_starts = refl;
  file_20_neighbours = refl;
}
