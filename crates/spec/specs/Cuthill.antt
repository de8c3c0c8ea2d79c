-- Reverse Cuthill-McKee (document 02, A.3; the 1976 paper's section 3, step B and step D): the order of a part and of the whole graph. Its figures
-- are in unknowns (A.6); the order does not depend on the counts.
-- Assumes nothing.
use Rattle.std.specs.Prelude.{ℕ, ◌-◌}
use mathlib.Core.List.{List, [], ◌∷◌, map, foldl, reverse}
use Rattle.basis.specs.Lists.{up_from}
use Rattle.spec.specs.Graph.{Graph}
use Rattle.spec.specs.Levels.{levels, level_list, leaders}
use Rattle.spec.specs.Ends.{Ends, depth_at, ends}
use Rattle.spec.specs.Unknowns.{unknown_width}
use Rattle.spec.specs.Numbering.{level_nodes, from_before, Reversed, PartResult, Run, run_of}

-- Step B, from the root v: "The root vertex is assigned the number 1". "For each successive level, beginning with level 2, first number the
-- vertices adjacent to the lowest numbered vertex of the preceding level, in order of increasing degree", then those of the next, and so on.
-- "Ties go by order E".
unfoldable pub cuthill_mc_kee : Graph → ℕ → List ℕ
cuthill_mc_kee g v =
    let ls : List ℕ = level_list g (levels g v) in
    foldl (λ o i. from_before g (level_nodes g ls (i - 1)) (level_nodes g ls i) o) (v ∷ []) (up_from 2 (depth_at g v - 1))

-- What is found of the part with these ends: "each part starts from the v of our end search", "Levels are those rooted at v". Step D: "Every
-- part is turned"; its levels are not.
unfoldable pub cuthill_result_by : Graph → List ℕ → Ends → PartResult
cuthill_result_by g counts e =
    let ls : List ℕ = level_list g (levels g e.v) in
    record {
      levels = ls;
      order = reverse (cuthill_mc_kee g e.v);
      report = record { v = e.v; u = e.u; k = e.k; width = unknown_width g counts e.k ls; passes = e.passes; direction = Reversed };
    }

-- the part of z
unfoldable pub cuthill_result : Graph → List ℕ → ℕ → PartResult
cuthill_result g counts z = cuthill_result_by g counts (ends g z)

-- "parts by lowest old number"
unfoldable pub cuthill_results : Graph → List ℕ → List PartResult
cuthill_results g counts = map (cuthill_result g counts) (leaders g)

-- the whole graph, with "the run's .. figures": "turning is done part by part"
unfoldable pub cuthill_run : Graph → List ℕ → Run
cuthill_run g counts = run_of g counts (cuthill_results g counts)
