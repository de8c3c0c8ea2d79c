-- The passes as document 01 had them, one count "summed over parts", and what its program printed. Assumes nothing.
use Rattle.std.specs.Prelude.{ℕ, zero, suc, List, ◌++◌, map}
use Rattle.basis.specs.Lists.{join_all, sum}
use Rattle.spec.specs.Graph.{Graph, nodes}
use Rattle.spec.specs.Numbering.{part_results, run}
use Rattle.spec.specs.File.{figures_line, node_line, refused_line, file_refusal, file_graph, file_counts}

-- the single counter
abbrev pub one_count : Graph → List ℕ → ℕ
one_count g counts = sum (map (λ r. r.report.passes) (part_results g counts))

-- the listing with it, or the line of a refusal
abbrev pub output_before : ℕ → Graph → List ℕ → List ℕ
output_before zero g counts = figures_line (run g counts).figures (one_count g counts) ++ join_all (map (node_line (run g counts)) (nodes g))
output_before (suc c) g counts = refused_line (suc c)

-- what was printed of a file
abbrev pub program_before : List ℕ → List ℕ
program_before bs = output_before (file_refusal bs) (file_graph bs) (file_counts bs)
