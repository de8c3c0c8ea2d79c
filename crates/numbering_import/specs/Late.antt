-- The tests after the counts: 13, 7 and 14. Assumes nothing.
use Rattle.std.specs.Prelude.{not, List, ℕ}
use Rattle.spec_import.specs.CallsImport.{supplied, refuses13, same_figures}
use Rattle.spec.specs.CallsNumbering.{MeasureFigures, measure_figures}
use Rattle.spec.specs.Graph.{graph_of, size_of}
use Rattle.spec.specs.Measures.{is_numbering}
use Rattle.spec.specs.Refusal.{refuse, ◌or_else◌}
use Rattle.spec.specs.Unknowns.{renumbered_unknowns}

-- 7 and then 14, of a list of numbers
unfoldable pub numbering_refusal : List ℕ → List ℕ → List ℕ → List ℕ → MeasureFigures → ℕ
numbering_refusal S N K X sent =
    refuse (not (is_numbering (size_of S) X)) 7 or_else refuse (not (same_figures sent (measure_figures (renumbered_unknowns (graph_of S N) K X)))) 14

-- 13 before them, of a list of pairs
unfoldable pub pairs_refusal : List ℕ → List ℕ → List ℕ → List ℕ → MeasureFigures → ℕ
pairs_refusal S N K P sent = refuse (refuses13 (size_of S) P) 13 or_else numbering_refusal S N K (supplied (size_of S) P) sent
