-- The calls as they stood before the unknowns (document 02, A.6): without counts, and without 15. With one unknown each nothing has changed.
-- Assumes nothing.
use Rattle.std.specs.Prelude.{ℕ, ◌*◌, not, ◌||◌, List, ◌≡◌, eqb}
use Rattle.spec.specs.CallsLevels.{part_refusal, part_scratch}
use Rattle.spec.specs.CallsNumbering.{MeasureFigures, measure_figures}
use Rattle.spec.specs.CallsStore.{EliminationFigures, elimination_figures}
use Rattle.spec.specs.Graph.{graph_of, graph_refusal, size_of}
use Rattle.spec.specs.Lent.{Outcome, outcome, filled, scratch_after, words_per_node, short}
use Rattle.spec.specs.Measures.{is_numbering, renumbered}
use Rattle.spec.specs.Numbering.{PartReport, Figures, Run}
use Rattle.spec.specs.Refusal.{refuse, ◌or_else◌}
use Rattle.spec.specs.Store.{mark_bytes, mark_byte_count}
use Rattle.laws.specs.InNodes.{part_in_nodes}

-- ---- measures

module _ (starts neighbours numbering scratch : List ℕ) where
  unfoldable pub measures_refusal_before : ℕ
  measures_refusal_before =
      graph_refusal starts neighbours
      or_else refuse (short scratch (size_of starts)) 5
      or_else refuse (not (is_numbering (size_of starts) numbering)) 7

  unfoldable pub measures_answer_before : Outcome MeasureFigures
  measures_answer_before = outcome measures_refusal_before (measure_figures (renumbered (graph_of starts neighbours) numbering))

  unfoldable pub measures_scratch_before : List ℕ
  measures_scratch_before = scratch_after (eqb measures_refusal_before 0 || eqb measures_refusal_before 7) (size_of starts) scratch

-- ---- elimination

module _ (starts neighbours numbering scratch bytes : List ℕ) where
  unfoldable pub elimination_refusal_before : ℕ
  elimination_refusal_before =
      measures_refusal_before starts neighbours numbering scratch
      or_else refuse (short bytes (mark_byte_count (renumbered (graph_of starts neighbours) numbering))) 8

  unfoldable pub elimination_answer_before : Outcome EliminationFigures
  elimination_answer_before = outcome elimination_refusal_before (elimination_figures (renumbered (graph_of starts neighbours) numbering))

  unfoldable pub elimination_scratch_before : List ℕ
  elimination_scratch_before =
      scratch_after (eqb elimination_refusal_before 0 || eqb elimination_refusal_before 7 || eqb elimination_refusal_before 8) (size_of starts) scratch

  unfoldable pub elimination_bytes_before : List ℕ
  elimination_bytes_before = filled elimination_refusal_before (mark_bytes (renumbered (graph_of starts neighbours) numbering)) bytes

-- ---- part report

module _ (starts neighbours : List ℕ) (node : ℕ) (scratch : List ℕ) where
  unfoldable pub report_answer_before : Outcome PartReport
  report_answer_before = outcome (part_refusal starts neighbours node scratch) (part_in_nodes (graph_of starts neighbours) node).report

  unfoldable pub report_scratch_before : List ℕ
  report_scratch_before = part_scratch (part_refusal starts neighbours node scratch) starts scratch

-- ---- the run and A.3's call, by what was found of the graph

-- 1 to 4, then 5 for any of the four buffers
unfoldable pub run_refusal_before : List ℕ → List ℕ → List ℕ → List ℕ → List ℕ → List ℕ → ℕ
run_refusal_before starts neighbours numbersBuffer levelsBuffer passesBuffer scratch =
    graph_refusal starts neighbours
    or_else refuse
    (short numbersBuffer (size_of starts)
    || short levelsBuffer (size_of starts)
    || short passesBuffer (size_of starts)
    || short scratch (words_per_node * size_of starts))
    5

-- a call that answers A and leaves X', L', P' and W' in numbers X, levels L, passes P and scratch W
pub record RanBefore (whole : Run) (S N X L P W : List ℕ) (A : Outcome Figures) (X' L' P' W' : List ℕ) : Type 0 where
  pub answer : A ≡ outcome (run_refusal_before S N X L P W) whole.figures
  pub numbers : X' ≡ filled (run_refusal_before S N X L P W) whole.numbers X
  pub levels : L' ≡ filled (run_refusal_before S N X L P W) whole.levels L
  pub passes : P' ≡ filled (run_refusal_before S N X L P W) whole.passes P
  pub scratch : W' ≡ part_scratch (run_refusal_before S N X L P W) S W
