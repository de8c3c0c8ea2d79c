-- The calls of the library `numbering` (document 01, "Lent buffers" and its table): measures, part report, whole run. "Calls that number,
-- measure, eliminate or report a part take the counts" (document 02, A.6): n words, by old number. 15 is tested "after 5, ahead of 6, 7".
-- Assumes nothing.
use Rattle.std.specs.Prelude.{ℕ, ◌*◌, not, ◌||◌, List, eqb}
use Rattle.spec.specs.Refusal.{refuse, ◌or_else◌}
use Rattle.spec.specs.Lent.{Outcome, outcome, filled, scratch_after, words_per_node, short}
use Rattle.spec.specs.Graph.{Graph, graph_of, graph_refusal, size_of, outside}
use Rattle.spec.specs.Measures.{is_numbering, bandwidth, profile, front}
use Rattle.spec.specs.Unknowns.{bad_counts, renumbered_unknowns}
use Rattle.spec.specs.Numbering.{PartReport, Figures, part_result, run}
use Rattle.spec.specs.CallsLevels.{part_scratch}

-- ---- measures: a numbering is given, scratch n is lent

-- "the measures their three"
pub record MeasureFigures : Type 0 where
  pub bandwidth : ℕ
  pub profile : ℕ
  pub front : ℕ

-- the three of a graph by its new numbers: here of the unknowns by theirs
unfoldable pub measure_figures : Graph → MeasureFigures
measure_figures h = record { bandwidth = bandwidth h; profile = profile h; front = front h }

module _ (starts neighbours counts numbering scratch : List ℕ) where
  -- 1 to 4, then 5, then 15, then 7
  unfoldable pub measures_refusal : ℕ
  measures_refusal =
      graph_refusal starts neighbours
      or_else refuse (short scratch (size_of starts)) 5
      or_else refuse (bad_counts (size_of starts) counts) 15
      or_else refuse (not (is_numbering (size_of starts) numbering)) 7

  -- what the call answers
  unfoldable pub measures_answer : Outcome MeasureFigures
  measures_answer = outcome measures_refusal (measure_figures (renumbered_unknowns (graph_of starts neighbours) counts numbering))

  -- the scratch afterwards: accepted, and by 7, "the n scratch words 0"
  unfoldable pub measures_scratch : List ℕ
  measures_scratch = scratch_after (eqb measures_refusal 0 || eqb measures_refusal 7) (size_of starts) scratch

-- ---- part report: any node of the part is given, scratch 6n is lent

module _ (starts neighbours counts : List ℕ) (node : ℕ) (scratch : List ℕ) where
  -- 1 to 4, then 5, then 15, then 6
  unfoldable pub report_refusal : ℕ
  report_refusal =
      graph_refusal starts neighbours
      or_else refuse (short scratch (words_per_node * size_of starts)) 5
      or_else refuse (bad_counts (size_of starts) counts) 15
      or_else refuse (outside (size_of starts) node) 6

  -- what the call answers
  unfoldable pub report_answer : Outcome PartReport
  report_answer = outcome report_refusal (part_result (graph_of starts neighbours) counts node).report

  -- the scratch afterwards
  unfoldable pub report_scratch : List ℕ
  report_scratch = part_scratch report_refusal starts scratch

-- ---- the whole run: numbers n, levels n, passes n and scratch 6n are lent

module _ (starts neighbours counts numbersBuffer levelsBuffer passesBuffer scratch : List ℕ) where
  -- 1 to 4, then 5 for any of the four buffers, then 15
  unfoldable pub run_refusal : ℕ
  run_refusal =
      graph_refusal starts neighbours
      or_else refuse
      (short numbersBuffer (size_of starts)
      || short levelsBuffer (size_of starts)
      || short passesBuffer (size_of starts)
      || short scratch (words_per_node * size_of starts))
      5
      or_else refuse (bad_counts (size_of starts) counts) 15

  -- what the run answers: "seven figures"
  unfoldable pub run_answer : Outcome Figures
  run_answer = outcome run_refusal (run (graph_of starts neighbours) counts).figures

  -- the numbers afterwards, "by old number"
  unfoldable pub run_numbers : List ℕ
  run_numbers = filled run_refusal (run (graph_of starts neighbours) counts).numbers numbersBuffer

  -- the levels afterwards, by old number, "as they stand after any change of names"
  unfoldable pub run_levels : List ℕ
  run_levels = filled run_refusal (run (graph_of starts neighbours) counts).levels levelsBuffer

  -- the passes afterwards: "a count for every part .. ordered as the parts are", "zeros after the last part"
  unfoldable pub run_passes : List ℕ
  run_passes = filled run_refusal (run (graph_of starts neighbours) counts).passes passesBuffer

  -- the scratch afterwards
  unfoldable pub run_scratch : List ℕ
  run_scratch = part_scratch run_refusal starts scratch
