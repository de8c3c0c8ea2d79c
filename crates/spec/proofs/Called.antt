-- The calls on two lists, with one unknown each and with lent buffers of 9s, so that what a call writes shows: what the tables speak of.
-- Assumes nothing.
use Prim.Native.Nat.{ℕ, ◌*◌}
use mathlib.Core.List.{List}
use lib.ListN.{replicate}
use Rattle.spec.specs.Graph.{size_of}
use Rattle.spec.specs.Ends.{Ends}
use Rattle.spec.specs.Unknowns.{ones}
use Rattle.spec.specs.Numbering.{PartReport, Figures}
use Rattle.spec.specs.Lent.{Outcome, refused, accepted}
use Rattle.spec.specs.CallsLevels.{LevelFigures, CombinedFigures, rooted_answer, ends_answer, combined_answer, combined_levels}
use Rattle.spec.specs.CallsNumbering.{MeasureFigures, measures_answer, report_answer, run_answer, run_numbers, run_levels, run_passes}
use Rattle.spec.specs.CallsStore.{EliminationFigures, elimination_answer, elimination_bytes}

-- a refusal's number, 0 for an accepted call
unfoldable pub number_of : {A : Type 0} → Outcome A → ℕ
number_of (refused c) = c
number_of (accepted a) = 0

-- the two lists of a graph
pub record Lists : Type 0 where
  pub starts : List ℕ
  pub neighbours : List ℕ

-- a lent buffer of k words for each node
abbrev pub words : Lists → ℕ → List ℕ
words l k = replicate (k * size_of l.starts) 9

-- one unknown each
abbrev pub each : Lists → List ℕ
each l = ones (size_of l.starts)

-- the numbers that the run writes
abbrev pub numbers_for : Lists → List ℕ
numbers_for l = run_numbers l.starts l.neighbours (each l) (words l 1) (words l 1) (words l 1) (words l 6)

-- the levels that the run writes
abbrev pub levels_for : Lists → List ℕ
levels_for l = run_levels l.starts l.neighbours (each l) (words l 1) (words l 1) (words l 1) (words l 6)

-- the passes that the run writes
abbrev pub passes_for : Lists → List ℕ
passes_for l = run_passes l.starts l.neighbours (each l) (words l 1) (words l 1) (words l 1) (words l 6)

-- what the run answers
abbrev pub figures_for : Lists → Outcome Figures
figures_for l = run_answer l.starts l.neighbours (each l) (words l 1) (words l 1) (words l 1) (words l 6)

-- the levels rooted at r
abbrev pub rooted_for : Lists → ℕ → Outcome LevelFigures
rooted_for l r = rooted_answer l.starts l.neighbours r (words l 1) (words l 1)

-- the ends of z's part
abbrev pub ends_for : Lists → ℕ → Outcome Ends
ends_for l z = ends_answer l.starts l.neighbours z (words l 6)

-- the combined levels of z's part, before any change of names
abbrev pub combined_for : Lists → ℕ → List ℕ
combined_for l z = combined_levels l.starts l.neighbours z (words l 1) (words l 6)

-- how many there are, and the greatest count of nodes in one
abbrev pub thickness_for : Lists → ℕ → Outcome CombinedFigures
thickness_for l z = combined_answer l.starts l.neighbours z (words l 1) (words l 6)

-- the report of z's part
abbrev pub report_for : Lists → ℕ → Outcome PartReport
report_for l z = report_answer l.starts l.neighbours (each l) z (words l 6)

-- the measures of a numbering
abbrev pub measures_for : Lists → List ℕ → Outcome MeasureFigures
measures_for l x = measures_answer l.starts l.neighbours (each l) x (words l 1)

-- the elimination under a numbering, with b bytes lent
abbrev pub elimination_for : Lists → List ℕ → ℕ → Outcome EliminationFigures
elimination_for l x b = elimination_answer l.starts l.neighbours (each l) x (words l 1) (replicate b 9)

-- the bytes that it leaves
abbrev pub bytes_for : Lists → List ℕ → ℕ → List ℕ
bytes_for l x b = elimination_bytes l.starts l.neighbours (each l) x (words l 1) (replicate b 9)

-- the seven figures in the order of the program's first line
abbrev pub seven : ℕ → ℕ → ℕ → ℕ → ℕ → ℕ → ℕ → Outcome Figures
seven n parts b p f ls w =
    accepted (record { nodes = n; parts = parts; bandwidth = b; profile = p; front = f; levels = ls; width = w })
