-- What an answer of the elimination means in document 01's numbers and values, and what is answered and left where only the mark bytes are still
-- to be tested. Assumes nothing.
use Rattle.std.specs.Prelude.{List, ℕ, Result}
use Rattle.spec.specs.CallsStore.{EliminationFigures, elimination_figures}
use Rattle.spec.specs.Graph.{Graph}
use Rattle.spec.specs.Lent.{Outcome, outcome, filled, short}
use Rattle.spec.specs.Refusal.{refuse}
use Rattle.spec.specs.Store.{mark_byte_count, mark_bytes}
use Rattle.refusals.specs.Numbers.{outcome_of}
use Rattle.refusals.specs.declared.Refusal.{Refusal}
use Rattle.store_unknowns.specs.Answer.{figures_of}
use Rattle.store_unknowns.specs.declared.answer.Counts.{Counts}

-- 1 to 4, 5, 15, 7 or 8, by its number, or the marks that are 1 and the newly joined pairs
abbrev pub meaning : Result Counts Refusal → Outcome EliminationFigures
meaning = outcome_of figures_of

-- ---- the elimination of the graph h, by its new numbers, where mark bytes are lent

-- 8: they are short
abbrev pub bytes_refusal : Graph → List ℕ → ℕ
bytes_refusal h bytes = refuse (short bytes (mark_byte_count h)) 8

-- what is answered
abbrev pub eliminated : Graph → List ℕ → Outcome EliminationFigures
eliminated h bytes = outcome (bytes_refusal h bytes) (elimination_figures h)

-- the mark bytes afterwards
abbrev pub bytes_after : Graph → List ℕ → List ℕ
bytes_after h bytes = filled (bytes_refusal h bytes) (mark_bytes h) bytes
