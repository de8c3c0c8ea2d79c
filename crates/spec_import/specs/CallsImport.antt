-- Numberings from other mesh tools (document 02, A.5): "Suppliers send their own sequence as pairs, old number then new, after the SEQGP cards of
-- source document 004. .. They also send bandwidth, profile and front." The pairs are words, one pair after the other. The call takes the counts
-- of unknowns as every call that measures does (A.6), and the three figures are those of the unknowns.
-- Assumes nothing.
use Rattle.std.specs.Prelude.{ℕ, ◌%◌, Bool, not, cond, ◌&&◌, ◌||◌, List, [], ◌∷◌, map, length, eqb, ltb}
use Rattle.basis.specs.Lists.{anyb, up_from}
use Rattle.basis.specs.Perm.{times}
use Rattle.spec.specs.Refusal.{refuse, ◌or_else◌}
use Rattle.spec.specs.Lent.{Outcome, outcome, filled, scratch_after, short}
use Rattle.spec.specs.Graph.{graph_of, graph_refusal, size_of, outside}
use Rattle.spec.specs.Measures.{is_numbering}
use Rattle.spec.specs.Unknowns.{bad_counts, renumbered_unknowns}
use Rattle.spec.specs.CallsNumbering.{MeasureFigures, measure_figures}

-- ---- the list of pairs

-- the old numbers of the pairs, in their order; a last odd word is none
unfoldable pub old_numbers : List ℕ → List ℕ
old_numbers [] = []
old_numbers (old ∷ []) = []
old_numbers (old ∷ new ∷ pairs) = old ∷ old_numbers pairs

-- the new number of node p: that of its pair, and "Nodes not in the list keep their own number"
unfoldable pub new_number : List ℕ → ℕ → ℕ
new_number [] p = p
new_number (old ∷ []) p = p
new_number (old ∷ new ∷ pairs) p = cond (eqb p old) new (new_number pairs p)

-- "the full numbering", by old number
unfoldable pub supplied : ℕ → List ℕ → List ℕ
supplied n pairs = map (new_number pairs) (up_from 1 n)

-- a number stands in the list more than once
unfoldable pub given_twice : List ℕ → Bool
given_twice ps = anyb (λ p. ltb 1 (times p ps)) ps

-- 13: "an odd number of words or an old number given twice or outside 1 to n"
unfoldable pub refuses13 : ℕ → List ℕ → Bool
refuses13 n pairs = eqb (length pairs % 2) 1 || given_twice (old_numbers pairs) || anyb (outside n) (old_numbers pairs)

-- ---- the figures

-- "the three figures are those of our measures"
unfoldable pub same_figures : MeasureFigures → MeasureFigures → Bool
same_figures sent found = eqb sent.bandwidth found.bandwidth && eqb sent.profile found.profile && eqb sent.front found.front

-- ---- the call: the pairs and the three figures are given; "a lent numbering of n words and scratch n"

module _ (starts neighbours counts pairs : List ℕ) (sent : MeasureFigures) (numbersBuffer scratch : List ℕ) where
  -- 1 to 4, then 5 for either buffer, then 15, "ahead of 6, 7 and 13" (A.6); then 13, "tested after 5; then 7; then 14 for a wrong figure"
  unfoldable pub import_refusal : ℕ
  import_refusal =
      graph_refusal starts neighbours
      or_else refuse (short numbersBuffer (size_of starts) || short scratch (size_of starts)) 5
      or_else refuse (bad_counts (size_of starts) counts) 15
      or_else refuse (refuses13 (size_of starts) pairs) 13
      or_else refuse (not (is_numbering (size_of starts) (supplied (size_of starts) pairs))) 7
      or_else refuse
      (not (same_figures sent (measure_figures (renumbered_unknowns (graph_of starts neighbours) counts (supplied (size_of starts) pairs)))))
      14

  -- what the call answers: that it "accepts", and no more
  unfoldable pub import_answer : Outcome (Unit {0})
  import_answer = outcome import_refusal tt

  -- "It hands the full numbering back in the lent one"; refused, "the lent numbering stays untouched"
  unfoldable pub import_numbers : List ℕ
  import_numbers = filled import_refusal (supplied (size_of starts) pairs) numbersBuffer

  -- the scratch afterwards: accepted, "the n scratch words 0"; "14 leaves the n scratch words 0 as 7 does, and 13 leaves them untouched"
  unfoldable pub import_scratch : List ℕ
  import_scratch = scratch_after (eqb import_refusal 0 || eqb import_refusal 7 || eqb import_refusal 14) (size_of starts) scratch
