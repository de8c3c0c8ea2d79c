-- The calls of the library `store` (document 01, "Lent buffers" and its table): elimination, and a numbering call with the
-- elimination after it. Each takes the counts (document 02, A.6), and "demand 3 .. hand both their calls the same ones".
-- Assumes nothing.
use Rattle.std.specs.Prelude.{ℕ, ◌||◌, List, take, eqb}
use Rattle.spec.specs.Refusal.{refuse, ◌or_else◌}
use Rattle.spec.specs.Lent.{Outcome, accepted, refused, outcome, filled, scratch_after, short}
use Rattle.spec.specs.Graph.{Graph, graph_of, size_of}
use Rattle.spec.specs.Unknowns.{renumbered_unknowns}
use Rattle.spec.specs.Numbering.{Figures}
use Rattle.spec.specs.Store.{mark_bytes, mark_byte_count, mark_count, new_count}
use Rattle.spec.specs.CallsNumbering.{measures_refusal, run_answer, run_numbers, run_scratch}

-- ---- elimination: a numbering is given, scratch n and the mark bytes are lent

-- "elimination its two counts"
pub record EliminationFigures : Type 0 where
  pub marked : ℕ
  pub new : ℕ

-- the marks that are 1, and the newly joined pairs, of a graph by its new numbers: here of the unknowns by theirs
unfoldable pub elimination_figures : Graph → EliminationFigures
elimination_figures h = record { marked = mark_count h; new = new_count h }

module _ (starts neighbours counts numbering scratch bytes : List ℕ) where
  -- as the measures, 1 to 4, 5, 15 and 7; then 8
  unfoldable pub elimination_refusal : ℕ
  elimination_refusal =
      measures_refusal starts neighbours counts numbering scratch
      or_else refuse (short bytes (mark_byte_count (renumbered_unknowns (graph_of starts neighbours) counts numbering))) 8

  -- what the call answers
  unfoldable pub elimination_answer : Outcome EliminationFigures
  elimination_answer = outcome elimination_refusal (elimination_figures (renumbered_unknowns (graph_of starts neighbours) counts numbering))

  -- the scratch afterwards: accepted, and by 7 and 8, "the n scratch words 0"
  unfoldable pub elimination_scratch : List ℕ
  elimination_scratch =
      scratch_after (eqb elimination_refusal 0 || eqb elimination_refusal 7 || eqb elimination_refusal 8) (size_of starts) scratch

  -- the mark bytes afterwards
  unfoldable pub elimination_bytes : List ℕ
  elimination_bytes = filled elimination_refusal (mark_bytes (renumbered_unknowns (graph_of starts neighbours) counts numbering)) bytes

-- ---- a numbering call and the elimination after it, as one call of our own: numbers n, levels n, passes n, scratch 6n and the mark bytes are
-- lent. The elimination works in the first n scratch words. Numbers, levels, passes and scratch end as the numbering call leaves them.

-- the numbering call's figures, and what the elimination answers
pub record RunElimination : Type 0 where
  pub figures : Figures
  pub elimination : Outcome EliminationFigures

-- what is handed on of a list: its n words, "without the excess of a longer buffer"
abbrev pub handed_on : List ℕ → List ℕ → List ℕ
handed_on starts list = take (size_of starts) list

-- said once for every order of ours: the numbering call leaves these numbers and this scratch
module _ (starts neighbours counts numbers scratch bytes : List ℕ) where
  -- by what the numbering call answers: refused as it is; where it is accepted, its figures stand beside the elimination's answer or refusal
  unfoldable pub then_eliminate_answer : Outcome Figures → Outcome RunElimination
  then_eliminate_answer (refused c) = refused c
  then_eliminate_answer (accepted f) =
      accepted (record { figures = f; elimination = elimination_answer starts neighbours counts (handed_on starts numbers) (handed_on starts scratch) bytes })

  -- the mark bytes afterwards: untouched where the numbering call is refused, else as the elimination leaves them
  unfoldable pub then_eliminate_bytes : Outcome Figures → List ℕ
  then_eliminate_bytes (refused c) = bytes
  then_eliminate_bytes (accepted f) = elimination_bytes starts neighbours counts (handed_on starts numbers) (handed_on starts scratch) bytes

-- run and eliminate; the lists end as `runNumbers`, `runLevels`, `runPasses` and `runScratch` say
module _ (starts neighbours counts numbersBuffer levelsBuffer passesBuffer scratch bytes : List ℕ) where
  unfoldable pub run_eliminate_answer : Outcome RunElimination
  run_eliminate_answer =
      then_eliminate_answer starts neighbours counts (run_numbers starts neighbours counts numbersBuffer levelsBuffer passesBuffer scratch)
      (run_scratch starts neighbours counts numbersBuffer levelsBuffer passesBuffer scratch) bytes
      (run_answer starts neighbours counts numbersBuffer levelsBuffer passesBuffer scratch)

  -- the mark bytes afterwards
  unfoldable pub run_eliminate_bytes : List ℕ
  run_eliminate_bytes =
      then_eliminate_bytes starts neighbours counts (run_numbers starts neighbours counts numbersBuffer levelsBuffer passesBuffer scratch)
      (run_scratch starts neighbours counts numbersBuffer levelsBuffer passesBuffer scratch) bytes
      (run_answer starts neighbours counts numbersBuffer levelsBuffer passesBuffer scratch)
