-- The call of document 02's A.3, Reverse Cuthill-McKee: "a further call with the run's buffers and figures". It refuses as the run does, and
-- takes the counts as it does (A.6). And the same with the elimination after it.
-- Assumes nothing.
use Rattle.std.specs.Prelude.{ℕ, List}
use Rattle.spec.specs.Lent.{Outcome, outcome, filled}
use Rattle.spec.specs.Graph.{graph_of}
use Rattle.spec.specs.Numbering.{Figures}
use Rattle.spec.specs.Cuthill.{cuthill_run}
use Rattle.spec.specs.CallsNumbering.{run_refusal, run_scratch}
use Rattle.spec.specs.CallsStore.{RunElimination, then_eliminate_answer, then_eliminate_bytes}

-- numbers n, levels n, passes n and scratch 6n are lent
module _ (starts neighbours counts numbersBuffer levelsBuffer passesBuffer scratch : List ℕ) where
  -- 1 to 4, then 5 for any of the four buffers, then 15
  unfoldable pub cuthill_refusal : ℕ
  cuthill_refusal = run_refusal starts neighbours counts numbersBuffer levelsBuffer passesBuffer scratch

  -- what the call answers: the run's seven figures
  unfoldable pub cuthill_answer : Outcome Figures
  cuthill_answer = outcome cuthill_refusal (cuthill_run (graph_of starts neighbours) counts).figures

  -- the numbers afterwards, by old number
  unfoldable pub cuthill_numbers : List ℕ
  cuthill_numbers = filled cuthill_refusal (cuthill_run (graph_of starts neighbours) counts).numbers numbersBuffer

  -- the levels afterwards, by old number: "Levels are those rooted at v"
  unfoldable pub cuthill_levels : List ℕ
  cuthill_levels = filled cuthill_refusal (cuthill_run (graph_of starts neighbours) counts).levels levelsBuffer

  -- the passes of each part afterwards, as A.9 has them
  unfoldable pub cuthill_passes : List ℕ
  cuthill_passes = filled cuthill_refusal (cuthill_run (graph_of starts neighbours) counts).passes passesBuffer

  -- the scratch afterwards
  unfoldable pub cuthill_scratch : List ℕ
  cuthill_scratch = run_scratch starts neighbours counts numbersBuffer levelsBuffer passesBuffer scratch

-- reverse Cuthill-McKee and eliminate: the lists end as `cuthillNumbers`, `cuthillLevels`, `cuthillPasses` and `cuthillScratch` say
module _ (starts neighbours counts numbersBuffer levelsBuffer passesBuffer scratch bytes : List ℕ) where
  unfoldable pub cuthill_eliminate_answer : Outcome RunElimination
  cuthill_eliminate_answer =
      then_eliminate_answer starts neighbours counts (cuthill_numbers starts neighbours counts numbersBuffer levelsBuffer passesBuffer scratch)
      (cuthill_scratch starts neighbours counts numbersBuffer levelsBuffer passesBuffer scratch) bytes
      (cuthill_answer starts neighbours counts numbersBuffer levelsBuffer passesBuffer scratch)

  -- the mark bytes afterwards
  unfoldable pub cuthill_eliminate_bytes : List ℕ
  cuthill_eliminate_bytes =
      then_eliminate_bytes starts neighbours counts (cuthill_numbers starts neighbours counts numbersBuffer levelsBuffer passesBuffer scratch)
      (cuthill_scratch starts neighbours counts numbersBuffer levelsBuffer passesBuffer scratch) bytes
      (cuthill_answer starts neighbours counts numbersBuffer levelsBuffer passesBuffer scratch)
