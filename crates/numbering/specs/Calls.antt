-- What a call in either order answers and leaves: it refuses as the run does. Assumes nothing.
use Rattle.std.specs.Prelude.{List, ℕ}
use Rattle.spec.specs.CallsNumbering.{run_refusal}
use Rattle.spec_claims.specs.Claim.{NumberedAs}
use Rattle.spec.specs.Graph.{graph_of}
use Rattle.spec.specs.Lent.{Outcome, outcome, filled}
use Rattle.spec.specs.Numbering.{Run, Figures}
use Rattle.numbering_next.specs.Orders.{result_of, whole_in}
use Rattle.numbering_next.specs.declared.order.Order.{Order}

module _ (order : Order) (starts neighbours counts numbersBuffer levelsBuffer passesBuffer scratch : List ℕ) where
  abbrev refusal : ℕ
  refusal = run_refusal starts neighbours counts numbersBuffer levelsBuffer passesBuffer scratch

  abbrev whole : Run
  whole = whole_in order (graph_of starts neighbours) counts

  abbrev pub answer_in : Outcome Figures
  answer_in = outcome refusal whole.figures

  abbrev pub numbers_in : List ℕ
  numbers_in = filled refusal whole.numbers numbersBuffer

  abbrev pub levels_in : List ℕ
  levels_in = filled refusal whole.levels levelsBuffer

  abbrev pub passes_in : List ℕ
  passes_in = filled refusal whole.passes passesBuffer

-- what a library above rests on, of the counts K, the figures F, the numbers X and the levels L
abbrev pub NumberedIn : Order → List ℕ → List ℕ → List ℕ → Figures → List ℕ → List ℕ → Type 0
NumberedIn order S N K F X L = NumberedAs (whole_in order (graph_of S N) K) (result_of order (graph_of S N) K) S N K F X L
