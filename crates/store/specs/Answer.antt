-- What the answers of this library mean in document 01's numbers and values. Assumes nothing.
use Rattle.std.specs.Prelude.{List, ◌++◌, ℕ, ◌≤◌, length, drop, Result}
use Rattle.spec.specs.CallsStore.{RunElimination, elimination_scratch, handed_on}
use Rattle.spec.specs.Graph.{size_of}
use Rattle.spec.specs.Lent.{Outcome, accepted, refused}
use Rattle.spec.specs.Numbering.{Figures}
use Rattle.numbering_whole.specs.Figures.{seven}
use Rattle.refusals.specs.Numbers.{outcome_of}
use Rattle.refusals.specs.declared.Refusal.{Refusal}
use Rattle.store_elimination.specs.Answer.{meaning}
use Rattle.store.specs.declared.answer.RunElimination.{RunElimination as RunEliminated}

-- 1 to 5 and 15, as the numbering call is; or its figures, beside what the elimination answers
abbrev pub run_meaning : Result RunEliminated Refusal → Outcome RunElimination
run_meaning = outcome_of (λ e. record { figures = seven e.figures; elimination = meaning e.elimination })

-- ---- what a numbering call hands on

-- n words of the numbers and of the scratch; there is a node
pub record Room (S X C : List ℕ) : Type 0 where
  pub nodes : 2 ≤ length S
  pub numbers : size_of S ≤ length X
  pub scratch : size_of S ≤ length C

-- the scratch after the elimination that works in its first n words
abbrev pub then_scratch : List ℕ → List ℕ → List ℕ → List ℕ → List ℕ → List ℕ → Outcome Figures → List ℕ
then_scratch S N K X C B (refused c) = C
then_scratch S N K X C B (accepted f) = elimination_scratch S N K (handed_on S X) (handed_on S C) B ++ drop (size_of S) C
