-- `numbering_measures::fronts::steps` meets its contract: the words passed are steps, the others as they were. Assumes nothing.
use Prim.Native.Nat.{ℕ, ◌≤◌}
use mathlib.Core.Path.{◌≡◌}
use mathlib.Core.List.{List}
use lib.ListN.{length}
use Rattle.spec.specs.Graph.{of_node}
use Rattle.graph_envelope.specs.Aheads.{Made}
use Rattle.numbering_measures.proofs.Steps.{step}
use Rattle.numbering_measures.proofs.fronts.steps.Given as goal

-- after i words of W: they are steps, the others as they were, and last is the one before
pub record Stepped (W words : List ℕ) (last i : ℕ) : Type 0 where
  pub inside : i ≤ length W
  pub same_length : length words ≡ length W
  pub last_small : last ≤ 24576
  pub last_is : last ≡ of_node W i
  pub made : Made (step W) W i words

abbrev pub invariant-loop-word : goal.invariant-loop-word
invariant-loop-word l = Stepped l.initial.words l.words l.last l.word-index
