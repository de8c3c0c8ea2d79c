-- `numbering_import::numbers::own_numbers` meets its contract: the words passed are the nodes' own numbers. Assumes nothing.
use mathlib.Core.Path.{◌≡◌}
use mathlib.Core.List.{List}
use Prim.Native.Nat.{ℕ, ◌+◌, ◌≤◌}
use lib.ListN.{length}
use Rattle.graph_envelope.specs.Aheads.{Made}
use Rattle.numbering_import.proofs.numbers.own_numbers.Given as goal

-- after i words of W
pub record Owned (W words : List ℕ) (i : ℕ) : Type 0 where
  pub inside : i ≤ length W
  pub same_length : length words ≡ length W
  pub made : Made (λ (j : ℕ). j + 1) W i words

abbrev pub invariant-loop-i : goal.invariant-loop-i
invariant-loop-i l = Owned l.initial.numbers l.numbers l.i
