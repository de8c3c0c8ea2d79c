-- `numbering_import::numbers::put_pairs` meets its contract: the pairs passed are put over the nodes' own numbers. Assumes nothing.
use mathlib.Core.Path.{◌≡◌}
use mathlib.Core.List.{List}
use Prim.Native.Nat.{ℕ, ◌≤◌}
use lib.ListN.{length}
use Rattle.spec_import.specs.CallsImport.{old_numbers}
use Rattle.numbering_import.proofs.Supplied.{puts_of}
use Rattle.numbering_import.proofs.numbers.put_pairs.Given as goal

-- after i pairs of P over W
pub record Put (P W words : List ℕ) (i : ℕ) : Type 0 where
  pub inside : i ≤ length (old_numbers P)
  pub same_length : length words ≡ length W
  pub words_are : words ≡ puts_of P W i

abbrev pub invariant-loop-i : goal.invariant-loop-i
invariant-loop-i l = Put l.pairs l.initial.numbers l.numbers l.i
