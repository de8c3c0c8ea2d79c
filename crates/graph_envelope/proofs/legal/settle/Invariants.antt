-- `graph_envelope::legal::settle` meets its contract: the nodes passed stand at their numbers. Assumes nothing.
use Prim.Native.Nat.{ℕ}
use mathlib.Core.Path.{◌≡◌}
use mathlib.Core.List.{List}
use lib.ListN.{length}
use Rattle.graph_envelope.specs.Numbers.{Settled}
use Rattle.graph_envelope.proofs.legal.settle.Given as goal

-- the first i nodes stand at their numbers
pub record Settling (x order₀ order : List ℕ) (i : ℕ) : Type 0 where
  pub same_length : length order ≡ length order₀
  pub words : length order₀ ≡ length x
  pub settled : Settled x order i

abbrev pub invariant-loop-i : goal.invariant-loop-i
invariant-loop-i l = Settling l.numbering l.initial.order l.order l.i
