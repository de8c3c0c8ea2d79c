-- `graph::lacks_partners` meets its contract: the pairs of the rows before row p are counted.
-- Assumes nothing.
use Prim.Native.Nat.{◌-◌}
use mathlib.Core.Path.{◌≡◌}
use Rattle.graph.proofs.Counting.{first_pairs}
use Rattle.graph.proofs.lacks_partners.Given as goal

abbrev pub invariant-loop-p : goal.invariant-loop-p
invariant-loop-p l = l.pairs ≡ first_pairs l.starts l.neighbours (l.p - 1)
