-- `graph::holds` meets its contract: what stands before lo is under p, and what stands from hi on is over p.
-- Assumes nothing.
use Prim.Native.Nat.{◌-◌}
use Rattle.graph.proofs.Rows.{Sought}
use Rattle.graph.proofs.holds.Given as goal

abbrev pub invariant-loop-lo : goal.invariant-loop-lo
invariant-loop-lo l = Sought l.p l.row l.lo l.hi

abbrev pub decreases-loop-lo : goal.decreases-loop-lo
decreases-loop-lo l = l.hi - l.lo
