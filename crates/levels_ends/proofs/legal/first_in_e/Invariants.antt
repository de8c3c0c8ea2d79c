-- `levels_ends::legal::first_in_e` meets its contract: a running minimum. Assumes nothing.
use Prim.Native.Nat.{◌+◌}
use Rattle.levels_ends.proofs.Least.{Running}
use Rattle.levels_ends.proofs.legal.first_in_e.Given as goal

abbrev pub invariant-loop-p : goal.invariant-loop-p
invariant-loop-p l = Running l.starts l.nodes l.first (l.p-index + 1)
