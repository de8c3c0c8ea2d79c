-- `mesh_rowset::legal::empty` meets its contract. Assumes nothing.
use Prim.Native.Nat.{◌-◌}
use Rattle.mesh_rowset.proofs.Sets.{Emptying}
use Rattle.mesh_rowset.proofs.legal.empty.Given as goal

abbrev pub invariant-loop-rest : goal.invariant-loop-rest
invariant-loop-rest l = Emptying l.initial.bits l.mask l.p l.at l.initial.list l.g l.rest l.to l.bits l.list

abbrev pub decreases-loop-rest : goal.decreases-loop-rest
decreases-loop-rest l = 64 - l.g
