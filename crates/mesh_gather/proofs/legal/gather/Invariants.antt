-- `mesh_gather::legal::gather` meets its contract. Assumes nothing.
use Prim.Native.Nat.{◌-◌, ◌≤◌}
use lib.ListN.{length}
use Rattle.mesh_gather.proofs.Growing.{Passing}
use Rattle.mesh_gather.proofs.legal.gather.Given as goal

abbrev pub invariant-loop-at : goal.invariant-loop-at
invariant-loop-at l = (l.at ≤ length l.elements) × Passing l.elements l.base l.at l.sets

abbrev pub decreases-loop-at : goal.decreases-loop-at
decreases-loop-at l = length l.elements - l.at
