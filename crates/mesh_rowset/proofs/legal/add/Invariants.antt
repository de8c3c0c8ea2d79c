-- `mesh_rowset::legal::add` meets its contract. Assumes nothing.
use Rattle.mesh_rowset.proofs.Sets.{Adding}
use Rattle.mesh_rowset.proofs.legal.add.Given as goal

abbrev pub invariant-loop-node : goal.invariant-loop-node
invariant-loop-node l = Adding l.initial.bits l.nodes l.node-index l.bits l.cover
