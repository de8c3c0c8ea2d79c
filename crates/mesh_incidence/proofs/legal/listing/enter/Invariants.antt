-- `mesh_incidence::legal::listing::enter` meets its contract. Assumes nothing.
use Rattle.mesh_incidence.proofs.Passes.{Entering}
use Rattle.mesh_incidence.proofs.legal.listing.enter.Given as goal

abbrev pub invariant-loop-node : goal.invariant-loop-node
invariant-loop-node l = Entering l.at l.base l.rows l.nodes l.initial.lists l.cell l.node-index l.lists l.free
