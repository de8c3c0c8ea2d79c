-- `mesh_gather::legal::add_element` meets its contract: what is left of the nodes completes what was added. Assumes nothing.
use Rattle.mesh_gather.proofs.Growing.{Towards, nodes_from}
use Rattle.mesh_gather.proofs.legal.add_element.Given as goal

abbrev pub invariant-loop-node : goal.invariant-loop-node
invariant-loop-node l = Towards (nodes_from l.base l.nodes l.node-index) (nodes_from l.base l.nodes 0) l.initial.sets l.sets
