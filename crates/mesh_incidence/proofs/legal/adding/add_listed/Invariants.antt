-- `mesh_incidence::legal::adding::add_listed` meets its contract. Assumes nothing.
use Rattle.mesh_incidence.specs.Cells.{Linked}
use Rattle.mesh_incidence.proofs.Passes.{Walking}
use Rattle.mesh_incidence.proofs.legal.adding.add_listed.Given as goal

abbrev pub invariant-loop-cell : goal.invariant-loop-cell
invariant-loop-cell l = (K : Linked l.elements l.rows l.lists) × Walking l.elements l.rows l.lists l.row l.initial.bits K.free l.cell l.bits l.mask

abbrev pub decreases-loop-cell : goal.decreases-loop-cell
decreases-loop-cell l = l.cell
