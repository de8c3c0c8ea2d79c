-- `mesh_incidence::legal::listing::list` meets its contract. Assumes nothing.
use Rattle.std.proofs.Common.{◌-◌, ◌≤◌, length}
use Rattle.mesh_incidence.proofs.Passes.{Listing}
use Rattle.mesh_incidence.proofs.legal.listing.list.Given as goal

abbrev pub invariant-loop-at : goal.invariant-loop-at
invariant-loop-at l = (l.at ≤ length l.elements) × Listing (length l.fn.lists) l.elements l.base l.rows l.at l.lists l.cell

abbrev pub decreases-loop-at : goal.decreases-loop-at
decreases-loop-at l = length l.elements - l.at
