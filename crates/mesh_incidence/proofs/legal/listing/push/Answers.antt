-- `mesh_incidence::legal::listing::push` meets its contract. Assumes nothing.
use Rattle.std.proofs.Common.{refl}
use Rattle.mesh_incidence.specs.Cells.{pushed}
use Rattle.mesh_incidence.proofs.legal.listing.push.Goals as goal

pub returns : goal.returns
unfolding pushed
returns c = refl
