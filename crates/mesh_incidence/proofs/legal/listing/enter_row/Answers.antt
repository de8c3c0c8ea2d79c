-- `mesh_incidence::legal::listing::enter_row` meets its contract. Assumes nothing.
use Rattle.std.proofs.Common.{arith}
use Rattle.mesh_incidence.proofs.Chains.{entered_push}
use Rattle.mesh_incidence.proofs.legal.listing.enter_row.Goals as goal

pub returns : goal.returns
returns c =
    λ d.
    entered_push c.args.at c.args.rows c.args.lists.now c.args.row c.requires.2 c.args.cell c.requires.1 (omega arith) c.push.new.lists c.push.ensures
