-- `store_unknowns::legal::order_again` meets its contract. Assumes nothing.
use Rattle.graph_envelope.proofs.Lent.{length-order_of}
use Rattle.store_unknowns.proofs.Stores.{order_made}
use Rattle.store_unknowns.proofs.legal.order_again.Goals as goal

pub returns : goal.returns
returns c = order_made c.args.numbering.now c.args.scratch.now _ _ c.requires.1 c.requires.2 c.numbered.ensures.value c.numbered.ensures.scratch_value (length-order_of c.args.numbering.now)
