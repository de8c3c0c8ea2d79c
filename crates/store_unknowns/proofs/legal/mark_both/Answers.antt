-- `store_unknowns::legal::mark_both` meets its contract. Assumes nothing.
use native.Mathlib.Omega.{arith}
use Rattle.store_unknowns.proofs.Stores.{nodes-given, bytes_fit, order_asked, zeros_size}
use Rattle.store_unknowns.proofs.legal.mark_both.Goals as goal

pub mark_nodes-requires : goal.mark_nodes-requires
mark_nodes-requires c = (nodes-given c.requires.given, c.requires.given.order, c.requires.nodes_value.0, omega (arith, c.requires.nodes_value.2, bytes_fit c.requires.given))

pub order_again-requires : goal.order_again-requires
order_again-requires c = order_asked c.requires.given c.mark_nodes.ensures.scratch_value (zeros_size c.requires.given)
