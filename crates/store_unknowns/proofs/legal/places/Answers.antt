-- `store_unknowns::legal::places` meets its contract. Assumes nothing.
use Rattle.store_unknowns.proofs.Stores.{aheads_asked, aheads_size, order_asked}
use Rattle.store_unknowns.proofs.legal.places.Goals as goal

pub add_up-requires : goal.add_up-requires
add_up-requires c = let done = aheads_asked c.requires in record { counts_value = done.0; words = done.1.0; order_len_bound = done.1.1 }

pub order_again-requires : goal.order_again-requires
order_again-requires c = order_asked c.requires c.add_up.ensures (aheads_size c.requires)
