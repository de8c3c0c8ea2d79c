-- `numbering_cuthill::legal::order_part` meets its contract: the order level after level, then turned. Assumes nothing.
use native.Mathlib.Omega.{arith}
use Rattle.laws.proofs.Refused.{passed, starts_of_lem}
use Rattle.numbering_cuthill.proofs.Ordering.{order_rooted, order_done}
use Rattle.numbering_cuthill.proofs.legal.order_part.Goals as goal

pub overflow_sub-n : goal.overflow_sub-n
overflow_sub-n c = omega (arith, (starts_of_lem (passed c.args.starts.now c.args.neighbours.now c.requires.neighbours_value)).count)

pub from_root-requires : goal.from_root-requires
from_root-requires c = record { neighbours_value = c.requires.neighbours_value; rooted = order_rooted c.args.starts.now c.args.neighbours.now c.requires.neighbours_value c.requires.orderable }

pub returns : goal.returns
returns c = order_done c.args.starts.now c.args.neighbours.now c.requires.neighbours_value c.requires.orderable c.from_root.ensures c.reverse.new.self c.reverse.ensures.after
