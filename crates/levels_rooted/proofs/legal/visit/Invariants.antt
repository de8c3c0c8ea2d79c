-- `levels_rooted::legal::visit` meets its contract. The invariant: what the rest of the row does from here is what the row does from the start.
-- Assumes nothing.
use lib.ListN.{length}
use Rattle.levels_search.proofs.Visiting.{Going}
use Rattle.levels_rooted.proofs.legal.visit.Given as goal

abbrev pub invariant-loop-v : goal.invariant-loop-v
invariant-loop-v l = Going l.row (length l.initial.levels) l.initial.levels l.initial.queue l.tail l.j l.levels l.queue l.t l.v-index
