-- `numbering_order::legal::rooted::befores` meets its contract. The invariant: the levels still to come number as from level 2 on. Assumes nothing.
use Rattle.numbering_order.proofs.Rooted.{Rooting}
use Rattle.numbering_order.proofs.legal.rooted.befores.Given as goal

abbrev pub invariant-loop-i : goal.invariant-loop-i
invariant-loop-i l = Rooting l.starts l.neighbours l.n l.at l.initial.work l.k l.work l.a l.b l.i
