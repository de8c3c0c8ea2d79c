-- `numbering_order::legal::append` meets its contract. The invariant: what the rest of the row adds from here is what the row adds from the start. Assumes nothing.
use Rattle.numbering_order.proofs.Append.{Appending}
use Rattle.numbering_order.proofs.legal.append.Given as goal

abbrev pub invariant-loop-q : goal.invariant-loop-q
invariant-loop-q l = Appending l.row l.n l.at l.initial.work l.t l.i l.work l.e l.q-index
