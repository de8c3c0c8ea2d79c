-- `numbering_order::legal::from_before` meets its contract. The invariant: what the rest of the level before adds from here is what all of it adds from the start. Assumes nothing.
use Rattle.numbering_order.proofs.FromBefore.{Before}
use Rattle.numbering_order.proofs.legal.from_before.Given as goal

abbrev pub invariant-loop-h : goal.invariant-loop-h
invariant-loop-h l = Before l.starts l.neighbours l.n l.at l.initial.work l.a l.b l.i l.work l.e l.h
