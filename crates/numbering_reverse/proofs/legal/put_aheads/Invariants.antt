-- `numbering_reverse::legal::put_aheads` meets its contract: the nodes passed have the unknowns ahead of them. Assumes nothing.
use Rattle.numbering_reverse.proofs.Placing.{Putting}
use Rattle.numbering_reverse.proofs.legal.put_aheads.Given as goal

abbrev pub invariant-loop-i : goal.invariant-loop-i
invariant-loop-i l = Putting l.counts l.n l.m l.initial.work l.work l.sum l.i
