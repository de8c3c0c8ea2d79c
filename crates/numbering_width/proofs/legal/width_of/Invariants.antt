-- `numbering_width::legal::width_of` meets its contract: the loop is `Weighing.antt`'s. Assumes nothing.
use Rattle.numbering_width.proofs.Weighing.{Weighing}
use Rattle.numbering_width.proofs.legal.width_of.Given as goal

abbrev pub invariant-loop-i : goal.invariant-loop-i
invariant-loop-i l = Weighing l.n l.from l.to l.k l.counts l.initial.scratch l.scratch l.top l.i
