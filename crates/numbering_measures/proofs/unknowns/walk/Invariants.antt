-- `numbering_measures::unknowns::walk` meets its contract: the reaches and shares of the nodes passed are taken in. Assumes nothing.
use Rattle.numbering_measures.proofs.Walked.{Walked}
use Rattle.numbering_measures.proofs.unknowns.walk.Given as goal

abbrev pub invariant-loop-i : goal.invariant-loop-i
invariant-loop-i l = Walked l.starts l.neighbours l.counts l.numbering l.widest l.sum l.i
