-- `numbering_measures::unknowns::gather` meets its contract: the unknowns of the nodes passed are added at their f. Assumes nothing.
use Rattle.numbering_measures.proofs.Gathered.{Gathered}
use Rattle.numbering_measures.proofs.unknowns.gather.Given as goal

abbrev pub invariant-loop-i : goal.invariant-loop-i
invariant-loop-i l = Gathered l.starts l.neighbours l.counts l.numbering l.initial.words l.words l.i
