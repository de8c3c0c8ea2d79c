-- `graph_words::legal::unknowns` meets its contract: the counts passed are tested and added up. Assumes nothing.
use Rattle.graph_words.proofs.Unknowns.{Totalling}
use Rattle.graph_words.proofs.legal.unknowns.Given as goal

abbrev pub invariant-loop-p : goal.invariant-loop-p
invariant-loop-p l = Totalling l.n l.counts l.total l.strays l.p
