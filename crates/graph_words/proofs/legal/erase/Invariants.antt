-- `graph_words::legal::erase` meets its contract: what remains of the list does the rest. Assumes nothing.
use Rattle.graph_words.proofs.Erasing.{Erasing}
use Rattle.graph_words.proofs.legal.erase.Given as goal

abbrev pub invariant-loop-i : goal.invariant-loop-i
invariant-loop-i l = Erasing l.base l.at l.count l.initial.words l.words l.i
