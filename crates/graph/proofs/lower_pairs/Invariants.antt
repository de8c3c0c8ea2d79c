-- `graph::lower_pairs` meets its contract: what is counted so far, and what the rest of the row counts, are all of it.
-- Assumes nothing.
use Rattle.graph.proofs.Counting.{Counting}
use Rattle.graph.proofs.lower_pairs.Given as goal

abbrev pub invariant-loop-q : goal.invariant-loop-q
invariant-loop-q l = Counting l.starts l.neighbours l.p l.row l.pairs l.q-index
