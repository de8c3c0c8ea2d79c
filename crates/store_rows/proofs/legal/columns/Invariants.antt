-- `store_rows::legal::columns` meets its contract: the rows of the nodes passed have their first columns. Assumes nothing.
use Rattle.spec.specs.Graph.{graph_of}
use Rattle.store_rows.proofs.Columns.{Filled}
use Rattle.store_rows.proofs.legal.columns.Given as goal

abbrev pub invariant-loop-i : goal.invariant-loop-i
invariant-loop-i l = Filled (graph_of l.starts l.neighbours) l.counts l.numbering l.i l.first
