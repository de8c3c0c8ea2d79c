-- `store_unknowns::legal::edges::edges` meets its contract: the pairs of the nodes before p are summed. Assumes nothing.
use Prim.Native.Nat.{◌-◌, ◌*◌, ◌≤◌}
use mathlib.Core.Path.{◌≡◌}
use Rattle.spec.specs.Graph.{graph_of}
use Rattle.store_unknowns.proofs.Edges.{edges_to}
use Rattle.store_unknowns.proofs.legal.edges.edges.Given as goal

abbrev pub invariant-loop-p : goal.invariant-loop-p
invariant-loop-p l = record {
  small : l.sum ≤ 147471 * (l.p - 1);
  sum_is : l.sum ≡ edges_to (graph_of l.starts l.neighbours) l.counts l.numbering (l.p - 1);
}
