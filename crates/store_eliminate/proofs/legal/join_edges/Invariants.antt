-- `store_eliminate::legal::join_edges` meets its contract: where all the neighbours were due, those that are still to come are. Assumes nothing.
use mathlib.Core.List.{List, map}
use Prim.Native.Nat.{ℕ}
use lib.ListN.{drop}
use Rattle.spec.specs.Graph.{Graph, of_node}
use Rattle.store_eliminate.specs.Walk.{IsRow, Walk}
use Rattle.store_eliminate.proofs.legal.join_edges.Given as goal

abbrev pub invariant-loop-b : goal.invariant-loop-b
invariant-loop-b l =
    (h : Graph) (o : List ℕ) → IsRow h l.row → Walk h o l.initial.scratch l.initial.bytes l.row.q l.row.q (map (of_node l.numbering) l.adjacent)
    → Walk h o l.scratch l.bytes l.row.q l.row.q (map (of_node l.numbering) (drop l.b-index l.adjacent))
