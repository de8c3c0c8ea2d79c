-- `store_eliminate::legal::eliminate_row` meets its contract: the row is opened, its neighbours are joined, and it is shut. Assumes nothing.
use mathlib.Core.Path.{◌∙◌}
use native.Mathlib.Omega.{arith}
use Rattle.spec.specs.Measures.{order_of}
use Rattle.store_eliminate.specs.Walk.{new_graph}
use Rattle.store_eliminate.proofs.Rows.{node_node, node_index, opened-number, opened-row, opened_walk, opened_reach, next_start, next_small, row_closed}
use Rattle.store_eliminate.proofs.Walk.{first_high}
use Rattle.store_eliminate.proofs.legal.eliminate_row.Goals as goal

pub bounds-scratch-done : goal.bounds-scratch-done
bounds-scratch-done c = node_index c.requires.0 c.requires.1 c.requires.2

pub row_of-row-requires : goal.row_of-row-requires
row_of-row-requires c = (c.requires.0, rw c.from-node.ensures (node_node c.requires.0 c.requires.1 c.requires.2))

pub row-adjacent-requires : goal.row-adjacent-requires
row-adjacent-requires c = record { starts = c.requires.0.starts; node = rw c.from-node.ensures (node_node c.requires.0 c.requires.1 c.requires.2) }

pub join_edges-requires : goal.join_edges-requires
join_edges-requires c =
    let a = c.from-node.ensures in
    let e = c.row_of-row.ensures in
    rw c.row-adjacent.ensures (opened_reach c.requires.0 c.requires.1 c.requires.2 a c.requires.3 e, (_, _, opened-row c.requires.0 c.requires.1 c.requires.2 a c.requires.3 e, opened_walk c.requires.0 c.requires.1 c.requires.2 a c.requires.3 e))

pub bounds-scratch-done-2 : goal.bounds-scratch-done-2
bounds-scratch-done-2 c = omega (arith, node_index c.requires.0 c.requires.1 c.requires.2)

pub place-requires : goal.place-requires
place-requires c =
    let a = c.from-node.ensures in
    let e = c.row_of-row.ensures in
    (first_high (opened-row c.requires.0 c.requires.1 c.requires.2 a c.requires.3 e), next_small c.requires.0 c.requires.1 c.requires.2 a c.requires.3 e)

pub returns : goal.returns
returns c =
    let S = c.args.starts.now in
    let N = c.args.neighbours.now in
    let x = c.args.numbering.now in
    let a = c.from-node.ensures in
    let e = c.row_of-row.ensures in
    let R = opened-row c.requires.0 c.requires.1 c.requires.2 a c.requires.3 e in
    let w = c.join_edges.ensures (new_graph S N x) (order_of x) R (rw c.row-adjacent.ensures (opened_walk c.requires.0 c.requires.1 c.requires.2 a c.requires.3 e)) in
    record { value = c.place.ensures ∙ next_start c.requires.0 c.requires.1 c.requires.2 a c.requires.3 e; done = row_closed R (opened-number c.requires.0 c.requires.1 c.requires.2 a c.requires.3 e) w }
