-- `store_unknowns::legal::edges::edges` meets its contract: the pairs of the nodes before p are summed. Assumes nothing.
use mathlib.Core.Path.{◌≡◌, ap, ◌∙◌}
use Prim.Native.Nat.{◌+◌, ◌-◌}
use native.Mathlib.Omega.{arith}
use Rattle.spec.specs.Graph.{size_of, graph_of}
use Rattle.laws.proofs.Numberings.{numbering_length}
use Rattle.store_unknowns.proofs.Edges.{edges_to, edges_step, edges_all}
use Rattle.store_unknowns.proofs.legal.edges.edges.Goals as goal

pub node_edges-sum-requires : goal.node_edges-sum-requires
node_edges-sum-requires c = (c.requires, record { low = omega arith; high = omega (arith, numbering_length _ _ c.requires.numbering) })

pub overflow_add-sum : goal.overflow_add-sum
overflow_add-sum c =
    let s = edges_step c.requires.graph c.args.numbering.now c.requires.numbering c.args.counts.now c.requires.counts c.loop-p.p (record { low = omega arith; high = omega (arith, numbering_length _ _ c.requires.numbering) }) c.requires.starts.few c.loop-p.invariant.small c.loop-p.invariant.sum_is c.node_edges-sum.ensures in
    omega (arith, s.0, c.requires.starts.few, numbering_length _ _ c.requires.numbering)

pub loop-p-preserved : goal.loop-p-preserved
loop-p-preserved c =
    let s = edges_step c.requires.graph c.args.numbering.now c.requires.numbering c.args.counts.now c.requires.counts c.loop-p.p (record { low = omega arith; high = omega (arith, numbering_length _ _ c.requires.numbering) }) c.requires.starts.few c.loop-p.invariant.small c.loop-p.invariant.sum_is c.node_edges-sum.ensures in
    let e : c.loop-p.p + 1 - 1 ≡ c.loop-p.p = omega arith in
    record { small = rw e s.0; sum_is = rw e s.1 }

-- there is a node, so the loop ends after the last
pub returns : goal.returns
returns c = absurd (omega (arith, c.requires.starts.some, numbering_length _ _ c.requires.numbering))

pub returns-2 : goal.returns-2
returns-2 c =
    let s = edges_step c.requires.graph c.args.numbering.now c.requires.numbering c.args.counts.now c.requires.counts c.loop-p.p (record { low = omega arith; high = omega (arith, numbering_length _ _ c.requires.numbering) }) c.requires.starts.few c.loop-p.invariant.small c.loop-p.invariant.sum_is c.node_edges-sum.ensures in
    let e : c.loop-p.p ≡ size_of c.args.starts.now = omega (arith, numbering_length _ _ c.requires.numbering) in
    s.1 ∙ ap (edges_to (graph_of c.args.starts.now c.args.neighbours.now) c.args.counts.now c.args.numbering.now) e ∙ edges_all c.requires.graph c.args.numbering.now c.requires.numbering c.args.counts.now c.requires.counts
