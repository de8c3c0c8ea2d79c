-- `graph_envelope::legal::profile` meets its contract: the spans of the nodes passed are summed. Assumes nothing.
use Prim.Native.Nat.{◌-◌}
use mathlib.Core.Path.{◌≡◌, ap, ◌∙◌}
use native.Mathlib.Omega.{arith}
use Rattle.spec.specs.Graph.{size_of, graph_of, of_node}
use Rattle.spec.specs.Measures.{renumbered, row_span}
use Rattle.laws.specs.Legal.{Node}
use Rattle.graph_envelope.proofs.Envelope.{spans, spans_all, span_most}
use Rattle.graph_envelope.proofs.Folds.{sum_next}
use Rattle.graph_envelope.proofs.legal.profile.Goals as goal

pub overflow_add-sum : goal.overflow_add-sum
overflow_add-sum c =
    let N : Node (graph_of c.args.starts.now c.args.neighbours.now) c.loop-p.p = record { low = c.loop-p.auto.p; high = omega arith } in
    omega (
      arith,
      c.span-sum.ensures,
      span_most c.requires.legal_graph c.args.numbering.now c.requires.numbering_value c.loop-p.p N,
      c.loop-p.invariant.small,
      c.requires.starts.few,
    )

pub loop-p-preserved : goal.loop-p-preserved
loop-p-preserved c =
    let g = graph_of c.args.starts.now c.args.neighbours.now in
    let x = c.args.numbering.now in
    let N : Node g c.loop-p.p = record { low = c.loop-p.auto.p; high = omega arith } in
    record {
      small = omega (
        arith,
        c.span-sum.ensures,
        span_most c.requires.legal_graph x c.requires.numbering_value c.loop-p.p N,
        c.loop-p.invariant.small,
        c.loop-p.auto.p,
        c.requires.starts.few,
      );
      sum_is = sum_next (λ a. row_span (renumbered g x) (of_node x a)) c.loop-p.p c.loop-p.auto.p c.loop-p.invariant.sum_is c.span-sum.ensures;
    }

pub returns : goal.returns
returns c =
    let e : c.loop-p.p - 1 ≡ size_of c.args.starts.now = omega arith in
    c.loop-p.invariant.sum_is ∙ ap (spans (graph_of c.args.starts.now c.args.neighbours.now) c.args.numbering.now) e ∙ spans_all c.requires.legal_graph c.args.numbering.now c.requires.numbering_value
