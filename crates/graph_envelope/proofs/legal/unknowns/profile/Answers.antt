-- `graph_envelope::legal::unknowns::profile` meets its contract: the shares of the nodes passed are summed. Assumes nothing.
use Prim.Native.Nat.{◌-◌}
use mathlib.Core.Path.{◌≡◌, ap, ◌∙◌}
use native.Mathlib.Omega.{arith}
use Rattle.spec.specs.Graph.{size_of, graph_of}
use Rattle.laws.specs.Legal.{Node}
use Rattle.graph_envelope.proofs.Folds.{sum_next}
use Rattle.graph_envelope.proofs.InUnknowns.{span_of, shares, span_most, profile_unknowns}
use Rattle.graph_envelope.proofs.legal.unknowns.profile.Goals as goal

pub overflow_add-sum : goal.overflow_add-sum
overflow_add-sum c =
    let N : Node (graph_of c.args.starts.now c.args.neighbours.now) c.loop-p.p = record { low = c.loop-p.auto.p; high = omega arith } in
    omega (
      arith,
      c.share_of-sum.ensures,
      span_most c.requires.legal_graph c.args.numbering.now c.requires.numbering_value c.args.counts.now c.requires.counts_value c.loop-p.p N c.requires.starts.few,
      c.loop-p.invariant.small,
      c.requires.starts.few,
    )

pub loop-p-preserved : goal.loop-p-preserved
loop-p-preserved c =
    let g = graph_of c.args.starts.now c.args.neighbours.now in
    let K = c.args.counts.now in
    let x = c.args.numbering.now in
    let N : Node g c.loop-p.p = record { low = c.loop-p.auto.p; high = omega arith } in
    record {
      small = omega (
        arith,
        c.share_of-sum.ensures,
        span_most c.requires.legal_graph x c.requires.numbering_value K c.requires.counts_value c.loop-p.p N c.requires.starts.few,
        c.loop-p.invariant.small,
        c.loop-p.auto.p,
      );
      sum_is = sum_next (span_of g K x) c.loop-p.p c.loop-p.auto.p c.loop-p.invariant.sum_is c.share_of-sum.ensures;
    }

pub returns : goal.returns
returns c =
    let K = c.args.counts.now in
    let x = c.args.numbering.now in
    let e : c.loop-p.p - 1 ≡ size_of c.args.starts.now = omega arith in
    c.loop-p.invariant.sum_is ∙ ap (shares (graph_of c.args.starts.now c.args.neighbours.now) K x) e ∙ profile_unknowns c.requires.legal_graph x c.requires.numbering_value K c.requires.counts_value
