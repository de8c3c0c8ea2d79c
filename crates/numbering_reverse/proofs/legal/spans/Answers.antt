-- `numbering_reverse::legal::spans` meets its contract: the shares of the places passed are summed, from the front and from the back. Assumes nothing.
use mathlib.Core.Path.{◌≡◌, ap, ◌∙◌}
use mathlib.Core.List.{reverse}
use native.Mathlib.Omega.{arith}
use lib.ListN.{length, length-reverse}
use Rattle.spec.specs.Graph.{graph_of}
use Rattle.numbering_reverse.specs.Places.{segment}
use Rattle.numbering_reverse.proofs.Placing.{segment-length}
use Rattle.numbering_reverse.proofs.Spans.{spans_to, spans_more, spans-back, spans-back-all, spans_all, spans_turned}
use Rattle.numbering_reverse.proofs.Ready.{ready_small}
use Rattle.numbering_reverse.proofs.legal.spans.Goals as goal
use Rattle.numbering_reverse.proofs.legal.spans.Invariants.{share}

pub overflow_add-forward : goal.overflow_add-forward
overflow_add-forward c = omega (arith, c.span-s.ensures.forward_bound, ready_small c.args.n c.args.m c.args.work.now c.requires.n_value.0 c.requires.n_value.1 c.requires.part)

pub overflow_add-backward : goal.overflow_add-backward
overflow_add-backward c = omega (arith, c.span-s.ensures.forward_bound, ready_small c.args.n c.args.m c.args.work.now c.requires.n_value.0 c.requires.n_value.1 c.requires.part)

pub loop-a-preserved : goal.loop-a-preserved
loop-a-preserved c =
    record {
      inside = omega arith;
      forward-small = omega (arith, c.span-s.ensures.forward_bound);
      backward-small = omega (arith, c.span-s.ensures.forward_bound);
      forward_is = spans_more (share (graph_of c.args.starts.now c.args.neighbours.now) c.args.counts.now (segment c.args.n c.args.m c.args.work.now)) c.loop-a.a c.loop-a.invariant.forward_is c.span-s.ensures.forward_value;
      backward-is = spans-back (share (graph_of c.args.starts.now c.args.neighbours.now) c.args.counts.now (reverse (segment c.args.n c.args.m c.args.work.now))) c.args.m c.loop-a.a (omega arith) c.loop-a.invariant.backward-is c.span-s.ensures.backward_value;
    }

pub returns : goal.returns
returns c =
    let long : length (segment c.args.n c.args.m c.args.work.now) ≡ c.args.m = segment-length c.args.n c.args.m c.args.work.now c.requires.n_value.1 in
    let a : c.loop-a.a ≡ c.args.m = omega arith in
    let e : c.loop-a.a ≡ length (segment c.args.n c.args.m c.args.work.now) = omega (arith, long) in
    let b : c.args.m ≡ length (reverse (segment c.args.n c.args.m c.args.work.now)) = omega (arith, long, length-reverse (segment c.args.n c.args.m c.args.work.now)) in record {
      forward_value = c.loop-a.invariant.forward_is ∙ ap (spans_to (share (graph_of c.args.starts.now c.args.neighbours.now) c.args.counts.now (segment c.args.n c.args.m c.args.work.now))) e ∙ spans_all c.requires.part c.args.counts.now c.requires.counts_value;
      backward_value = c.loop-a.invariant.backward-is
          ∙ spans-back-all (share (graph_of c.args.starts.now c.args.neighbours.now) c.args.counts.now (reverse (segment c.args.n c.args.m c.args.work.now))) c.args.m c.loop-a.a a
          ∙ ap (spans_to (share (graph_of c.args.starts.now c.args.neighbours.now) c.args.counts.now (reverse (segment c.args.n c.args.m c.args.work.now)))) b
          ∙ spans_turned c.requires.part c.args.counts.now c.requires.counts_value;
    }
