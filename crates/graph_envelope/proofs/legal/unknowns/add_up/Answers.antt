-- `graph_envelope::legal::unknowns::add_up` meets its contract: the words passed are sums, the others still nodes. Assumes nothing.
use Prim.Native.Nat.{◌≤◌}
use mathlib.Core.Path.{◌≡◌, refl, ap, ◌∙◌}
use native.Mathlib.Omega.{arith}
use lib.ListN.{get_or}
use Rattle.spec.specs.Graph.{of_node}
use Rattle.laws.specs.Unknowns.{ahead}
use Rattle.graph_envelope.proofs.Ahead.{made_none, made_more, listed_most, ahead_most, ahead_none, ahead_more, aheads_made}
use Rattle.graph_envelope.proofs.legal.unknowns.add_up.Goals as goal

pub loop-i-init : goal.loop-i-init
loop-i-init c = (refl, ahead_none _ _, made_none _ _)

pub overflow_cast-order : goal.overflow_cast-order
overflow_cast-order c =
    let small : c.loop-i.sum ≤ 24576 = omega (arith, c.loop-i.invariant.1, ahead_most c.args.counts.now c.args.order.now c.requires.counts_value c.requires.words c.loop-i.i (omega arith), c.requires.order_len_bound) in
    omega (arith, small)

pub overflow_add-sum : goal.overflow_add-sum
overflow_add-sum c =
    let small : c.loop-i.sum ≤ 24576 = omega (arith, c.loop-i.invariant.1, ahead_most c.args.counts.now c.args.order.now c.requires.counts_value c.requires.words c.loop-i.i (omega arith), c.requires.order_len_bound) in
    let node : c.from-p.result ≡ get_or c.args.order.now c.loop-i.i 0 = c.from-p.ensures ∙ c.loop-i.invariant.2.rest c.loop-i.i (omega arith) in
    let own : c.number-sum.result ≡ of_node c.args.counts.now (get_or c.args.order.now c.loop-i.i 0) = c.number-sum.ensures ∙ ap (of_node c.args.counts.now) node in
    omega (arith, own, small, listed_most c.args.counts.now c.args.order.now c.requires.counts_value c.requires.words c.loop-i.i (omega arith))

pub loop-i-preserved : goal.loop-i-preserved
loop-i-preserved c =
    let node : c.from-p.result ≡ get_or c.args.order.now c.loop-i.i 0 = c.from-p.ensures ∙ c.loop-i.invariant.2.rest c.loop-i.i (omega arith) in
    let own : c.number-sum.result ≡ of_node c.args.counts.now (get_or c.args.order.now c.loop-i.i 0) = c.number-sum.ensures ∙ ap (of_node c.args.counts.now) node in
    let K = c.args.counts.now in
    let o = c.args.order.now in
    let m = made_more (ahead K o) o c.loop-i.i c.loop-i.sum c.loop-i.order c.loop-i.invariant.2 (omega arith) c.loop-i.invariant.1 in (
      m.size,
      ahead_more K o c.loop-i.i (omega arith) c.loop-i.invariant.1 own,
      m,
    )

pub returns : goal.returns
returns c = aheads_made _ _ c.loop-i.order c.loop-i.i c.loop-i.invariant.2 (omega arith)
