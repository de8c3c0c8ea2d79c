-- `numbering_order::legal::from_before` meets its contract. The invariant: what the rest of the level before adds from here is what all of it adds from the start. Assumes nothing.
use Rattle.numbering_order.proofs.Walk.{walk_open, walk_far, walk_range}
use Rattle.numbering_order.proofs.FromBefore.{before_begin, before_in_lem, before-step}
use Rattle.numbering_order.proofs.legal.from_before.Goals as goal

pub loop-h-init : goal.loop-h-init
loop-h-init c = before_begin c.args.i c.requires.neighbours_value c.requires.n_value c.requires.fact c.requires.far c.requires.a_le_b

pub extend-e-requires : goal.extend-e-requires
extend-e-requires c =
    let I = c.loop-h.invariant in
    let K = c.loop-h.invariant.walk in
    record { neighbours_value = c.loop-h.invariant.walk.ok; n_value = c.loop-h.invariant.walk.sized; fact = walk_open K; far = walk_far K; le_w = walk_range K c.loop-h.h (before_in_lem I c.loop-h-test.true) }

pub loop-h-preserved : goal.loop-h-preserved
loop-h-preserved c = before-step c.loop-h.invariant c.loop-h-test.true c.extend-e.auto.work c.extend-e.ensures
