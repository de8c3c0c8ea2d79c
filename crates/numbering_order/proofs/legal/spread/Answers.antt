-- `numbering_order::legal::spread` meets its contract. The invariant: where the cursor goes from here, it goes from the start. Assumes nothing.
use native.Mathlib.Omega.{arith}
use Rattle.numbering_order.proofs.Words.{at_most}
use Rattle.numbering_order.proofs.Walk.{walk_open, walk_far, walk_range, walk_index}
use Rattle.numbering_order.proofs.Spread.{spread_begin, spread_step, spread_done}
use Rattle.numbering_order.proofs.legal.spread.Goals as goal

pub loop-h-init : goal.loop-h-init
loop-h-init c = spread_begin c.args.c c.args.i c.requires.neighbours_value c.requires.n_value c.requires.fact c.requires.far

pub overflow_add-w : goal.overflow_add-w
overflow_add-w c = omega (arith, walk_index c.loop-h.invariant.walk c.loop-h.h c.loop-h-test.true)

pub offset_bounds-work-n : goal.offset_bounds-work-n
offset_bounds-work-n c = omega (arith, walk_index c.loop-h.invariant.walk c.loop-h.h c.loop-h-test.true)

pub bounds-work-n : goal.bounds-work-n
bounds-work-n c = walk_index c.loop-h.invariant.walk c.loop-h.h c.loop-h-test.true

pub extend-e-requires : goal.extend-e-requires
extend-e-requires c =
    let K = c.loop-h.invariant.walk in
    record { neighbours_value = c.loop-h.invariant.walk.ok; n_value = c.loop-h.invariant.walk.sized; fact = walk_open K; far = walk_far K; le_w = walk_range K c.loop-h.h c.loop-h-test.true }

pub overflow_add-h : goal.overflow_add-h
overflow_add-h c = omega (arith, c.loop-h-test.true, at_most c.loop-h.invariant.walk.now)

pub loop-h-smaller : goal.loop-h-smaller
loop-h-smaller c = omega (arith, c.loop-h-test.true, at_most c.loop-h.invariant.walk.now)

pub loop-h-preserved : goal.loop-h-preserved
loop-h-preserved c = spread_step c.loop-h.invariant c.loop-h-test.true c.extend-e.auto.work c.extend-e.ensures

pub returns : goal.returns
returns c = spread_done c.loop-h.invariant c.loop-h-test.false
