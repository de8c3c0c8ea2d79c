-- `numbering_order::legal::fill` meets its contract. The invariant: the cursor is at the end, rounds enough from here number the level as from the start, and what is left stands on the level's stack from z down. Assumes nothing.
use native.Mathlib.Omega.{arith}
use Rattle.numbering_order.proofs.Words.{at_most}
use Rattle.numbering_order.proofs.Walk.{walk_open, walk_far}
use Rattle.numbering_order.proofs.Fill.{fill_begin, fill_asks, fill_on, fill_spread, fill_step, fill_done, left_range, left_unseen}
use Rattle.numbering_order.proofs.legal.fill.Goals as goal

pub unmarked-left-requires : goal.unmarked-left-requires
unmarked-left-requires c =
    let done = fill_asks (fill_begin c.requires.neighbours_value c.requires.n_value c.requires.fact c.requires.i_le_n c.requires.by_index.1 c.from.ensures) in
    record { by_index = done.0; n_in_bounds = done.1 }

pub returns-then-left-eq0 : goal.returns-then-left-eq0
returns-then-left-eq0 c P F =
    fill_done (fill_on (fill_begin c.requires.neighbours_value c.requires.n_value c.requires.fact c.requires.i_le_n F c.from.ensures) c.unmarked-left.ensures) c.if-left-eq0.true

pub unmarked-z-requires : goal.unmarked-z-requires
unmarked-z-requires c =
    let looked = fill_on (fill_begin c.requires.neighbours_value c.requires.n_value c.requires.fact c.requires.i_le_n c.requires.by_index.1 c.from.ensures) c.unmarked-left.ensures in
    let done = fill_asks (fill_spread looked.filling c.spread-e.auto.work c.spread-e.ensures) in record { by_index = done.0; n_in_bounds = done.1 }

pub loop-z-init : goal.loop-z-init
loop-z-init c P F =
    let looked = fill_on (fill_begin c.requires.neighbours_value c.requires.n_value c.requires.fact c.requires.i_le_n F c.from.ensures) c.unmarked-left.ensures in
    fill_on (fill_spread looked.filling c.spread-e.auto.work c.spread-e.ensures) c.unmarked-z.ensures

pub resume-e-requires : goal.resume-e-requires
resume-e-requires c =
    let I = c.loop-z.invariant c.requires.by_index.0 c.requires.by_index.1 in
    let K = I.filling.walk in
    record { neighbours_value = c.requires.neighbours_value; n_value = c.requires.n_value; fact = walk_open K; far = walk_far K; le_z = left_range I c.loop-z-test.true; work_value = left_unseen I c.loop-z-test.true }

pub unmarked-z-requires-in-loop-z : goal.unmarked-z-requires-in-loop-z
unmarked-z-requires-in-loop-z c =
    let done = fill_asks (fill_step (c.loop-z.invariant c.requires.by_index.0 c.requires.by_index.1) c.loop-z-test.true c.resume-e.auto.work c.resume-e.ensures).0 in
    record { by_index = done.0; n_in_bounds = done.1 }

pub loop-z-smaller : goal.loop-z-smaller
loop-z-smaller c =
    let F = fill_step (c.loop-z.invariant c.requires.by_index.0 c.requires.by_index.1) c.loop-z-test.true c.resume-e.auto.work c.resume-e.ensures in
    omega (arith, F.1, at_most F.0.walk.now)

pub loop-z-preserved : goal.loop-z-preserved
loop-z-preserved c P F = fill_on (fill_step (c.loop-z.invariant P F) c.loop-z-test.true c.resume-e.auto.work c.resume-e.ensures).0 c.unmarked-z-in-loop-z.ensures

pub returns : goal.returns
returns c P F = fill_done (c.loop-z.invariant P F) c.loop-z-test.false
