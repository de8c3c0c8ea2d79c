-- `numbering_order::legal::rooted::befores` meets its contract. The invariant: the levels still to come number as from level 2 on. Assumes nothing.
use native.Mathlib.Omega.{arith}
use Rattle.numbering_order.proofs.Walk.{walk_open, walk_far}
use Rattle.numbering_order.proofs.Rooted.{rooting_begin, rooting_inside, rooting_step, rooting_done}
use Rattle.numbering_order.proofs.legal.rooted.befores.Goals as goal

pub loop-i-init : goal.loop-i-init
loop-i-init c = rooting_begin c.requires.neighbours_value c.requires.n_value c.requires.fact c.requires.far c.requires.levelled

pub from_before-e-requires : goal.from_before-e-requires
from_before-e-requires c =
    let I = c.loop-i.invariant in
    let K = c.loop-i.invariant.walk in
    record { neighbours_value = c.loop-i.invariant.walk.ok; n_value = c.loop-i.invariant.walk.sized; fact = walk_open K; far = walk_far K; a_le_b = rooting_inside I }

pub loop-i-preserved : goal.loop-i-preserved
loop-i-preserved c = rooting_step c.loop-i.invariant c.loop-i-test.true c.from_before-e.auto.work c.from_before-e.ensures

pub returns-2 : goal.returns-2
returns-2 c = rooting_done (rooting_step c.loop-i.invariant c.loop-i-test.true c.from_before-e.auto.work c.from_before-e.ensures) (omega arith)
