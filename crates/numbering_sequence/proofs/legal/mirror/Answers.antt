-- `numbering_sequence::legal::mirror` meets its contract. The invariant: the levels of the nodes passed are counted from the other end.
-- Assumes nothing.
use native.Mathlib.Omega.{arith}
use Rattle.numbering_sequence.proofs.Mirrored.{mirror_begin, mirror_range, mirror_level, mirror_step, mirror_done}
use Rattle.numbering_sequence.proofs.legal.mirror.Goals as goal

pub loop-j-init : goal.loop-j-init
loop-j-init c = mirror_begin c.requires

pub overflow_sub-p : goal.overflow_sub-p
overflow_sub-p c = (mirror_range c.loop-j.invariant c.loop-j-test.true c.from.ensures).0

pub bounds-work-p : goal.bounds-work-p
bounds-work-p c = (mirror_range c.loop-j.invariant c.loop-j-test.true c.from.ensures).1

pub overflow_sub-work : goal.overflow_sub-work
overflow_sub-work c = omega (arith, (mirror_level c.loop-j.invariant c.loop-j-test.true c.from.ensures).1)

pub bounds-work-p-in-loop-j : goal.bounds-work-p-in-loop-j
bounds-work-p-in-loop-j c = (mirror_range c.loop-j.invariant c.loop-j-test.true c.from.ensures).1

pub loop-j-preserved : goal.loop-j-preserved
loop-j-preserved c = mirror_step c.loop-j.invariant c.loop-j-test.true c.from.ensures

pub returns : goal.returns
returns c = mirror_done c.loop-j.invariant c.loop-j-test.false
