-- `levels_ends::legal::copy_over` meets its contract: the loop is `Copying.antt`'s. Assumes nothing.
use native.Mathlib.Omega.{arith}
use Rattle.levels_ends.proofs.Copying.{copy_begin, v_low, v_fits, copy_step, copied}
use Rattle.levels_ends.proofs.legal.copy_over.Goals as goal

pub loop-i-init : goal.loop-i-init
loop-i-init c = copy_begin c.requires

pub overflow_sub-at : goal.overflow_sub-at
overflow_sub-at c = v_low c.loop-i.invariant c.loop-i-test.true c.from-at.ensures

pub bounds-work-half-in-loop-i : goal.bounds-work-half-in-loop-i
bounds-work-half-in-loop-i c = v_fits c.loop-i.invariant c.loop-i-test.true c.from-at.ensures

pub bounds-work-at : goal.bounds-work-at
bounds-work-at c = omega (arith, v_fits c.loop-i.invariant c.loop-i-test.true c.from-at.ensures)

pub loop-i-preserved : goal.loop-i-preserved
loop-i-preserved c = copy_step c.loop-i.invariant c.loop-i-test.true c.from-at.ensures

pub returns : goal.returns
returns c = copied c.loop-i.invariant c.loop-i-test.false
