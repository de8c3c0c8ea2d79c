-- `levels_search::legal::wipe_each` meets its contract: the loop is `Wiping.antt`'s. Assumes nothing.
use Rattle.levels_search.proofs.Wiping.{wipe_begin, v_low, v_fits, wipe_step, wiped}
use Rattle.levels_search.proofs.legal.wipe_each.Goals as goal

pub loop-i-init : goal.loop-i-init
loop-i-init c = wipe_begin c.requires

pub overflow_sub-at : goal.overflow_sub-at
overflow_sub-at c = v_low c.loop-i.invariant c.loop-i-test.true c.from-at.ensures

pub bounds-work-at : goal.bounds-work-at
bounds-work-at c = v_fits c.loop-i.invariant c.loop-i-test.true c.from-at.ensures

pub loop-i-preserved : goal.loop-i-preserved
loop-i-preserved c = wipe_step c.loop-i.invariant c.loop-i-test.true c.from-at.ensures

pub returns : goal.returns
returns c = wiped c.loop-i.invariant c.loop-i-test.false
