-- `levels_place::legal::lower` meets its contract. Assumes nothing.
use Rattle.levels_laws.proofs.RaiseLower.{lower-some, lower-step_in, lower_done_in}
use Rattle.levels_place.proofs.legal.lower.Goals as goal

pub overflow_sub-scratch : goal.overflow_sub-scratch
overflow_sub-scratch c = lower-some c.loop-p.invariant c.loop-p-test.true c.slot-at.ensures

pub loop-p-preserved : goal.loop-p-preserved
loop-p-preserved c = lower-step_in c.loop-p.invariant c.loop-p-test.true c.slot-at.ensures

pub returns : goal.returns
returns c = let done = lower_done_in c.loop-p.invariant c.loop-p-test.false in record { scratch_value = done.0; scratch_value_2 = done.1 }
