-- `levels_place::legal::put` meets its contract. Assumes nothing.
use native.Mathlib.Omega.{arith}
use Rattle.levels_laws.proofs.PutLevels.{put_begin, put_at, put_step, put_done}
use Rattle.levels_place.proofs.legal.put.Goals as goal

pub loop-p-init : goal.loop-p-init
loop-p-init c = put_begin c.args.scratch.now c.requires.readable c.requires.n_in_bounds

pub overflow_sub-scratch : goal.overflow_sub-scratch
overflow_sub-scratch c =
    let node = put_at c.loop-p.invariant c.loop-p-test.true c.from-z.ensures in omega arith

pub bounds-scratch-base : goal.bounds-scratch-base
bounds-scratch-base c =
    let node = put_at c.loop-p.invariant c.loop-p-test.true c.from-z.ensures in omega (arith, c.loop-p.invariant.room)

pub bounds-scratch-n-in-loop-p : goal.bounds-scratch-n-in-loop-p
bounds-scratch-n-in-loop-p c =
    let node = put_at c.loop-p.invariant c.loop-p-test.true c.from-z.ensures in omega (arith, c.loop-p.invariant.room)

pub loop-p-preserved : goal.loop-p-preserved
loop-p-preserved c = put_step c.loop-p.invariant c.loop-p-test.true c.from-z.ensures

pub returns : goal.returns
returns c = let done = put_done c.loop-p.invariant c.loop-p-test.false in record { scratch_value = done.0; scratch_value_2 = done.1 }
