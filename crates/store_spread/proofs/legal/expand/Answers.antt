-- `store_spread::legal::expand` meets its contract: the marks of the nodes from p on are moved. Assumes nothing.
use mathlib.Core.Path.{◌≡◌}
use native.Mathlib.Omega.{arith}
use Rattle.laws.proofs.UnknownOrder.{counts_length}
use Rattle.store_spread.proofs.Rows.{expanded_none, step, step-at, step_clear, step_more}
use Rattle.store_spread.proofs.legal.expand.Goals as goal

pub loop-p-init : goal.loop-p-init
loop-p-init c = record { above = c.requires.listed.1.upto; at_is = c.requires.listed.1.wide; moved = expanded_none c.requires.listed.1 c.requires.room.1 }

pub count_of-c-requires : goal.count_of-c-requires
count_of-c-requires c = (c.requires.listed.0, omega (arith, c.requires.listed.1.low), omega (arith, c.requires.listed.1.high, counts_length c.args.counts.now c.args.order.now))

pub overflow_sub-at : goal.overflow_sub-at
overflow_sub-at c = let n = step c.requires.listed.0 c.requires.listed.1 c.loop-p.p c.loop-p.at c.count_of-c.result c.loop-p-test.true (omega arith) c.loop-p.invariant.at_is c.count_of-c.ensures in n.fits

pub overflow_cast-p : goal.overflow_cast-p
overflow_cast-p c = let n = step c.requires.listed.0 c.requires.listed.1 c.loop-p.p c.loop-p.at c.count_of-c.result c.loop-p-test.true (omega arith) c.loop-p.invariant.at_is c.count_of-c.ensures in omega arith

pub overflow_add-source : goal.overflow_add-source
overflow_add-source c = let n = step c.requires.listed.0 c.requires.listed.1 c.loop-p.p c.loop-p.at c.count_of-c.result c.loop-p-test.true (omega arith) c.loop-p.invariant.at_is c.count_of-c.ensures in omega arith

pub overflow_add-start : goal.overflow_add-start
overflow_add-start c = let n = step c.requires.listed.0 c.requires.listed.1 c.loop-p.p c.loop-p.at c.count_of-c.result c.loop-p-test.true (omega arith) c.loop-p.invariant.at_is c.count_of-c.ensures in omega arith

pub shift-requires : goal.shift-requires
shift-requires c =
    let n = step c.requires.listed.0 c.requires.listed.1 c.loop-p.p c.loop-p.at c.count_of-c.result c.loop-p-test.true (omega arith) c.loop-p.invariant.at_is c.count_of-c.ensures in record {
      room = record { fits = omega (arith, c.loop-p.invariant.moved.size); small = omega arith };
      s_le_t = (omega arith, n.some, step_clear c.requires.listed.0 c.requires.listed.1 c.loop-p.p c.loop-p.at c.count_of-c.result c.loop-p-test.true (omega arith) c.loop-p.invariant.at_is c.count_of-c.ensures c.loop-p.invariant.moved);
    }

pub loop-p-preserved : goal.loop-p-preserved
loop-p-preserved c = record {
  above = omega arith;
  at_is = step-at c.requires.listed.0 c.requires.listed.1 c.loop-p.p c.loop-p.at c.count_of-c.result c.loop-p-test.true (omega arith) c.loop-p.invariant.at_is c.count_of-c.ensures;
  moved = step_more c.requires.listed.0 c.requires.listed.1 c.loop-p.p c.loop-p.at c.count_of-c.result c.loop-p-test.true (omega arith) c.loop-p.invariant.at_is c.count_of-c.ensures c.loop-p.invariant.moved c.shift.ensures;
}

pub returns : goal.returns
returns c =
    let e : c.loop-p.p ≡ c.args.row.first = omega (arith, c.loop-p.invariant.above) in
    rw e at c.loop-p.invariant.moved
