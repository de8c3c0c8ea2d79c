-- `numbering_reverse::legal::put_aheads` meets its contract: the nodes passed have the unknowns ahead of them. Assumes nothing.
use native.Mathlib.Omega.{arith}
use Rattle.numbering_reverse.proofs.Placing.{putting_begin, putting_size, putting_few, z_range, z-counted, z_few, putting_step, putting_done}
use Rattle.numbering_reverse.proofs.legal.put_aheads.Goals as goal

pub loop-i-init : goal.loop-i-init
loop-i-init c = putting_begin c.requires.m_le_n c.requires.listed c.requires.counts_value

pub overflow_cast-work : goal.overflow_cast-work
overflow_cast-work c = omega (arith, putting_few c.loop-i.invariant)

pub overflow_sub-work : goal.overflow_sub-work
overflow_sub-work c = (z_range c.loop-i.invariant c.loop-i-test.true c.from-z.ensures).0

pub bounds-work-z : goal.bounds-work-z
bounds-work-z c = omega (arith, z_range c.loop-i.invariant c.loop-i-test.true c.from-z.ensures, putting_size c.loop-i.invariant)

pub number-c-requires : goal.number-c-requires
number-c-requires c = z-counted c.loop-i.invariant c.loop-i-test.true c.from-z.ensures

-- its count, added to the sum
pub overflow_add-sum : goal.overflow_add-sum
overflow_add-sum c = omega (arith, putting_few c.loop-i.invariant, c.number-c.ensures, z_few c.loop-i.invariant c.loop-i-test.true c.from-z.ensures)

pub loop-i-preserved : goal.loop-i-preserved
loop-i-preserved c = putting_step c.loop-i.invariant c.loop-i-test.true c.from-z.ensures c.number-c.ensures

pub returns : goal.returns
returns c = putting_done c.loop-i.invariant c.loop-i-test.false
