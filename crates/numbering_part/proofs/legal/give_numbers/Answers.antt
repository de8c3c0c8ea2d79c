-- `numbering_part::legal::give_numbers` meets its contract. Assumes nothing.
use native.Mathlib.Omega.{arith}
use Rattle.numbering_part.proofs.Numbers.{giving_begin, numbers_size, z_range, giving_step, giving_words, giving_done}
use Rattle.numbering_part.proofs.legal.give_numbers.Goals as goal

pub loop-i-init : goal.loop-i-init
loop-i-init c = giving_begin c.requires

pub overflow_sub-numbers : goal.overflow_sub-numbers
overflow_sub-numbers c = omega (arith, z_range c.loop-i.invariant c.loop-i-test.true c.from-z.ensures)

pub bounds-numbers-z : goal.bounds-numbers-z
bounds-numbers-z c = omega (arith, z_range c.loop-i.invariant c.loop-i-test.true c.from-z.ensures, numbers_size c.loop-i.invariant)

pub loop-i-preserved : goal.loop-i-preserved
loop-i-preserved c = giving_step c.loop-i.invariant c.loop-i-test.true c.from-z.ensures

pub returns : goal.returns
returns c = record { scratch_value = giving_words c.loop-i.invariant c.loop-i-test.false; numbers_value = giving_done c.loop-i.invariant c.loop-i-test.false }
