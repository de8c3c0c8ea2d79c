-- `numbering_part::legal::give_levels` meets its contract. Assumes nothing.
use native.Mathlib.Omega.{arith}
use Rattle.levels_laws.proofs.StoreEach.{z_low, z_high, z_fits}
use Rattle.numbering_part.proofs.Levels.{handing_begin, levels_size, handing_step}
use Rattle.numbering_part.proofs.legal.give_levels.Goals as goal

pub loop-i-init : goal.loop-i-init
loop-i-init c = handing_begin c.requires.members c.requires.n_in_bounds c.requires.levels_len

pub bounds-scratch-at : goal.bounds-scratch-at
bounds-scratch-at c = z_fits c.loop-i.invariant.store c.loop-i-test.true c.from-z.ensures

pub overflow_sub-levels : goal.overflow_sub-levels
overflow_sub-levels c =
    let I = c.loop-i.invariant.store in
    omega (arith, z_low I c.loop-i-test.true c.from-z.ensures, z_high I c.loop-i-test.true c.from-z.ensures, I.ask.few)

pub bounds-levels-z : goal.bounds-levels-z
bounds-levels-z c =
    let I = c.loop-i.invariant.store in
    omega (arith, z_low I c.loop-i-test.true c.from-z.ensures, z_high I c.loop-i-test.true c.from-z.ensures, I.ask.few, levels_size c.loop-i.invariant)

pub bounds-scratch-at-in-loop-i : goal.bounds-scratch-at-in-loop-i
bounds-scratch-at-in-loop-i c = z_fits c.loop-i.invariant.store c.loop-i-test.true c.from-z.ensures

pub loop-i-preserved : goal.loop-i-preserved
loop-i-preserved c = handing_step c.loop-i.invariant c.loop-i-test.true c.from-z.ensures
