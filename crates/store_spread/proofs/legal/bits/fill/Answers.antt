-- `store_spread::legal::bits::fill` meets its contract: i places are marked. Assumes nothing.
use native.Mathlib.Omega.{arith}
use Rattle.store_spread.proofs.Places.{filled-step}
use Rattle.store_spread.proofs.legal.bits.fill.Goals as goal

pub loop-i-preserved : goal.loop-i-preserved
loop-i-preserved c = filled-step c.loop-i.invariant (omega (arith, c.requires.fits)) c.set.ensures
