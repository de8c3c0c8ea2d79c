-- `store_spread::legal::bits::copy` meets its contract: i marks are copied. Assumes nothing.
use native.Mathlib.Omega.{arith}
use Rattle.store_spread.proofs.Places.{copied_step, copied_ahead}
use Rattle.store_spread.proofs.legal.bits.copy.Goals as goal

pub copy_mark-requires : goal.copy_mark-requires
copy_mark-requires c = record {
  room = record { fits = omega (arith, c.requires.room.fits, c.loop-i.invariant.size); small = omega (arith, c.requires.room.small) };
  s_lt_t = (omega (arith, c.requires.w_bound.0), λ u a b. copied_ahead c.loop-i.invariant c.requires.w_bound.1 u a (omega arith));
}

pub loop-i-preserved : goal.loop-i-preserved
loop-i-preserved c = copied_step c.loop-i.invariant (omega (arith, c.requires.w_bound.0)) c.copy_mark.ensures
