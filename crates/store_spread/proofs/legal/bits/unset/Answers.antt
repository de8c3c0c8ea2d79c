-- `store_spread::legal::bits::unset` meets its contract. Assumes nothing.
use Prim.Native.Nat.{◌%◌}
use native.Mathlib.Omega.{arith}
use Rattle.store_marks.proofs.Bits.{one_shl}
use Rattle.store_spread.specs.Places.{turned_mark}
use Rattle.store_spread.proofs.legal.bits.unset.Goals as goal

pub returns : goal.returns
unfolding turned_mark
returns c = rw (one_shl (c.args.t % 8) (omega arith))
