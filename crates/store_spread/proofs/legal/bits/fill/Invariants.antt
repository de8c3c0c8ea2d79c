-- `store_spread::legal::bits::fill` meets its contract: i places are marked. Assumes nothing.
use Rattle.store_spread.specs.Places.{Filled}
use Rattle.store_spread.proofs.legal.bits.fill.Given as goal

abbrev pub invariant-loop-i : goal.invariant-loop-i
invariant-loop-i l = Filled l.initial.bytes l.bytes l.t l.i
