-- `store_spread::legal::bits::copy` meets its contract: i marks are copied. Assumes nothing.
use Rattle.store_spread.specs.Places.{Copied}
use Rattle.store_spread.proofs.legal.bits.copy.Given as goal

abbrev pub invariant-loop-i : goal.invariant-loop-i
invariant-loop-i l = Copied l.initial.bytes l.bytes l.s l.t l.i
