-- `store_spread::legal::bits::repeat` meets its contract: j rows stand, and t is where the next starts. Assumes nothing.
use mathlib.Core.Path.{◌≡◌}
use Rattle.store_spread.specs.Places.{row_start, Repeated}
use Rattle.store_spread.proofs.legal.bits.repeat.Given as goal

abbrev pub invariant-loop-j : goal.invariant-loop-j
invariant-loop-j l = record {
  next : l.t ≡ row_start l.s l.w l.j;
  rows : Repeated l.initial.bytes l.bytes l.s l.w l.j;
}
