-- `levels_place::legal::widest` meets its contract. Assumes nothing.
use Prim.Native.Nat.{◌-◌}
use Rattle.levels_laws.proofs.Widest.{Topping}
use Rattle.levels_place.proofs.legal.widest.Given as goal

abbrev pub invariant-loop-i : goal.invariant-loop-i
invariant-loop-i l = Topping l.n l.k l.scratch l.top (l.i - 1)
