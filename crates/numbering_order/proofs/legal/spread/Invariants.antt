-- `numbering_order::legal::spread` meets its contract. The invariant: where the cursor goes from here, it goes from the start. Assumes nothing.
use Prim.Native.Nat.{◌-◌}
use Rattle.numbering_order.proofs.Spread.{Spreading}
use Rattle.numbering_order.proofs.legal.spread.Given as goal

abbrev pub invariant-loop-h : goal.invariant-loop-h
invariant-loop-h l = Spreading l.starts l.neighbours l.n l.at l.initial.work l.c l.t l.i l.work l.e l.h

abbrev pub decreases-loop-h : goal.decreases-loop-h
decreases-loop-h l = l.n - l.h
