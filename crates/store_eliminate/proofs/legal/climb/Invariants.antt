-- `store_eliminate::legal::climb` meets its contract: p is due in place of the first. Assumes nothing.
use Prim.Native.Nat.{◌-◌}
use Rattle.store_eliminate.specs.Walk.{Risen}
use Rattle.store_eliminate.proofs.legal.climb.Given as goal

abbrev pub invariant-loop-p : goal.invariant-loop-p
invariant-loop-p l = Risen l.row l.from l.p l.initial.scratch l.initial.bytes l.scratch l.bytes

abbrev pub decreases-loop-p : goal.decreases-loop-p
decreases-loop-p l = l.row.q - l.p
