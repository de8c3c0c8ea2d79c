-- `levels_combine::legal::mirror` meets its contract. Assumes nothing.
use Prim.Native.Nat.{◌*◌}
use Rattle.levels_laws.specs.Members.{mirrored_at, Mirrorable}
use Rattle.levels_laws.proofs.StoreEach.{Storing}
use Rattle.levels_combine.proofs.legal.mirror.Given as goal

abbrev pub invariant-loop-i : goal.invariant-loop-i
invariant-loop-i l = Mirrorable l.n l.from l.to l.k l.initial.scratch × Storing (2 * l.n) (mirrored_at l.n l.k l.initial.scratch) l.n l.from l.to l.initial.scratch l.scratch l.i
