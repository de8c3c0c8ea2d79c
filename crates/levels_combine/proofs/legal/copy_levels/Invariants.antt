-- `levels_combine::legal::copy_levels` meets its contract. Assumes nothing.
use Prim.Native.Nat.{◌*◌}
use Rattle.levels_laws.specs.Model.{number_at}
use Rattle.levels_laws.proofs.StoreEach.{Storing}
use Rattle.levels_combine.proofs.legal.copy_levels.Given as goal

abbrev pub invariant-loop-i : goal.invariant-loop-i
invariant-loop-i l = Storing (5 * l.n) (number_at l.base l.initial.scratch) l.n l.from l.to l.initial.scratch l.scratch l.i
