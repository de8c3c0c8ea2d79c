-- `levels_place::legal::put` meets its contract. Assumes nothing.
use Rattle.levels_laws.proofs.PutLevels.{Putting}
use Rattle.levels_place.proofs.legal.put.Given as goal

abbrev pub invariant-loop-p : goal.invariant-loop-p
invariant-loop-p l = Putting l.n l.base l.s l.t l.initial.scratch l.scratch l.p
