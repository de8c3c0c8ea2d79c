-- `levels_place::legal::lower` meets its contract. Assumes nothing.
use Rattle.levels_laws.proofs.RaiseLower.{LoweringIn}
use Rattle.levels_place.proofs.legal.lower.Given as goal

abbrev pub invariant-loop-p : goal.invariant-loop-p
invariant-loop-p l = LoweringIn l.n l.base l.s l.t l.initial.scratch l.scratch l.p
