-- `levels_place::legal::raise` meets its contract. Assumes nothing.
use Rattle.levels_laws.proofs.RaiseLower.{RaisingIn}
use Rattle.levels_place.proofs.legal.raise.Given as goal

abbrev pub invariant-loop-p : goal.invariant-loop-p
invariant-loop-p l = RaisingIn l.n l.base l.s l.t l.initial.scratch l.scratch l.top l.p
