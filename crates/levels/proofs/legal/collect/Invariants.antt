-- `levels::legal::collect` meets its contract. Assumes nothing.
use Rattle.levels.proofs.Collecting.{Collecting}
use Rattle.levels.proofs.legal.collect.Given as goal

abbrev pub invariant-loop-p : goal.invariant-loop-p
invariant-loop-p l = Collecting l.n l.initial.scratch l.scratch l.count l.p
