-- `levels_combine::legal::gather` meets its contract. Assumes nothing.
use Rattle.levels_laws.proofs.Gather.{Gathering}
use Rattle.levels_combine.proofs.legal.gather.Given as goal

abbrev pub invariant-loop-i : goal.invariant-loop-i
invariant-loop-i l = Gathering l.n l.from l.to l.initial.scratch l.scratch l.t l.i
