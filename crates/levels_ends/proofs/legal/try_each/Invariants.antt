-- `levels_ends::legal::try_each` meets its contract: the loop is `Trying.antt`'s. Assumes nothing.
use Rattle.levels_ends.proofs.Trying.{Trying}
use Rattle.levels_ends.proofs.legal.try_each.Given as goal

abbrev pub invariant-loop-i : goal.invariant-loop-i
invariant-loop-i l = Trying l.starts l.neighbours l.initial.work l.a l.b l.depth l.work l.best l.s l.held l.i
