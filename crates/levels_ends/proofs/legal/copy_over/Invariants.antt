-- `levels_ends::legal::copy_over` meets its contract: the loop is `Copying.antt`'s. Assumes nothing.
use Rattle.levels_ends.proofs.Copying.{Copying}
use Rattle.levels_ends.proofs.legal.copy_over.Given as goal

abbrev pub invariant-loop-i : goal.invariant-loop-i
invariant-loop-i l = Copying l.n l.count l.initial.work l.work l.i
