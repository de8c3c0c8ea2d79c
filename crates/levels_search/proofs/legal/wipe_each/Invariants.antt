-- `levels_search::legal::wipe_each` meets its contract: the loop is `Wiping.antt`'s. Assumes nothing.
use Rattle.levels_search.proofs.Wiping.{Wiping}
use Rattle.levels_search.proofs.legal.wipe_each.Given as goal

abbrev pub invariant-loop-i : goal.invariant-loop-i
invariant-loop-i l = Wiping l.n l.count l.initial.work l.work l.i
