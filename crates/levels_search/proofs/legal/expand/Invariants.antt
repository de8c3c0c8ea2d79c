-- `levels_search::legal::expand` meets its contract: the loop is `Expanding.antt`'s. Assumes nothing.
use Rattle.levels_search.proofs.Expanding.{Inside}
use Rattle.levels_search.proofs.legal.expand.Given as goal

abbrev pub invariant-loop-h : goal.invariant-loop-h
invariant-loop-h l = Inside l.starts l.neighbours l.n l.initial.work l.most l.a l.b l.j l.work l.tail l.h
