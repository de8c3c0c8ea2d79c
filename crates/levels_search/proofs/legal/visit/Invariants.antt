-- `levels_search::legal::visit` meets its contract: the loop is `Visiting.antt`'s. Assumes nothing.
use Prim.Native.Nat.{◌-◌}
use lib.ListN.{length}
use Rattle.levels_search.proofs.Visiting.{Visiting}
use Rattle.levels_search.proofs.legal.visit.Given as goal

abbrev pub invariant-loop-k : goal.invariant-loop-k
invariant-loop-k l = Visiting l.row l.n l.initial.work l.tail l.j l.work l.t l.k

abbrev pub decreases-loop-k : goal.decreases-loop-k
decreases-loop-k l = length l.row - l.k
