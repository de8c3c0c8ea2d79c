-- `levels_search::legal::search` meets its contract: the loop is `Searching.antt`'s, in the words of `SearchWords.antt`. Assumes nothing.
use Prim.Native.Nat.{◌-◌}
use Rattle.spec.specs.Graph.{size_of}
use Rattle.levels_search.proofs.SearchWords.{Inside}
use Rattle.levels_search.proofs.legal.search.Given as goal

abbrev pub invariant-loop-a : goal.invariant-loop-a
invariant-loop-a l = Inside l.starts l.neighbours l.root l.n l.work l.last l.a l.b l.depth l.width

abbrev pub decreases-loop-a : goal.decreases-loop-a
decreases-loop-a l = size_of l.starts - l.a
