-- `levels_rooted::legal::search` meets its contract: the loop is `Searching.antt`'s. Assumes nothing.
use Prim.Native.Nat.{◌-◌}
use Rattle.spec.specs.Graph.{size_of}
use Rattle.levels_rooted.proofs.Searching.{Searching}
use Rattle.levels_rooted.proofs.legal.search.Given as goal

abbrev pub invariant-loop-a : goal.invariant-loop-a
invariant-loop-a l = Searching l.starts l.neighbours l.root l.levels l.sizes l.a l.b l.depth l.width

abbrev pub decreases-loop-a : goal.decreases-loop-a
decreases-loop-a l = size_of l.starts - l.a
