-- `levels_ends::legal::ends_from` meets its contract: the loop is `Ending.antt`'s. Assumes nothing.
use Prim.Native.Nat.{◌-◌}
use Rattle.spec.specs.Graph.{size_of}
use Rattle.levels_ends.proofs.Ending.{Going}
use Rattle.levels_ends.proofs.legal.ends_from.Given as goal

abbrev pub invariant-loop-t : goal.invariant-loop-t
invariant-loop-t l = Going l.starts l.neighbours l.first l.v l.r l.t l.passes l.work

abbrev pub decreases-loop-t : goal.decreases-loop-t
decreases-loop-t l = size_of l.starts - l.r.depth
