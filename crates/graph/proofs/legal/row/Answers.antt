-- `graph::legal::row` meets its contract.
-- Assumes nothing.
use Prim.Native.Nat.{◌-◌}
use lib.ListN.{get_or}
use Rattle.spec.specs.Graph.{row_of}
use Rattle.basis.proofs.Walk.{part_slice}
use Rattle.graph.proofs.legal.row.Goals as goal

pub returns : goal.returns
unfolding row_of
returns c =
    let a = c.args in
    rw (c.from-from.ensures, c.from-to.ensures) (part_slice (get_or a.starts.now (a.p - 1) 0) (get_or a.starts.now a.p 0) a.neighbours.now)
