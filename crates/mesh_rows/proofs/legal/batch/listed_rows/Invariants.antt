-- `mesh_rows::legal::batch::listed_rows` meets its contract. Assumes nothing.
use Prim.Native.Nat.{◌+◌}
use lib.ListN.{length}
use Rattle.mesh_rows.specs.Rows.{Clean}
use Rattle.mesh_rows.proofs.Laying.{Filling}
use Rattle.mesh_rows.proofs.legal.batch.listed_rows.Given as goal

abbrev pub invariant-loop-row : goal.invariant-loop-row
invariant-loop-row l = Filling (length l.lists) l.elements l.base l.initial.starts l.initial.neighbours l.starts l.neighbours l.to (l.base + l.row) × Clean l.bits
