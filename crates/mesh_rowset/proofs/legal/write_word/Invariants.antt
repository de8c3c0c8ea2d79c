-- `mesh_rowset::legal::write_word` meets its contract. Assumes nothing.
use Prim.Native.Nat.{◌-◌}
use Rattle.mesh_rowset.proofs.Sets.{Writing}
use Rattle.mesh_rowset.proofs.legal.write_word.Given as goal

abbrev pub invariant-loop-rest : goal.invariant-loop-rest
invariant-loop-rest l = Writing l.word l.base l.p l.at l.initial.list l.k l.rest l.to l.list

abbrev pub decreases-loop-rest : goal.decreases-loop-rest
decreases-loop-rest l = 64 - l.k
