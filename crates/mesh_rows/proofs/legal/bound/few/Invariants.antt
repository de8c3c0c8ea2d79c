-- `mesh_rows::legal::bound::few` meets its contract. Assumes nothing.
use Prim.Native.Nat.{ℕ, ◌-◌, ◌≤◌}
use lib.ListN.{length}
use Rattle.mesh_rows.proofs.Bound.{Pairing}
use Rattle.mesh_rows.proofs.legal.bound.few.Given as goal

abbrev pub invariant-loop-at : goal.invariant-loop-at
invariant-loop-at l = (l.at ≤ length l.elements) × ((n : ℕ) × Pairing n l.elements l.at l.total)

abbrev pub decreases-loop-at : goal.decreases-loop-at
decreases-loop-at l = length l.elements - l.at
