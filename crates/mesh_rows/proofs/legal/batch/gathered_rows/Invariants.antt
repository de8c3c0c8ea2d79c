-- `mesh_rows::legal::batch::gathered_rows` meets its contract. Assumes nothing.
use Prim.Native.Nat.{ℕ, ◌+◌}
use mathlib.Core.Path.{◌≡◌}
use mathlib.Core.List.{List}
use lib.ListN.{length}
use Rattle.mesh_rows.proofs.Laying.{Filling}
use Rattle.mesh_rows.proofs.Rows.{Left}
use Rattle.mesh_rows.proofs.legal.batch.gathered_rows.Given as goal

-- the first `row` of the rows are laid, and the sets of the others are as gathered
pub record Laying (n : ℕ) (elements : List ℕ) (base : ℕ) (starts₀ neighbours₀ group starts neighbours : List ℕ) (to row : ℕ) : Type 0 where
  pub size : length group ≡ 4096
  pub sets : Left elements base row group
  pub filling : Filling n elements base starts₀ neighbours₀ starts neighbours to (base + row)

abbrev pub invariant-loop-row : goal.invariant-loop-row
invariant-loop-row l = Laying l.n l.elements l.base l.initial.starts l.initial.neighbours l.group l.starts l.neighbours l.to l.row
