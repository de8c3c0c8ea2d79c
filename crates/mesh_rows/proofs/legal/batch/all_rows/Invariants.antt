-- `mesh_rows::legal::batch::all_rows` meets its contract. Assumes nothing.
use Prim.Native.Nat.{ℕ, ◌-◌, ◌≤◌}
use mathlib.Core.Path.{◌≡◌}
use mathlib.Core.List.{List}
use lib.ListN.{length}
use Rattle.mesh_rows.specs.Rows.{Clean}
use Rattle.mesh_rows.proofs.Laying.{Filling}
use Rattle.mesh_rows.proofs.legal.batch.all_rows.Given as goal

-- the first `base` rows are laid
pub record Laying (lists₀ elements starts₀ neighbours₀ : List ℕ) (n : ℕ) (bits lists starts neighbours : List ℕ) (to base rows : ℕ) : Type 0 where
  pub nodes : n ≡ length lists₀
  pub within : base ≤ length lists₀
  pub size : length lists ≡ length lists₀
  pub filling : Filling (length lists₀) elements 0 starts₀ neighbours₀ starts neighbours to base
  pub clean : Clean bits
  pub few : rows ≤ 4096

abbrev pub invariant-loop-base : goal.invariant-loop-base
invariant-loop-base l = Laying l.initial.lists l.elements l.initial.starts l.initial.neighbours l.n l.bits l.lists l.starts l.neighbours l.to l.base l.rows

abbrev pub decreases-loop-base : goal.decreases-loop-base
decreases-loop-base l = l.n - l.base
