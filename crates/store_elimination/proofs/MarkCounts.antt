-- The two counts of the elimination with one unknown each: the ones of the mark bytes, and these less the edges. Assumes nothing.
use mathlib.Core.Path.{◌≡◌, ap, ◌∙◌}
use mathlib.Core.List.{List}
use Prim.Native.Nat.{ℕ, ◌+◌, ◌-◌, ◌/◌, ◌≤◌}
use native.Mathlib.Omega.{arith}
use lib.ListN.{length}
use Rattle.spec.specs.CallsStore.{EliminationFigures, elimination_figures}
use Rattle.spec.specs.Store.{mark_count, new_count, mark_bytes}
use Rattle.laws.proofs.ByTest.{renumbered_legal}
use Rattle.laws.proofs.Marks.{mark-new}
use Rattle.store_marks.specs.Marks.{ones}
use Rattle.store_eliminate.specs.Walk.{Given, new_graph}
use Rattle.store_unknowns.proofs.Counts.{ones-marks}
use Rattle.store_elimination.proofs.Degrees.{edges_listed}

module _ {S N x : List ℕ} (Γ : Given S N x) where
  -- the marks are the new pairs and the edges, which are half of the entries
  new_edges : mark_count (new_graph S N x) ≡ new_count (new_graph S N x) + length N / 2
  new_edges =
      mark-new (renumbered_legal Γ.graph x)
      ∙ ap (λ (k : ℕ). new_count (new_graph S N x) + k) (edges_listed Γ.starts Γ.graph x Γ.numbering)

  pub counts_are : (bytes : List ℕ) (r : ℕ) → bytes ≡ mark_bytes (new_graph S N x) → r ≡ ones bytes
      → ◌≡◌ {A = EliminationFigures} (record { marked = r; new = r - length N / 2 }) (elimination_figures (new_graph S N x))
  unfolding elimination_figures
  counts_are bytes r e c =
      let m : r ≡ mark_count (new_graph S N x) = c ∙ ap ones e ∙ ones-marks (new_graph S N x) in
      let n : r - length N / 2 ≡ new_count (new_graph S N x) = omega (arith, new_edges) in
      λ i. record { marked = m i; new = n i }

  pub edges_few : (bytes : List ℕ) (r : ℕ) → bytes ≡ mark_bytes (new_graph S N x) → r ≡ ones bytes → length N / 2 ≤ r
  edges_few bytes r e c = omega (arith, c ∙ ap ones e ∙ ones-marks (new_graph S N x), new_edges)
