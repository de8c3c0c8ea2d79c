-- The list of level sizes (document 02, A.2): n words, which add up to the count reached, and whose greatest is the width. Assumes nothing.
use mathlib.Core.Path.{◌≡◌, ap, ◌∙◌}
use mathlib.Core.List.{List}
use Prim.Native.Nat.{ℕ, ◌-◌}
use native.Mathlib.Omega.{arith}
use lib.ListN.{length, take, replicate, length-append, length-map, length-replicate}
use Rattle.basis.specs.Lists.{sum, greatest}
use Rattle.basis.proofs.Index.{greatest-append, greatest-zeros}
use Rattle.basis.proofs.Lists.{sum-append, sum_zeros}
use Rattle.spec.specs.CallsLevels.{LevelFigures, level_figures, rooted_refusal, rooted_answer, rooted_sizes}
use Rattle.spec.specs.Graph.{Graph, graph_of, size_of}
use Rattle.spec.specs.Lent.{accepted}
use Rattle.spec.specs.Levels.{levels, depth, sizes, width, reached, size_list, part}
use Rattle.laws.specs.Legal.{Node, LegalGraph}
use Rattle.laws.proofs.Figures.{reached-part}
use Rattle.laws.proofs.Lent.{outcome_accepted, filled-front}
use Rattle.laws.proofs.Levels.{depth_most}

-- n words
pub sizes-length : (g : Graph) (r : ℕ) → length (size_list g (levels g r)) ≡ g.size
unfolding size_list sizes depth
sizes-length g r =
    omega (
      arith,
      length-append (sizes (levels g r)) (replicate (g.size - depth (levels g r)) 0),
      length-map (levels g r) length,
      length-replicate {A = ℕ} (g.size - depth (levels g r)) 0,
      depth_most g r,
    )

-- "The sizes add up to the count reached, for every root"
pub sizes_add_up : (g : Graph) (r : ℕ) → sum (size_list g (levels g r)) ≡ reached (levels g r)
unfolding size_list reached
sizes_add_up g r =
    omega (arith, sum-append (sizes (levels g r)) (replicate (g.size - depth (levels g r)) 0), sum_zeros (g.size - depth (levels g r)))

-- which is the number of nodes of the root's part
pub sizes-part : {g : Graph} (G : LegalGraph g) {r : ℕ} → Node g r → sum (size_list g (levels g r)) ≡ length (part g r)
sizes-part {g} G {r} R = sizes_add_up g r ∙ reached-part G R

-- the width is the greatest of the list
pub sizes-width : (g : Graph) (r : ℕ) → greatest (size_list g (levels g r)) ≡ width (levels g r)
unfolding size_list width
sizes-width g r =
    omega (arith, greatest-append (sizes (levels g r)) (replicate (g.size - depth (levels g r)) 0), greatest-zeros (g.size - depth (levels g r)))

-- the same of what the call answers and of the list that it leaves
pub rooted_adds_up : (S N : List ℕ) (r : ℕ) (L Z : List ℕ) (f : LevelFigures) → rooted_answer S N r L Z ≡ accepted f
    → (sum (take (size_of S) (rooted_sizes S N r L Z)) ≡ f.reached) × (greatest (take (size_of S) (rooted_sizes S N r L Z)) ≡ f.width)
unfolding rooted_answer rooted_sizes level_figures
rooted_adds_up S N r L Z f e =
    let w = outcome_accepted (rooted_refusal S N r L Z) (level_figures (levels (graph_of S N) r)) f e in
    let front = filled-front (rooted_refusal S N r L Z) (size_of S) (size_list (graph_of S N) (levels (graph_of S N) r)) Z w.0 (sizes-length (graph_of S N) r) in (
      ap sum front ∙ sizes_add_up (graph_of S N) r ∙ ap (λ (x : LevelFigures). x.reached) w.1,
      ap greatest front ∙ sizes-width (graph_of S N) r ∙ ap (λ (x : LevelFigures). x.width) w.1,
    )
