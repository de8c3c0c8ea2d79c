-- The first node of a part, whichever node of it is given. Assumes nothing.
use mathlib.Core.Path.{◌≡◌, sym, ap, ◌∙◌, subst}
use mathlib.Core.Bool.{true}
use mathlib.Core.List.{List}
use Prim.Native.Nat.{ℕ, ◌≤◌}
use Rattle.basis.specs.Lists.{memb}
use Rattle.spec.specs.Ends.{ends}
use Rattle.spec.specs.Graph.{graph_of, size_of, graph_refusal, first_in_e}
use Rattle.spec.specs.Levels.{part}
use Rattle.laws.specs.Legal.{Node, LegalGraph}
use Rattle.laws.proofs.Ends.{first_part, ends_same}
use Rattle.laws.proofs.Levels.{part_node, part_same}
use Rattle.laws.proofs.Refused.{not_refused}

module _ (S N : List ℕ) (z : graph_refusal S N ≡ 0) {p : ℕ} (M : Node (graph_of S N) p) {v : ℕ} (e : v ≡ first_in_e (graph_of S N) (part (graph_of S N) p)) where
  G : LegalGraph (graph_of S N)
  G = not_refused S N z

  first_in_lem : memb v (part (graph_of S N) p) ≡ true
  first_in_lem = subst (λ (x : ℕ). memb x (part (graph_of S N) p) ≡ true) (sym e) (first_part G M)

  pub first_range : (1 ≤ v) × (v ≤ size_of S)
  first_range = let B = part_node G M v first_in_lem in (B.low, B.high)

  pub first-own : v ≡ first_in_e (graph_of S N) (part (graph_of S N) v)
  first-own = e ∙ ap (first_in_e (graph_of S N)) (sym (part_same G v M first_in_lem))

  pub same_ends : ends (graph_of S N) v ≡ ends (graph_of S N) p
  same_ends = ends_same G v M first_in_lem
