-- The graph of any elements is legal. Assumes nothing.
use mathlib.Core.Path.{◌≡◌, refl, ap, ap₂, ◌∙◌}
use mathlib.Core.Bool.{false, not, ◌&&◌, ◌||◌, and_comm}
use mathlib.Core.List.{List, [], ◌∷◌}
use Prim.Native.Nat.{ℕ}
use Rattle.basis.specs.Lists.{anyb, memb}
use Rattle.basis.proofs.Logic.{eqb_sym, eqb_self}
use Rattle.spec.specs.Mesh.{joins, mesh_graph}
use Rattle.laws.specs.Legal.{LegalGraph}
use Rattle.laws.proofs.ByTest.{by_legal}

any_swap : (els : List (List ℕ)) (p q : ℕ) → anyb (λ e. memb p e && memb q e) els ≡ anyb (λ e. memb q e && memb p e) els
any_swap [] p q = refl
any_swap (e ∷ els) p q = ap₂ ◌||◌ (and_comm (memb p e) (memb q e)) (any_swap els p q)

pub joins_swap : (els : List (List ℕ)) (p q : ℕ) → joins els p q ≡ joins els q p
unfolding joins
joins_swap els p q = ap₂ ◌&&◌ (ap not (eqb_sym p q)) (any_swap els p q)

pub joins_self : (els : List (List ℕ)) (p : ℕ) → joins els p p ≡ false
unfolding joins
joins_self els p = ap (λ b. not b && anyb (λ e. memb p e && memb p e) els) (eqb_self p)

pub mesh_graph_legal : (n : ℕ) (els : List (List ℕ)) → LegalGraph (mesh_graph n els)
unfolding mesh_graph
mesh_graph_legal n els = by_legal n (joins els) (λ p q h. joins_swap els q p ∙ h) (joins_self els)
