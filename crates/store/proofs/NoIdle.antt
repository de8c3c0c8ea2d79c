-- "after the last elimination every place of the store is marked" (document 02, A.12), of the calls as they are made, "with one unknown a node". The
-- premises are just what the contracts ensure: E is the meaning of what `store::eliminate` answered, handed a count of 1 for each node and lent C
-- and B, and B' is what it left. Assumes nothing.
use mathlib.Core.Path.{◌≡◌, sym, ◌∙◌}
use mathlib.Core.List.{List}
use Prim.Native.Nat.{ℕ}
use lib.ListN.{take}
use Rattle.basis.specs.Lists.{overwrite}
use Rattle.spec.specs.CallsCuthill.{cuthill_answer, cuthill_numbers}
use Rattle.spec.specs.CallsStore.{EliminationFigures, elimination_answer, elimination_bytes}
use Rattle.spec.specs.Graph.{size_of, graph_of}
use Rattle.spec.specs.Lent.{Outcome, accepted}
use Rattle.spec.specs.Measures.{renumbered, profile}
use Rattle.spec_claims.specs.NoIdle.{full_bytes, Fills, turned_back}
use Rattle.spec.specs.Numbering.{Figures}
use Rattle.spec.specs.Unknowns.{ones}
use Rattle.laws.proofs.CuthillNoIdle.{turned_fills}

-- by a numbering X that fills its store: its answer's marks equal the profile, and its bytes are full
pub eliminate_full : (S N X C B B' : List ℕ) (E : Outcome EliminationFigures) → Fills S N X
    → E ≡ elimination_answer S N (ones (size_of S)) X C B → B' ≡ elimination_bytes S N (ones (size_of S)) X C B → (e : EliminationFigures) → E ≡ accepted e
    → (e.marked ≡ profile (renumbered (graph_of S N) X)) × (B' ≡ overwrite (full_bytes (profile (renumbered (graph_of S N) X))) B)
eliminate_full S N X C B B' E full answered left e a = (full.marked C B e (sym answered ∙ a), left ∙ full.bytes C B e (sym answered ∙ a))

-- by the numbers that `numbering::reverse_cuthill_mckee` left for a connected graph, turned back by the caller: A is the meaning of what it
-- answered, handed any counts K and lent X₀, L₀, P₀ and W, and X is what it left in the numbers
module _ (S N K X₀ L₀ P₀ W X : List ℕ) (A : Outcome Figures) (ordered : A ≡ cuthill_answer S N K X₀ L₀ P₀ W) (numbers : X ≡ cuthill_numbers S N K X₀ L₀ P₀ W) where
  abbrev Y : List ℕ
  Y = turned_back (size_of S) (take (size_of S) X)

  pub cuthill_eliminate_full : (F : Figures) → A ≡ accepted F → F.parts ≡ 1 → (C B B' : List ℕ) (E : Outcome EliminationFigures)
      → E ≡ elimination_answer S N (ones (size_of S)) Y C B → B' ≡ elimination_bytes S N (ones (size_of S)) Y C B → (e : EliminationFigures) → E ≡ accepted e
      → (e.marked ≡ profile (renumbered (graph_of S N) Y)) × (B' ≡ overwrite (full_bytes (profile (renumbered (graph_of S N) Y))) B)
  cuthill_eliminate_full F a one C B B' E answered left e b =
      eliminate_full S N Y C B B' E (rw numbers (turned_fills S N K X₀ L₀ P₀ W F (sym ordered ∙ a) one)) answered left e b
