-- Demand 3 of the two calls of C (specs/Claimed) is no empty talk: a theorem to a field, which refutes by that field alone what a wrong pair of
-- calls would report. On the path 1-2-3, whose store has two places, both marked; and, for the counts of unknowns, on a pair. Assumes nothing.
use mathlib.Core.Path.{◌≡◌, refl, ap}
use mathlib.Core.List.{List, [], ◌∷◌}
use Prim.Native.Nat.{ℕ}
use native.Mathlib.Omega.{arith}
use lib.ListN.{get_or, replicate}
use Rattle.spec_claims.specs.Claim.{JoinedPlace}
use Rattle.spec.specs.Graph.{graph_of}
use Rattle.spec.specs.Unknowns.{renumbered_unknowns}
use Rattle.spec.proofs.Compute.{computes}
use Rattle.spec_claims.proofs.Wrong.{S, N, K}
use Rattle.spec_claims.proofs.WrongCalls.{no_other_figures}
use Rattle.capi_figures.specs.Claimed.{ClaimedC}

-- the run's list of figures, of width w
abbrev figured : ℕ → List ℕ
figured w = 3 ∷ 1 ∷ 1 ∷ 2 ∷ 2 ∷ 3 ∷ w ∷ []

abbrev X : List ℕ
X = 1 ∷ 2 ∷ 3 ∷ []

-- another run's figures in the list
pub no_other_list : (X L C B Q : List ℕ) (a : ℕ) (Q' B' : List ℕ) → ClaimedC S N K (figured 2) X L C B Q a Q' B' → ⊥
no_other_list X L C B Q a Q' B' W = no_other_figures _ _ W.claim

-- 0 answered where no mark byte was lent
pub no_zero_for_8 : (L Q' B' : List ℕ) → ClaimedC S N K (figured 1) X L (replicate 3 0) [] (replicate 2 0) 0 Q' B' → ⊥
unfolding computes
no_zero_for_8 L Q' B' W = let z : ◌≡◌ {A = ℕ} 0 8 = W.refuses in absurd (omega (arith, z))

-- mark bytes that are untouched after an answer of 0
first-place : JoinedPlace (renumbered_unknowns (graph_of S N) K X) 0
unfolding computes
first-place = record { pair = record { low = 1; high = 2 }; order = omega arith; join = refl; has = refl; stands = refl }

pub no_untouched_marks : (L Q' : List ℕ) → ClaimedC S N K (figured 1) X L (replicate 3 0) (0 ∷ []) (replicate 2 0) 0 Q' (0 ∷ []) → ⊥
unfolding computes
no_untouched_marks L Q' W = let z : ◌≡◌ {A = ℕ} 0 1 = (W.marks refl 0 (omega arith)).1 first-place in absurd (omega (arith, z))

-- invented counts
pub no_invented_counts : (L B' : List ℕ) → ClaimedC S N K (figured 1) X L (replicate 3 0) (0 ∷ []) (replicate 2 0) 0 (3 ∷ 1 ∷ []) B' → ⊥
unfolding computes
no_invented_counts L B' W = let z : ◌≡◌ {A = ℕ} 3 2 = ap (λ (l : List ℕ). get_or l 0 0) (W.counts refl) in absurd (omega (arith, z))

-- ---- a pair of nodes with two and three unknowns: its store has ten places, all marked

-- the figures of an elimination that was handed one unknown each
pub no_figures_of_nodes : (L B' : List ℕ)
    → ClaimedC (0 ∷ 1 ∷ 2 ∷ []) (2 ∷ 1 ∷ []) (2 ∷ 3 ∷ []) (2 ∷ 1 ∷ 4 ∷ 10 ∷ 5 ∷ 2 ∷ 3 ∷ []) (1 ∷ 2 ∷ []) L (replicate 2 0) (replicate 2 0) (replicate 2 0) 0 (1 ∷ 0 ∷ []) B' → ⊥
unfolding computes
no_figures_of_nodes L B' W = let z : ◌≡◌ {A = ℕ} 1 10 = ap (λ (l : List ℕ). get_or l 0 0) (W.counts refl) in absurd (omega (arith, z))
