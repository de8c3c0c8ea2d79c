-- What A.3's call ensures (specs/ClaimCuthill) is no empty talk: numbers and levels that a wrong program would report do not satisfy it.
-- Assumes nothing.
use Prim.Native.Nat.{ℕ}
use mathlib.Core.List.{List, [], ◌∷◌}
use mathlib.Core.Path.{◌≡◌, ap}
use native.Mathlib.Omega.{arith}
use lib.ListN.{get_or}
use Rattle.spec_claims.specs.ClaimCuthill.{CuthillNumbered}
use Rattle.spec.specs.Numbering.{Figures}
use Rattle.spec_claims.proofs.Compute.{computes_claims}
use Rattle.spec_claims.proofs.Wrong.{S, N, K}

-- ---- a star, centre 1, leaves 2 to 5: v is 2, the numbers are 4, 5, 3, 2, 1

abbrev SS : List ℕ
SS = 0 ∷ 4 ∷ 5 ∷ 6 ∷ 7 ∷ 8 ∷ []

abbrev SN : List ℕ
SN = 2 ∷ 3 ∷ 4 ∷ 5 ∷ 1 ∷ 1 ∷ 1 ∷ 1 ∷ []

abbrev SK : List ℕ
SK = 1 ∷ 1 ∷ 1 ∷ 1 ∷ 1 ∷ []

-- a start at u, which is 3
pub no_start_at_u : (F : Figures) (L : List ℕ) → CuthillNumbered SS SN SK F (4 ∷ 3 ∷ 5 ∷ 2 ∷ 1 ∷ []) L → ⊥
unfolding computes_claims
no_start_at_u F L C = let z : ◌≡◌ {A = ℕ} 3 5 = ap (λ (x : List ℕ). get_or x 1 0) C.numbered.numbers in absurd (omega (arith, z))

-- a part that is not turned
pub no_forward : (F : Figures) (L : List ℕ) → CuthillNumbered SS SN SK F (2 ∷ 1 ∷ 3 ∷ 4 ∷ 5 ∷ []) L → ⊥
unfolding computes_claims
no_forward F L C = let z : ◌≡◌ {A = ℕ} 2 4 = ap (λ (x : List ℕ). get_or x 0 0) C.numbered.numbers in absurd (omega (arith, z))

-- combined levels handed back
pub no_combined-levels : (F : Figures) (X : List ℕ) → CuthillNumbered SS SN SK F X (2 ∷ 1 ∷ 3 ∷ 3 ∷ 1 ∷ []) → ⊥
unfolding computes_claims
no_combined-levels F X C = let z : ◌≡◌ {A = ℕ} 1 3 = ap (λ (l : List ℕ). get_or l 4 0) C.numbered.levels in absurd (omega (arith, z))

-- levels turned with the order
pub no_turned_levels : (F : Figures) (X : List ℕ) → CuthillNumbered SS SN SK F X (2 ∷ 3 ∷ 1 ∷ 1 ∷ 1 ∷ []) → ⊥
unfolding computes_claims
no_turned_levels F X C = let z : ◌≡◌ {A = ℕ} 3 1 = ap (λ (l : List ℕ). get_or l 1 0) C.numbered.levels in absurd (omega (arith, z))

-- ---- the path 1-2-3: turned or not, the profile is 2

-- a part turned only where the profile falls
pub no_turn_by_profile : (F : Figures) (L : List ℕ) → CuthillNumbered S N K F (1 ∷ 2 ∷ 3 ∷ []) L → ⊥
unfolding computes_claims
no_turn_by_profile F L C = let z : ◌≡◌ {A = ℕ} 1 3 = ap (λ (x : List ℕ). get_or x 0 0) C.numbered.numbers in absurd (omega (arith, z))
