-- The claim on our engine's numberings (specs/ClaimImport, document 02, A.5) is no empty talk: there is a listing that it speaks of, and with
-- figures in nodes, with those of another numbering or of broken lists it does not hold. Assumes nothing.
use Prim.Native.Nat.{ℕ, zero, suc, ◌≤◌}
use mathlib.Core.Bool.{false, true≢false}
use mathlib.Core.List.{List, [], ◌∷◌}
use mathlib.Core.Path.{◌≡◌, refl, ap}
use native.Mathlib.Omega.{arith}
use lib.ListN.{replicate}
use Rattle.basis.specs.Lists.{memb}
use Rattle.spec.specs.CallsNumbering.{MeasureFigures}
use Rattle.spec_import.specs.CallsImport.{given_twice}
use Rattle.spec_import.specs.ClaimImport.{pairs_of, Listing, ImportClaim}
use Rattle.spec.specs.Graph.{of_node}
use Rattle.spec_import.proofs.Compute.{computes_import}
use Rattle.spec.proofs.Called.{number_of}

-- ---- the path 1-2-3, numbered 2-1-3: bandwidth 2, profile 3, front 3; with two unknowns of node 1, 3, 6 and 4

abbrev S : List ℕ
S = 0 ∷ 1 ∷ 3 ∷ 4 ∷ []

abbrev N : List ℕ
N = 2 ∷ 1 ∷ 3 ∷ 2 ∷ []

abbrev X : List ℕ
X = 2 ∷ 1 ∷ 3 ∷ []

abbrev three : ℕ → ℕ → ℕ → MeasureFigures
three b p f = record { bandwidth = b; profile = p; front = f }

-- node 3 keeps its number
third : (p : ℕ) → 1 ≤ p → p ≤ 3 → memb p (2 ∷ 1 ∷ []) ≡ false → of_node X p ≡ p
unfolding of_node
third zero lo hi out = absurd (omega arith)
third (suc zero) lo hi out = absurd (true≢false out)
third (suc (suc zero)) lo hi out = absurd (true≢false out)
third (suc (suc (suc zero))) lo hi out = refl
third (suc (suc (suc (suc p)))) lo hi out = absurd (omega arith)

-- the pairs of a list of nodes
pairs_listed : pairs_of X (2 ∷ 1 ∷ []) ≡ 2 ∷ 1 ∷ 1 ∷ 2 ∷ []
unfolding computes_import
pairs_listed = refl

-- node 3 need not be listed
pub listed : Listing 3 X (2 ∷ 1 ∷ [])
unfolding given_twice
listed = record { inside = refl; once = refl; kept = third }

-- figures in nodes
pub no_node_figures : ImportClaim S N (2 ∷ 1 ∷ 1 ∷ []) X (three 2 3 3) → ⊥
unfolding computes_import number_of
no_node_figures C =
    let z : ◌≡◌ {A = ℕ} 14 0 = ap number_of (C.accepts (2 ∷ 1 ∷ []) (replicate 3 9) (replicate 3 9) listed) in
    absurd (omega (arith, z))

-- those of the old numbers
pub no_old_figures : ImportClaim S N (1 ∷ 1 ∷ 1 ∷ []) X (three 1 2 2) → ⊥
unfolding computes_import number_of
no_old_figures C =
    let z : ◌≡◌ {A = ℕ} 14 0 = ap number_of (C.accepts (2 ∷ 1 ∷ []) (replicate 3 9) (replicate 3 9) listed) in
    absurd (omega (arith, z))

-- rows {2}, {}, {}
pub no_broken_lists : (M : MeasureFigures) → ImportClaim (0 ∷ 1 ∷ 1 ∷ 1 ∷ []) (2 ∷ []) (1 ∷ 1 ∷ 1 ∷ []) X M → ⊥
unfolding computes_import number_of
no_broken_lists M C =
    let z : ◌≡◌ {A = ℕ} 4 0 = ap number_of (C.accepts (2 ∷ 1 ∷ []) (replicate 3 9) (replicate 3 9) listed) in
    absurd (omega (arith, z))
