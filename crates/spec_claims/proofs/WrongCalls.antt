-- The claim and the claim of the two calls (specs/Claim, `Claim` and `Claimed`) are no empty talk: figures, counts and bytes that do not belong to
-- the numbers handed on do not satisfy them. A theorem to a field, which refutes by that field alone. Assumes nothing.
use Prim.Native.Nat.{ℕ}
use mathlib.Core.List.{List, [], ◌∷◌}
use mathlib.Core.Path.{◌≡◌, ap}
use native.Mathlib.Omega.{arith}
use lib.ListN.{replicate, get_or}
use Rattle.spec.specs.CallsStore.{EliminationFigures}
use Rattle.spec_claims.specs.Claim.{Claim, Claimed}
use Rattle.spec.specs.Lent.{Outcome, accepted}
use Rattle.spec.specs.Numbering.{Figures}
use Rattle.spec_claims.proofs.Compute.{computes_claims}
use Rattle.spec_claims.proofs.Wrong.{no_invented_figure, S, N, K, figured}
use Rattle.spec_claims.proofs.WrongStore.{no_large_store}

-- a claim of which one half speaks of other figures
pub no_other_figures : (X L : List ℕ) → Claim S N K (figured 1 2 2) X L → ⊥
no_other_figures X L W = no_invented_figure X L W.numbered

pub no_other_size : (L : List ℕ) → Claim S N K (figured 1 9 1) (1 ∷ 2 ∷ 3 ∷ []) L → ⊥
no_other_size L W = no_large_store W.store

-- another run's figures
pub no_other-run : (X L C B : List ℕ) (E : Outcome EliminationFigures) (B' : List ℕ) → Claimed S N K (figured 1 2 2) X L C B E B' → ⊥
no_other-run X L C B E B' W = no_other_figures _ _ W.claim

-- ---- edges 1-2, 1-4, 2-3, 3-5: the run's numbers are 2, 3, 4, 1, 5, four marks and no new pair; by the old numbers seven and three

abbrev TS : List ℕ
TS = 0 ∷ 2 ∷ 4 ∷ 6 ∷ 7 ∷ 8 ∷ []

abbrev TN : List ℕ
TN = 2 ∷ 4 ∷ 1 ∷ 3 ∷ 2 ∷ 5 ∷ 1 ∷ 3 ∷ []

abbrev TK : List ℕ
TK = 1 ∷ 1 ∷ 1 ∷ 1 ∷ 1 ∷ []

abbrev TX : List ℕ
TX = 2 ∷ 3 ∷ 4 ∷ 1 ∷ 5 ∷ []

-- an elimination that was handed the old numbers: its counts ..
pub no_old_elimination : (F : Figures) (L B' : List ℕ) → Claimed TS TN TK F TX L (replicate 5 0) (0 ∷ []) (accepted (record { marked = 7; new = 3 })) B' → ⊥
unfolding computes_claims
no_old_elimination F L B' W = let z : ◌≡◌ {A = ℕ} 7 4 = counted W.elimination in absurd (omega (arith, z))
  where
    counted : {a b : EliminationFigures} → accepted a ≡ accepted b → a.marked ≡ b.marked
    counted e = cc

-- .. and its bytes
pub no_old-marks : (F : Figures) (L : List ℕ) (E : Outcome EliminationFigures) → Claimed TS TN TK F TX L (replicate 5 0) (0 ∷ []) E (127 ∷ []) → ⊥
unfolding computes_claims
no_old-marks F L E W = let z : ◌≡◌ {A = ℕ} 127 15 = ap (λ (l : List ℕ). get_or l 0 0) W.bytes in absurd (omega (arith, z))
