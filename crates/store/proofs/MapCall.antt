-- Beside DEMAND 3 of a numbering call and the elimination after it: the store map, called with the same two lists, the same counts and the same n
-- numbers, is the map of that store, and the marks that the elimination left stand by it. The premises are just what the contracts ensure.
-- Assumes nothing.
use mathlib.Core.Path.{◌≡◌, sym, ap, ◌∙◌}
use mathlib.Core.Bool.{true}
use mathlib.Core.List.{List}
use Prim.Native.Nat.{ℕ, ◌≤◌}
use lib.ListN.{take}
use Rattle.basis.specs.Lists.{bit}
use Rattle.spec.specs.CallsMap.{MapFigures, store_map_answer, store_map_first, store_map_place}
use Rattle.spec.specs.CallsStore.{EliminationFigures}
use Rattle.spec_claims.specs.Claim.{ClaimedAs}
use Rattle.spec.specs.Graph.{adjoins, graph_of, size_of}
use Rattle.spec.specs.Lent.{Outcome, accepted}
use Rattle.spec.specs.Numbering.{Figures, PartResult, Run}
use Rattle.spec.specs.Store.{Pair, joined, mark_at}
use Rattle.spec.specs.StoreMap.{has_place_in, place_in, MapClaim}
use Rattle.spec.specs.Unknowns.{renumbered_unknowns}
use Rattle.laws.proofs.StoreMap.{map_claim}

-- `store::store_map` was lent the scratch W and the lists A and P; M is the meaning of what it answered, A' and P' are what it left in these two
module _ (W A P : List ℕ) {M : Outcome MapFigures} {A' P' : List ℕ} where
  pub map_call : {S N K X : List ℕ}
      → M ≡ store_map_answer S N K X W A P
      → A' ≡ store_map_first S N K X W A P
      → P' ≡ store_map_place S N K X W A P
      → (m : MapFigures) → M ≡ accepted m → MapClaim S N K X A' P' m.unknowns m.profile
  map_call {S} {N} {K} {X} answered first place m e = rw (first, place) (map_claim S N K X W A P m (sym answered ∙ e))

  -- so the mark of each pair is found in the bytes B' that the elimination left, at the place that the map gives it
  pub map-marks : {whole : Run} {result : ℕ → PartResult} {S N K X L C B B' : List ℕ} {F : Figures} {E : Outcome EliminationFigures}
      → ClaimedAs whole result S N K F X L C B E B'
      → M ≡ store_map_answer S N K (take (size_of S) X) W A P
      → A' ≡ store_map_first S N K (take (size_of S) X) W A P
      → P' ≡ store_map_place S N K (take (size_of S) X) W A P
      → (m : MapFigures) → M ≡ accepted m → (e : EliminationFigures) → E ≡ accepted e → (pq : Pair) → pq.high ≤ m.unknowns → has_place_in A' pq ≡ true
      → mark_at B' (place_in A' P' pq) ≡ bit (adjoins (joined (renumbered_unknowns (graph_of S N) K (take (size_of S) X))) pq.low pq.high)
  map-marks {C = C} {B} claimed answered first place m ok e kept pq high has =
      ap (λ (b : List ℕ). mark_at b (place_in A' P' pq)) claimed.bytes
      ∙ (map_call answered first place m ok).marks C B e (sym claimed.elimination ∙ kept) pq high has
