-- "A numbering that our engine made is accepted with the engine's figures" (document 02, A.5), of `wagonepoch_run` or
-- `wagonepoch_reverse_cuthill_mckee` and then `wagonepoch_import_numbering` on its n numbers: the figures handed over are the third, fourth and
-- fifth of its list, and the counts are the same. The premises are just what the two contracts ensure, and that the first answered 0.
-- Assumes nothing.
use mathlib.Core.Path.{◌≡◌, sym, ap, ◌∙◌}
use mathlib.Core.Bool.{◌||◌}
use mathlib.Core.List.{List}
use Prim.Native.Nat.{ℕ}
use lib.ListN.{get_or, take}
use Rattle.spec.specs.CallsCuthill.{cuthill_answer, cuthill_numbers, cuthill_levels}
use Rattle.spec_import.specs.CallsImport.{import_refusal, import_answer, import_numbers}
use Rattle.spec.specs.CallsNumbering.{run_answer, run_numbers, run_levels}
use Rattle.spec_claims.specs.Claim.{NumberedAs}
use Rattle.spec_import.specs.ClaimImport.{pairs_of, Listing}
use Rattle.spec.specs.Cuthill.{cuthill_run}
use Rattle.spec.specs.Graph.{graph_of, graph_refusal, size_of}
use Rattle.spec.specs.Lent.{filled, short}
use Rattle.spec.specs.Numbering.{PartResult, Run, run}
use Rattle.spec.specs.Refusal.{refuse}
use Rattle.laws.proofs.Claim.{claim}
use Rattle.laws.proofs.CuthillRun.{cuthill_claim}
use Rattle.numbering_import.proofs.Import.{numbered_import}
use Rattle.capi_figures.specs.Figures.{number, answer_c, lent_c, figures_c, run_list}
use Rattle.capi_figures.specs.Claimed.{figures_in}
use Rattle.capi_import.specs.Sent.{sent_c}
use Rattle.capi.proofs.Calls.{number-outcome}
use Rattle.capi.proofs.TwoCalls.{numbering_claim}

-- ---- handed over by a listing ps of its n numbers, numbers B and scratch C lent: this call answered s and left B'

module _ {whole : Run} {result : ℕ → PartResult} (S N K P X L B C : List ℕ) (numbered : NumberedAs whole result S N K (figures_in P) (take (size_of S) X) (take (size_of S) L)) (ps : List ℕ) (listing : Listing (size_of S) (take (size_of S) X) ps) {s : ℕ} {B' : List ℕ} (answers : s ≡ import_refusal S N K (pairs_of (take (size_of S) X) ps) (sent_c (get_or P 2 0) (get_or P 3 0) (get_or P 4 0)) B C) (numbers : B' ≡ import_numbers S N K (pairs_of (take (size_of S) X) ps) (sent_c (get_or P 2 0) (get_or P 3 0) (get_or P 4 0)) B C) where
  -- refused by nothing but a short list, it hands the n numbers back
  imported : (s ≡ refuse (short B (size_of S) || short C (size_of S)) 5) × (B' ≡ filled (refuse (short B (size_of S) || short C (size_of S)) 5) (take (size_of S) X) B)
  unfolding import_answer
  imported =
      let I = numbered_import numbered in
      (answers ∙ number-outcome _ tt ∙ ap number (I.accepts ps B C listing) ∙ sym (number-outcome _ tt), numbers ∙ I.whole ps B C listing)

-- ---- of each order: numbers X₀, levels L₀, passes T₀, scratch W and figures P₀ are lent to it, and it left P, X and L

module _ (S N K X₀ L₀ T₀ W P₀ P X L B C : List ℕ) {r : ℕ} (accepts : r ≡ 0) (ps : List ℕ) (listing : Listing (size_of S) (take (size_of S) X) ps) {s : ℕ} {B' : List ℕ} (answers : s ≡ import_refusal S N K (pairs_of (take (size_of S) X) ps) (sent_c (get_or P 2 0) (get_or P 3 0) (get_or P 4 0)) B C) (numbers : B' ≡ import_numbers S N K (pairs_of (take (size_of S) X) ps) (sent_c (get_or P 2 0) (get_or P 3 0) (get_or P 4 0)) B C) where
  pub run_import_calls : r ≡ answer_c 7 P₀ (graph_refusal S N) (run_answer S N K X₀ L₀ T₀ W) → P ≡ figures_c 7 P₀ run_list (run_answer S N K X₀ L₀ T₀ W)
      → X ≡ lent_c 7 P₀ X₀ (run_numbers S N K X₀ L₀ T₀ W) → L ≡ lent_c 7 P₀ L₀ (run_levels S N K X₀ L₀ T₀ W)
      → (s ≡ refuse (short B (size_of S) || short C (size_of S)) 5) × (B' ≡ filled (refuse (short B (size_of S) || short C (size_of S)) 5) (take (size_of S) X) B)
  unfolding run_answer
  run_import_calls a p x l =
      imported S N K P X L B C (numbering_claim (run (graph_of S N) K) S N K X₀ L₀ P₀ P X L _ _ _ (claim S N K X₀ L₀ T₀ W) a p x l accepts).numbered ps listing answers numbers

  pub cuthill_import_calls : r ≡ answer_c 7 P₀ (graph_refusal S N) (cuthill_answer S N K X₀ L₀ T₀ W) → P ≡ figures_c 7 P₀ run_list (cuthill_answer S N K X₀ L₀ T₀ W)
      → X ≡ lent_c 7 P₀ X₀ (cuthill_numbers S N K X₀ L₀ T₀ W) → L ≡ lent_c 7 P₀ L₀ (cuthill_levels S N K X₀ L₀ T₀ W)
      → (s ≡ refuse (short B (size_of S) || short C (size_of S)) 5) × (B' ≡ filled (refuse (short B (size_of S) || short C (size_of S)) 5) (take (size_of S) X) B)
  unfolding cuthill_answer
  cuthill_import_calls a p x l =
      imported S N K P X L B C (numbering_claim (cuthill_run (graph_of S N) K) S N K X₀ L₀ P₀ P X L _ _ _ (cuthill_claim S N K X₀ L₀ T₀ W) a p x l accepts).numbered ps listing answers numbers
