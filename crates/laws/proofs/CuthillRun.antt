-- A.3's call (document 02): what is found of each part is sound, so that the whole is a numbering with the run's claim and the store guarantee,
-- "argued once for any numbering"; and the band of each part. Assumes nothing.
use mathlib.Core.Path.{◌≡◌, refl}
use mathlib.Core.Bool.{false}
use mathlib.Core.List.{List}
use Prim.Native.Nat.{ℕ, ◌-◌, ◌*◌, ◌≤◌}
use lib.ListN.{length, take}
use Rattle.spec.specs.CallsCuthill.{cuthill_refusal, cuthill_answer, cuthill_numbers, cuthill_levels}
use Rattle.spec_claims.specs.ClaimCuthill.{band_of, wide_of, CuthillNumbered, CuthillClaim}
use Rattle.spec.specs.Cuthill.{cuthill_result_by, cuthill_result, cuthill_results, cuthill_run}
use Rattle.spec.specs.Graph.{Graph, size_of, graph_of, graph_refusal}
use Rattle.spec.specs.Lent.{accepted}
use Rattle.spec.specs.Levels.{part}
use Rattle.spec.specs.Numbering.{Figures}
use Rattle.spec.specs.Unknowns.{bad_counts}
use Rattle.laws.specs.Legal.{Node, LegalGraph}
use Rattle.laws.specs.Results.{AllSound}
use Rattle.laws.specs.Unknowns.{Counted}
use Rattle.laws.proofs.Claim.{sound_numbered, run_legal, reported_claim}
use Rattle.laws.proofs.Cuthill.{rooted_structure, turned_perm}
use Rattle.laws.proofs.CuthillBand.{band_least, band_most, turned_reach}
use Rattle.laws.proofs.Ends.{ends_of_lem}
use Rattle.laws.proofs.Lent.{outcome_accepted}
use Rattle.laws.proofs.Parts.{leaders_in}
use Rattle.laws.proofs.Refused.{not_refused}
use Rattle.laws.proofs.UnknownBounds.{counts_counted}

-- ---- one part

module _ {g : Graph} (G : LegalGraph g) {z : ℕ} (Z : Node g z) where
  pub part-least : (cs : List ℕ) → Counted g.size cs → 2 ≤ length (part g z) → wide_of g cs z ≤ band_of g cs z
  unfolding cuthill_result cuthill_result_by
  part-least cs C h = band_least G Z (ends_of_lem G Z) cs C h

  pub part_most : (cs : List ℕ) → band_of g cs z ≤ 2 * wide_of g cs z - 1
  unfolding cuthill_result cuthill_result_by
  part_most cs = band_most G Z (ends_of_lem G Z) cs

pub cuthill_sound : {g : Graph} → LegalGraph g → (cs : List ℕ) → AllSound g cs (cuthill_result g cs)
unfolding cuthill_result cuthill_result_by
cuthill_sound {g} G cs = record {
  sound = λ z Z. record {
    perm = turned_perm G Z (ends_of_lem G Z);
    reach = turned_reach G Z (ends_of_lem G Z) cs;
    v-part = (ends_of_lem G Z).v-part;
    u_part = (ends_of_lem G Z).u_part;
    structure = rooted_structure G Z (ends_of_lem G Z);
    width = refl;
    depth = refl;
    some_pass = (ends_of_lem G Z).some_pass;
    most_passes = (ends_of_lem G Z).most_passes;
  };
}

-- ---- the whole

-- what a library above rests on
pub cuthill_numbered : (S N K : List ℕ) → graph_refusal S N ≡ 0 → bad_counts (size_of S) K ≡ false
    → CuthillNumbered S N K (cuthill_run (graph_of S N) K).figures (cuthill_run (graph_of S N) K).numbers (cuthill_run (graph_of S N) K).levels
unfolding cuthill_run cuthill_results
cuthill_numbered S N K legal counted =
    let G = not_refused S N legal in
    record {
      numbered = sound_numbered S N K legal counted (cuthill_result (graph_of S N) K) (cuthill_sound G K);
      least = λ z m h. part-least G (leaders_in (graph_of S N) z m).0 K (counts_counted (size_of S) K counted) h;
      most = λ z m. part_most G (leaders_in (graph_of S N) z m).0 K;
    }

-- what the call accepts is legal, its counts too
pub cuthill_legal : (S N K X L P W : List ℕ) → cuthill_refusal S N K X L P W ≡ 0 → (graph_refusal S N ≡ 0) × (bad_counts (size_of S) K ≡ false)
unfolding cuthill_refusal
cuthill_legal S N K X L P W ok = run_legal S N K X L P W ok

-- "The store guarantee has to hold for this order as well": of the figures, numbers and levels that the call reports
pub cuthill_claim : (S N K X L P W : List ℕ) (F : Figures) → cuthill_answer S N K X L P W ≡ accepted F
    → CuthillClaim S N K F (take (size_of S) (cuthill_numbers S N K X L P W)) (take (size_of S) (cuthill_levels S N K X L P W))
unfolding cuthill_answer cuthill_numbers cuthill_levels
cuthill_claim S N K X L P W F e =
    let a = outcome_accepted (cuthill_refusal S N K X L P W) (cuthill_run (graph_of S N) K).figures F e in
    let ok = cuthill_legal S N K X L P W a.0 in
    rw (← a.1) (reported_claim (cuthill_numbered S N K ok.0 ok.1).numbered (cuthill_refusal S N K X L P W) a.0 X L)
