-- DEMAND 3 of `wagonepoch_run` or `wagonepoch_reverse_cuthill_mckee` and then `wagonepoch_eliminate` on its n numbers: "nobody writes them or the
-- two lists between the calls", and both are handed the same counts. The premises are just what the two contracts ensure, and that the first
-- answered 0. Assumes nothing.
use mathlib.Core.Path.{◌≡◌, refl, sym, ◌∙◌}
use mathlib.Core.Bool.{Bool, true, false, cond, ◌||◌}
use mathlib.Core.List.{List}
use mathlib.Core.Logic.{◌↔◌}
use Prim.Native.Nat.{ℕ, zero, suc, ◌+◌, ◌*◌, ◌/◌, ◌<◌}
use native.Mathlib.Omega.{arith}
use lib.ListN.{take}
use Rattle.basis.specs.Lists.{overwrite}
use Rattle.spec.specs.CallsCuthill.{cuthill_answer, cuthill_numbers, cuthill_levels}
use Rattle.spec.specs.CallsNumbering.{run_answer, run_numbers, run_levels}
use Rattle.spec.specs.CallsStore.{EliminationFigures, elimination_figures, elimination_answer, elimination_bytes}
use Rattle.spec_claims.specs.Claim.{JoinedPlace, ClaimAs}
use Rattle.spec.specs.Cuthill.{cuthill_run}
use Rattle.spec.specs.Graph.{Graph, graph_of, graph_refusal, size_of}
use Rattle.spec.specs.Lent.{accepted, outcome, short}
use Rattle.spec.specs.Numbering.{Figures, PartResult, Run, run}
use Rattle.spec.specs.Refusal.{refuse, ◌or_else◌}
use Rattle.spec.specs.Store.{mark_at}
use Rattle.spec.specs.Unknowns.{renumbered_unknowns}
use Rattle.laws.proofs.Claim.{claim}
use Rattle.laws.proofs.CuthillRun.{cuthill_claim}
use Rattle.capi_figures.specs.Figures.{number, written, answer_c, lent_c, figures_c, run_list, elimination_list}
use Rattle.capi_figures.specs.Claimed.{figures_in, ClaimedCAs, ClaimedC, CuthillClaimedC}

-- ---- an answer of 0

-- k figures with the list F lent, a first refusal and an outcome: where 0 is answered the list is long enough and nothing was refused
zero_answer : {A : Type 0} (k : ℕ) (F : List ℕ) (first c : ℕ) (a : A) → answer_c k F first (outcome c a) ≡ 0 → (short F k ≡ false) × (c ≡ 0)
unfolding answer_c number outcome
zero_answer k F first c a e = go (short F k) refl first c e
  where
    go : (b : Bool) → short F k ≡ b → (f d : ℕ) → cond b (f or_else 5) (number (outcome d a)) ≡ 0 → (b ≡ false) × (d ≡ 0)
    go true s zero d h = absurd (omega (arith, h))
    go true s (suc f) d h = absurd (omega (arith, h))
    go false s f zero h = (refl, refl)
    go false s f (suc d) h = absurd (omega (arith, h))

-- the figures read from the list are those written to it
read_back : (F : Figures) (P : List ℕ) → figures_in (overwrite (run_list F) P) ≡ F
read_back F P = refl

-- ---- the elimination, whose two lists are legal: it is refused as its outcome is, or by 5 where its list of figures is short

module _ (Q : List ℕ) (c : ℕ) (a : EliminationFigures) where
  late_answer : (b d : Bool) (e : ℕ) → c ≡ (refuse d 5 or_else e) → short Q 2 ≡ b → cond b (0 or_else 5) (number (outcome c a)) ≡ (refuse (b || d) 5 or_else e)
  unfolding number outcome
  late_answer true d e h s = refl
  late_answer false true e h s = rw h
  late_answer false false e h s = rw h (same e)
    where
      same : (x : ℕ) → number (outcome x a) ≡ x
      same zero = refl
      same (suc x) = refl

-- ---- the two calls

-- The numbering call: the two lists S and N and the counts K of unknowns are handed to it; numbers X₀, levels L₀ and figures P₀ are lent. It
-- answered 0 and left P, X and L. `c` is its refusal, and X₁ and L₁ are the numbers and levels of its definition, of which the claim holds.
module _ (whole : Run) {result : ℕ → PartResult} (S N K X₀ L₀ P₀ P X L : List ℕ) (c : ℕ) (X₁ L₁ : List ℕ) {r : ℕ} (claims : (F : Figures) → outcome c whole.figures ≡ accepted F → ClaimAs whole result S N K F (take (size_of S) X₁) (take (size_of S) L₁)) (numbering-answers : r ≡ answer_c 7 P₀ (graph_refusal S N) (outcome c whole.figures)) (numbering-figures : P ≡ figures_c 7 P₀ run_list (outcome c whole.figures)) (numbering-numbers : X ≡ lent_c 7 P₀ X₀ X₁) (numbering-levels : L ≡ lent_c 7 P₀ L₀ L₁) (accepts : r ≡ 0) where
  passed : (short P₀ 7 ≡ false) × (c ≡ 0)
  passed = zero_answer 7 P₀ (graph_refusal S N) c whole.figures (sym numbering-answers ∙ accepts)

  answer_is : outcome c whole.figures ≡ accepted whole.figures
  unfolding outcome
  answer_is = rw passed.1

  figures_are : figures_in P ≡ whole.figures
  unfolding figures_c written
  figures_are = rw (numbering-figures, passed.0, answer_is) (read_back whole.figures P₀)

  pub numbering_claim : ClaimAs whole result S N K (figures_in P) (take (size_of S) X) (take (size_of S) L)
  unfolding lent_c
  numbering_claim = rw (figures_are, numbering-numbers, numbering-levels, passed.0) (claims whole.figures answer_is)

  abbrev Y : List ℕ
  Y = take (size_of S) X

  abbrev h : Graph
  h = renumbered_unknowns (graph_of S N) K Y

  -- the elimination by the same counts and its n numbers, lent C, B and Q₀: it answered s and left Q and B'
  module _ (C B B' Q₀ Q : List ℕ) {s : ℕ} (answers : s ≡ answer_c 2 Q₀ (graph_refusal S N) (elimination_answer S N K Y C B)) (figures : Q ≡ figures_c 2 Q₀ elimination_list (elimination_answer S N K Y C B)) (bytes : B' ≡ lent_c 2 Q₀ B (elimination_bytes S N K Y C B)) where
    abbrev refusal : ℕ
    refusal = refuse (short C (size_of S)) 5 or_else refuse (short B (((figures_in P).profile + 7) / 8)) 8

    outcome_is : elimination_answer S N K Y C B ≡ outcome refusal (elimination_figures h)
    outcome_is = numbering_claim.store.refuses C B

    refuses : s ≡ (refuse (short Q₀ 2 || short C (size_of S)) 5 or_else refuse (short B (((figures_in P).profile + 7) / 8)) 8)
    unfolding answer_c
    refuses = answers ∙ rw (numbering_claim.numbered.legal, outcome_is) (late_answer Q₀ refusal (elimination_figures h) (short Q₀ 2) (short C (size_of S)) _ refl refl)

    module _ (zero_is : s ≡ 0) where
      taken : (short Q₀ 2 ≡ false) × (refusal ≡ 0)
      taken = zero_answer 2 Q₀ (graph_refusal S N) refusal (elimination_figures h) (rw (← outcome_is) (sym answers ∙ zero_is))

      accepted_is : elimination_answer S N K Y C B ≡ accepted (elimination_figures h)
      unfolding outcome
      accepted_is = rw (outcome_is, taken.1)

      marks : (t : ℕ) → t < 8 * (((figures_in P).profile + 7) / 8) → (mark_at B' t ≡ 1) ↔ JoinedPlace h t
      unfolding lent_c
      marks t l = rw (bytes, taken.0) (numbering_claim.store.marks C B (elimination_figures h) accepted_is t l)

      counts : Q ≡ overwrite (elimination_list (elimination_figures h)) Q₀
      unfolding figures_c written
      counts = rw (figures, taken.0, accepted_is)

    two_calls : ClaimedCAs whole result S N K P X L C B Q₀ s Q B'
    two_calls = record { claim = numbering_claim; refuses = refuses; marks = marks; counts = counts }

-- ---- of each order: numbers X₀, levels L₀, passes T₀, scratch W and figures P₀ are lent

module _ (S N K X₀ L₀ T₀ W P₀ P X L C B B' Q₀ Q : List ℕ) {r s : ℕ} (accepts : r ≡ 0) (answers : s ≡ answer_c 2 Q₀ (graph_refusal S N) (elimination_answer S N K (take (size_of S) X) C B)) (figures : Q ≡ figures_c 2 Q₀ elimination_list (elimination_answer S N K (take (size_of S) X) C B)) (bytes : B' ≡ lent_c 2 Q₀ B (elimination_bytes S N K (take (size_of S) X) C B)) where
  pub run-two_calls : r ≡ answer_c 7 P₀ (graph_refusal S N) (run_answer S N K X₀ L₀ T₀ W) → P ≡ figures_c 7 P₀ run_list (run_answer S N K X₀ L₀ T₀ W)
      → X ≡ lent_c 7 P₀ X₀ (run_numbers S N K X₀ L₀ T₀ W) → L ≡ lent_c 7 P₀ L₀ (run_levels S N K X₀ L₀ T₀ W) → ClaimedC S N K P X L C B Q₀ s Q B'
  unfolding run_answer
  run-two_calls a p x l = two_calls (run (graph_of S N) K) S N K X₀ L₀ P₀ P X L _ _ _ (claim S N K X₀ L₀ T₀ W) a p x l accepts C B B' Q₀ Q answers figures bytes

  pub cuthill_two_calls : r ≡ answer_c 7 P₀ (graph_refusal S N) (cuthill_answer S N K X₀ L₀ T₀ W) → P ≡ figures_c 7 P₀ run_list (cuthill_answer S N K X₀ L₀ T₀ W)
      → X ≡ lent_c 7 P₀ X₀ (cuthill_numbers S N K X₀ L₀ T₀ W) → L ≡ lent_c 7 P₀ L₀ (cuthill_levels S N K X₀ L₀ T₀ W) → CuthillClaimedC S N K P X L C B Q₀ s Q B'
  unfolding cuthill_answer
  cuthill_two_calls a p x l = two_calls (cuthill_run (graph_of S N) K) S N K X₀ L₀ P₀ P X L _ _ _ (cuthill_claim S N K X₀ L₀ T₀ W) a p x l accepts C B B' Q₀ Q answers figures bytes
