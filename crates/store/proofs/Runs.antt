-- A numbering call of ours with the elimination after it: what the answers of the two make of the answer and of the buffers, for every order.
-- Assumes nothing.
use mathlib.Core.Path.{◌≡◌, refl, sym, ap, ◌∙◌}
use mathlib.Core.Bool.{Bool, true, false}
use mathlib.Core.List.{List, ◌∷◌, ◌++◌}
use Prim.Native.Nat.{ℕ, zero, suc, ◌*◌, ◌≤◌}
use native.Mathlib.Omega.{arith}
use lib.ListN.{length, take, drop, replicate, length-replicate, length-append, length-drop, take-append-drop}
use lib.Seq.{take-append-le}
use borrow.Author.Tests.{ltb-false}
use Rattle.basis.proofs.Logic.{or_none}
use Rattle.spec.specs.CallsCuthill.{cuthill_refusal, cuthill_answer, cuthill_numbers, cuthill_scratch}
use Rattle.spec.specs.CallsNumbering.{run_refusal, run_answer, run_numbers, run_scratch}
use Rattle.spec.specs.CallsStore.{RunElimination, elimination_answer, elimination_scratch, elimination_bytes, handed_on, then_eliminate_answer, then_eliminate_bytes}
use Rattle.spec_claims.specs.Claim.{NumberedAs, ClaimedAs}
use Rattle.spec_claims.specs.ClaimCuthill.{CuthillNumbered}
use Rattle.spec.specs.Cuthill.{cuthill_result, cuthill_run}
use Rattle.spec.specs.Graph.{size_of, graph_of, graph_refusal}
use Rattle.spec.specs.Lent.{Outcome, accepted, refused, outcome, filled, scratch_after, words_per_node, short}
use Rattle.spec.specs.Numbering.{Figures, PartResult, Run, run}
use Rattle.spec.specs.Refusal.{refuse}
use Rattle.spec.specs.Unknowns.{bad_counts}
use Rattle.laws.proofs.Claim.{run_legal}
use Rattle.laws.proofs.Lent.{outcome_accepted, scratch_accepted, zeroed_is, zeroed-all}
use Rattle.laws.proofs.Refused.{or_else_zero, refuse_zero, passed, starts_of_lem}
use Rattle.store.specs.Answer.{Room, then_scratch}
use Rattle.store.proofs.TwoCalls.{two_calls}

-- what is refused is not accepted
refused_not : {A : Type 0} (c : ℕ) (a : A) → refused c ≡ accepted a → ⊥
refused_not c a e = let z : ◌≡◌ {A = ℕ} 0 1 = cc in absurd (omega arith)

-- what is accepted is known
accepted_is : {A : Type 0} (a b : A) → accepted b ≡ accepted a → a ≡ b
accepted_is a b e = cc

-- ---- lists

-- n words that are 0 stay so, whatever the elimination does in them
zeros_stay : (b : Bool) (n : ℕ) (C : List ℕ) → C ≡ replicate n 0 → scratch_after b n C ≡ C
unfolding scratch_after
zeros_stay true n C z = zeroed-all n C (ap length z ∙ length-replicate {A = ℕ} n 0) ∙ sym z
zeros_stay false n C z = refl

take-zeros : (m n : ℕ) → m ≤ n → take {A = ℕ} m (replicate n 0) ≡ replicate m 0
take-zeros zero n h = refl
take-zeros (suc m) zero h = absurd (omega arith)
take-zeros (suc m) (suc n) h = ap (λ (l : List ℕ). 0 ∷ l) (take-zeros m n (omega arith))

-- a buffer that a call fills is no shorter than it was
no_shorter : (c : ℕ) (new old : List ℕ) → length old ≤ length (filled c new old)
unfolding filled
no_shorter zero new old = omega (arith, length-append new (drop (length new) old), length-drop (length new) old)
no_shorter (suc c) new old = omega arith

-- ---- by what the numbering call answered, A: numbers X, scratch C and mark bytes B

module _ (S N K X C B : List ℕ) {A : Outcome Figures} where
  pub then_refused : {c : ℕ} → A ≡ refused c
      → (refused c ≡ then_eliminate_answer S N K X C B A) × ((C ≡ then_scratch S N K X C B A) × (B ≡ then_eliminate_bytes S N K X C B A))
  unfolding then_eliminate_answer then_eliminate_bytes
  then_refused e = (rw e, (rw e, rw e))

  pub then_accepted : {F : Figures} {E : Outcome RunElimination} {C' B' : List ℕ} → A ≡ accepted F
      → E ≡ accepted (record { figures = F; elimination = elimination_answer S N K (handed_on S X) (handed_on S C) B })
      → C' ≡ elimination_scratch S N K (handed_on S X) (handed_on S C) B → B' ≡ elimination_bytes S N K (handed_on S X) (handed_on S C) B
      → (E ≡ then_eliminate_answer S N K X C B A) × ((C' ++ drop (size_of S) C ≡ then_scratch S N K X C B A) × (B' ≡ then_eliminate_bytes S N K X C B A))
  unfolding then_eliminate_answer then_eliminate_bytes
  then_accepted e a c b = (a ∙ rw e, (rw (e, c), b ∙ rw e))

-- ---- the numbering call: lists S and N, counts K; numbers X, levels L, passes P and scratch W are lent. It answered A and left X' and W'.

-- what its contract ensures of them: `whole` is what the documents find of the graph
pub record Ran (whole : Run) (S N K X L P W : List ℕ) (A : Outcome Figures) (X' W' : List ℕ) : Type 0 where
  pub answer : A ≡ outcome (run_refusal S N K X L P W) whole.figures
  pub numbers : X' ≡ filled (run_refusal S N K X L P W) whole.numbers X
  pub scratch : W' ≡ run_scratch S N K X L P W

module _ {whole : Run} {S N K X L P W : List ℕ} {A : Outcome Figures} {X' W' : List ℕ} (R : Ran whole S N K X L P W A X' W') where
  -- ---- it is accepted with the figures F

  module _ {F : Figures} (e : A ≡ accepted F) where
    none : run_refusal S N K X L P W ≡ 0
    none = (outcome_accepted (run_refusal S N K X L P W) whole.figures F (sym R.answer ∙ e)).0

    -- the numbers lent have n words
    room_lent : size_of S ≤ length X
    unfolding run_refusal
    room_lent =
        let s = refuse_zero _ 5 (omega arith) (or_else_zero _ (refuse (bad_counts (size_of S) K) 15) (or_else_zero (graph_refusal S N) _ none).1).0 in
        ltb-false (length X) (size_of S) (or_none (short X (size_of S)) (short L (size_of S)) (or_none _ (short P (size_of S)) (or_none _ (short W (words_per_node * size_of S)) s).0).0).0

    cleared : W' ≡ replicate (words_per_node * size_of S) 0 ++ drop (words_per_node * size_of S) W
    unfolding run_scratch
    cleared = R.scratch ∙ sym (scratch_accepted (run_refusal S N K X L P W) S W none) ∙ zeroed_is (words_per_node * size_of S) W

    -- there is a node, and n words to hand on
    pub room : Room S X' W'
    room = record {
      nodes = omega (arith, (starts_of_lem (passed S N (run_legal S N K X L P W none).0)).some);
      numbers = rw R.numbers (omega (arith, room_lent, no_shorter (run_refusal S N K X L P W) whole.numbers X));
      scratch = rw cleared (omega (arith, length-append (replicate {A = ℕ} (words_per_node * size_of S) 0) (drop (words_per_node * size_of S) W), length-replicate {A = ℕ} (words_per_node * size_of S) 0));
    }

    handed_zeros : handed_on S W' ≡ replicate (size_of S) 0
    handed_zeros =
        ap (take (size_of S)) cleared
        ∙ take-append-le (size_of S) (replicate (words_per_node * size_of S) 0) _ (omega (arith, length-replicate {A = ℕ} (words_per_node * size_of S) 0))
        ∙ take-zeros (size_of S) (words_per_node * size_of S) (omega arith)

    -- the elimination leaves the scratch as it is
    kept : (B : List ℕ) → elimination_scratch S N K (handed_on S X') (handed_on S W') B ++ drop (size_of S) W' ≡ W'
    unfolding elimination_scratch
    kept B = ap (λ (l : List ℕ). l ++ drop (size_of S) W') (zeros_stay _ (size_of S) (handed_on S W') handed_zeros) ∙ take-append-drop (size_of S) W'

  -- ---- the elimination after it, with mark bytes B lent: E is answered, C' and B' are left

  module _ (B : List ℕ) {E : Outcome RunElimination} {C' B' : List ℕ} (answer : E ≡ then_eliminate_answer S N K X' W' B A) (scratch : C' ≡ then_scratch S N K X' W' B A) (bytes : B' ≡ then_eliminate_bytes S N K X' W' B A) where
    -- the scratch ends as the numbering call leaves it
    stays : (a : Outcome Figures) → A ≡ a → then_scratch S N K X' W' B a ≡ W'
    stays (refused c) e = refl
    stays (accepted F) e = kept e B

    -- demand 3, out of what the numbering call ensures of its numbers and levels
    module _ {result : ℕ → PartResult} {L' : List ℕ} (numbered : (F : Figures) → A ≡ accepted F → NumberedAs whole result S N K F (take (size_of S) X') (take (size_of S) L')) where
      claims : (a : Outcome Figures) → A ≡ a → (x : RunElimination) → then_eliminate_answer S N K X' W' B a ≡ accepted x
          → ClaimedAs whole result S N K x.figures X' L' (handed_on S W') B x.elimination (then_eliminate_bytes S N K X' W' B a)
      unfolding then_eliminate_answer then_eliminate_bytes
      claims (refused c) e x d = absurd (refused_not c x d)
      claims (accepted F) e x d = rw (accepted_is x _ d) (two_calls numbered refl refl F e)

      claimed : (x : RunElimination) → E ≡ accepted x → ClaimedAs whole result S N K x.figures X' L' (handed_on S (run_scratch S N K X L P W)) B x.elimination B'
      claimed x d = rw (bytes, ← R.scratch) (claims A refl x (sym answer ∙ d))

      -- all that is ensured of the two together, in the contract's order: levels and passes are as the numbering call left them
      pub ended : {L₀ P₀ P' : List ℕ} → L' ≡ L₀ → P' ≡ P₀
          → (E ≡ then_eliminate_answer S N K (filled (run_refusal S N K X L P W) whole.numbers X) (run_scratch S N K X L P W) B (outcome (run_refusal S N K X L P W) whole.figures))
          × ((X' ≡ filled (run_refusal S N K X L P W) whole.numbers X)
          × ((L' ≡ L₀)
          × ((P' ≡ P₀)
          × ((C' ≡ run_scratch S N K X L P W)
          × ((B' ≡ then_eliminate_bytes S N K (filled (run_refusal S N K X L P W) whole.numbers X) (run_scratch S N K X L P W) B (outcome (run_refusal S N K X L P W) whole.figures))
          × ((x : RunElimination) → E ≡ accepted x → ClaimedAs whole result S N K x.figures X' L' (handed_on S (run_scratch S N K X L P W)) B x.elimination B'))))))
      ended l p =
          (answer ∙ rw (R.numbers, R.scratch, R.answer), (R.numbers, (l, (p, (scratch ∙ stays A refl ∙ R.scratch, (bytes ∙ rw (R.numbers, R.scratch, R.answer), claimed))))))

-- ---- each order's contract is of that form

module _ (S N K X L P W : List ℕ) {A : Outcome Figures} {X' W' : List ℕ} where
  pub run_ran : A ≡ run_answer S N K X L P W → X' ≡ run_numbers S N K X L P W → W' ≡ run_scratch S N K X L P W → Ran (run (graph_of S N) K) S N K X L P W A X' W'
  unfolding run_answer run_numbers
  run_ran a x w = record { answer = a; numbers = x; scratch = w }

  pub cuthill_ran : A ≡ cuthill_answer S N K X L P W → X' ≡ cuthill_numbers S N K X L P W → W' ≡ cuthill_scratch S N K X L P W → Ran (cuthill_run (graph_of S N) K) S N K X L P W A X' W'
  unfolding cuthill_refusal cuthill_answer cuthill_numbers cuthill_scratch
  cuthill_ran a x w = record { answer = a; numbers = x; scratch = w }

-- what a library above rests on has the run's sentences
pub cuthill_is : {S N K Y Z : List ℕ} {A : Outcome Figures} → ((F : Figures) → A ≡ accepted F → CuthillNumbered S N K F Y Z)
    → (F : Figures) → A ≡ accepted F → NumberedAs (cuthill_run (graph_of S N) K) (cuthill_result (graph_of S N) K) S N K F Y Z
cuthill_is n F e = (n F e).numbered
