-- A caller who hands one unknown each gets of every call what it gave before the unknowns (document 02, A.6): the same refusal or answer, and the
-- same in every buffer. Assumes nothing.
use mathlib.Core.Path.{◌≡◌, refl, ap}
use mathlib.Core.Bool.{false, not, ◌||◌}
use mathlib.Core.List.{List}
use Prim.Native.Nat.{ℕ, zero, suc, ◌*◌, ◌≤◌}
use native.Mathlib.Omega.{arith}
use borrow.Author.Tests.{eqb-false, ltb-false, not-false}
use lib.Dec.{eqb, ltb}
use Rattle.basis.proofs.Logic.{or_none}
use Rattle.spec.specs.CallsCuthill.{cuthill_refusal, cuthill_answer, cuthill_numbers, cuthill_levels, cuthill_passes, cuthill_scratch}
use Rattle.spec.specs.CallsLevels.{part_refusal, part_scratch}
use Rattle.spec.specs.CallsNumbering.{measure_figures, measures_refusal, measures_answer, measures_scratch, report_refusal, report_answer, report_scratch, run_refusal, run_answer, run_numbers, run_levels, run_passes, run_scratch}
use Rattle.spec.specs.CallsStore.{elimination_figures, elimination_refusal, elimination_answer, elimination_scratch, elimination_bytes}
use Rattle.spec.specs.Graph.{Graph, size_of, graph_of, graph_refusal, outside}
use Rattle.spec.specs.Lent.{outcome, filled, short, words_per_node}
use Rattle.spec.specs.Measures.{is_numbering, renumbered}
use Rattle.spec.specs.Numbering.{PartResult, Run, part_result}
use Rattle.spec.specs.Refusal.{refuse, ◌or_else◌}
use Rattle.spec.specs.Store.{mark_bytes, mark_byte_count}
use Rattle.spec.specs.Unknowns.{ones, renumbered_unknowns}
use Rattle.laws.specs.CallsInNodes.{measures_refusal_before, measures_answer_before, measures_scratch_before, elimination_refusal_before, elimination_answer_before, elimination_scratch_before, elimination_bytes_before, report_answer_before, report_scratch_before, run_refusal_before, RanBefore}
use Rattle.laws.specs.InNodes.{part_in_nodes, run_in_nodes, cuthill_run_in_nodes}
use Rattle.laws.specs.Legal.{Node, LegalGraph}
use Rattle.laws.proofs.InNodes.{or_else_same, ones_good, ones-part, ones-run, ones_cuthill}
use Rattle.laws.proofs.Refused.{or_else_zero, refuse_zero, not_refused}
use Rattle.laws.proofs.UnknownOnes.{ones-renumbered}

-- what an accepted call answers, and what it leaves in a buffer
outcome_same : {A : Type 0} (c : ℕ) (a b : A) → (c ≡ 0 → a ≡ b) → outcome c a ≡ outcome c b
unfolding outcome
outcome_same zero a b h = ap (outcome 0) (h refl)
outcome_same (suc c) a b h = refl

filled_same : (c : ℕ) (a b old : List ℕ) → (c ≡ 0 → a ≡ b) → filled c a old ≡ filled c b old
unfolding filled
filled_same zero a b old h = ap (λ (l : List ℕ). filled 0 l old) (h refl)
filled_same (suc c) a b old h = refl

-- ---- measures and elimination

module _ (S N X C : List ℕ) where
  abbrev each : List ℕ
  each = ones (size_of S)

  measures_refusal_lem : measures_refusal S N each X C ≡ measures_refusal_before S N X C
  unfolding measures_refusal measures_refusal_before
  measures_refusal_lem = rw (ones_good (size_of S))

  -- where nothing is refused, the unknowns by the numbering are the nodes
  same_nodes : measures_refusal_before S N X C ≡ 0 → renumbered_unknowns (graph_of S N) each X ≡ renumbered (graph_of S N) X
  unfolding measures_refusal_before
  same_nodes e =
      let a = or_else_zero (graph_refusal S N) _ e in
      let b = or_else_zero (refuse (short C (size_of S)) 5) (refuse (not (is_numbering (size_of S) X)) 7) a.1 in
      ones-renumbered (not_refused S N a.0) X (not-false (is_numbering (size_of S) X) (refuse_zero (not (is_numbering (size_of S) X)) 7 (omega arith) b.1))

  pub ones_measures : measures_answer S N (ones (size_of S)) X C ≡ measures_answer_before S N X C
  unfolding measures_answer measures_answer_before
  ones_measures = rw measures_refusal_lem (outcome_same (measures_refusal_before S N X C) _ _ (λ e. ap measure_figures (same_nodes e)))

  pub ones-measures_scratch : measures_scratch S N (ones (size_of S)) X C ≡ measures_scratch_before S N X C
  unfolding measures_scratch measures_scratch_before
  ones-measures_scratch = rw measures_refusal_lem

  module _ (B : List ℕ) where
    elimination_refusal_lem : elimination_refusal S N each X C B ≡ elimination_refusal_before S N X C B
    unfolding elimination_refusal elimination_refusal_before
    elimination_refusal_lem =
        rw measures_refusal_lem
        (or_else_same (measures_refusal_before S N X C) _ _ (λ e. ap (λ (h : Graph). refuse (short B (mark_byte_count h)) 8) (same_nodes e)))

    none_refused : elimination_refusal_before S N X C B ≡ 0 → measures_refusal_before S N X C ≡ 0
    unfolding elimination_refusal_before
    none_refused e = (or_else_zero (measures_refusal_before S N X C) _ e).0

    pub ones_elimination : elimination_answer S N (ones (size_of S)) X C B ≡ elimination_answer_before S N X C B
    unfolding elimination_answer elimination_answer_before
    ones_elimination = rw elimination_refusal_lem (outcome_same (elimination_refusal_before S N X C B) _ _ (λ e. ap elimination_figures (same_nodes (none_refused e))))

    pub ones-elimination_scratch : elimination_scratch S N (ones (size_of S)) X C B ≡ elimination_scratch_before S N X C B
    unfolding elimination_scratch elimination_scratch_before
    ones-elimination_scratch = rw elimination_refusal_lem

    pub ones-elimination_bytes : elimination_bytes S N (ones (size_of S)) X C B ≡ elimination_bytes_before S N X C B
    unfolding elimination_bytes elimination_bytes_before
    ones-elimination_bytes = rw elimination_refusal_lem (filled_same (elimination_refusal_before S N X C B) _ _ B (λ e. ap mark_bytes (same_nodes (none_refused e))))

-- ---- part report

-- what 6 does not refuse is a node
node_given : (g : Graph) (z : ℕ) → outside g.size z ≡ false → Node g z
node_given g z e =
    let w = or_none (eqb z 0) (ltb g.size z) e in
    let low : z ≡ 0 → ⊥ = eqb-false z 0 w.0 in
    let high : z ≤ g.size = ltb-false g.size z w.1 in
    record { low = omega arith; high = high }

module _ (S N : List ℕ) (z : ℕ) (C : List ℕ) where
  report_refusal_lem : report_refusal S N (ones (size_of S)) z C ≡ part_refusal S N z C
  unfolding report_refusal part_refusal
  report_refusal_lem = rw (ones_good (size_of S))

  same_part : part_refusal S N z C ≡ 0 → part_result (graph_of S N) (ones (size_of S)) z ≡ part_in_nodes (graph_of S N) z
  unfolding part_refusal
  same_part e =
      let a = or_else_zero (graph_refusal S N) _ e in
      let b = or_else_zero (refuse (short C (words_per_node * size_of S)) 5) (refuse (outside (size_of S) z) 6) a.1 in
      ones-part (not_refused S N a.0) z (node_given (graph_of S N) z (refuse_zero (outside (size_of S) z) 6 (omega arith) b.1))

  pub ones_report : report_answer S N (ones (size_of S)) z C ≡ report_answer_before S N z C
  unfolding report_answer report_answer_before
  ones_report = rw report_refusal_lem (outcome_same (part_refusal S N z C) _ _ (λ e. ap (λ (r : PartResult). r.report) (same_part e)))

  pub ones-report_scratch : report_scratch S N (ones (size_of S)) z C ≡ report_scratch_before S N z C
  unfolding report_scratch report_scratch_before
  ones-report_scratch = rw report_refusal_lem

-- ---- the run and A.3's call

module _ (S N X L P W : List ℕ) where
  abbrev refusal : ℕ
  refusal = run_refusal_before S N X L P W

  run-refusal : run_refusal S N (ones (size_of S)) X L P W ≡ refusal
  unfolding run_refusal run_refusal_before
  run-refusal = rw (ones_good (size_of S)) (ap (λ (c : ℕ). graph_refusal S N or_else c) (or_else_none (refuse (short X (size_of S) || short L (size_of S) || short P (size_of S) || short W (words_per_node * size_of S)) 5)))
    where
      or_else_none : (c : ℕ) → c or_else 0 ≡ c
      or_else_none zero = refl
      or_else_none (suc c) = refl

  legal : refusal ≡ 0 → LegalGraph (graph_of S N)
  unfolding run_refusal_before
  legal e = not_refused S N (or_else_zero (graph_refusal S N) _ e).0

  -- two wholes that are the same of a legal graph
  ran_same : {a b : Run} → (LegalGraph (graph_of S N) → a ≡ b)
      → RanBefore b S N X L P W (outcome refusal a.figures) (filled refusal a.numbers X) (filled refusal a.levels L) (filled refusal a.passes P) (part_scratch refusal S W)
  ran_same h = record {
    answer = outcome_same refusal _ _ (λ e. ap (λ (r : Run). r.figures) (h (legal e)));
    numbers = filled_same refusal _ _ X (λ e. ap (λ (r : Run). r.numbers) (h (legal e)));
    levels = filled_same refusal _ _ L (λ e. ap (λ (r : Run). r.levels) (h (legal e)));
    passes = filled_same refusal _ _ P (λ e. ap (λ (r : Run). r.passes) (h (legal e)));
    scratch = refl;
  }

  pub ones-run_call : RanBefore (run_in_nodes (graph_of S N)) S N X L P W (run_answer S N (ones (size_of S)) X L P W) (run_numbers S N (ones (size_of S)) X L P W)
      (run_levels S N (ones (size_of S)) X L P W) (run_passes S N (ones (size_of S)) X L P W) (run_scratch S N (ones (size_of S)) X L P W)
  unfolding run_answer run_numbers run_levels run_passes run_scratch
  ones-run_call = rw run-refusal (ran_same ones-run)

  pub ones_cuthill_call : RanBefore (cuthill_run_in_nodes (graph_of S N)) S N X L P W (cuthill_answer S N (ones (size_of S)) X L P W) (cuthill_numbers S N (ones (size_of S)) X L P W)
      (cuthill_levels S N (ones (size_of S)) X L P W) (cuthill_passes S N (ones (size_of S)) X L P W) (cuthill_scratch S N (ones (size_of S)) X L P W)
  unfolding cuthill_answer cuthill_numbers cuthill_levels cuthill_passes cuthill_scratch cuthill_refusal run_scratch
  ones_cuthill_call = rw run-refusal (ran_same ones_cuthill)
