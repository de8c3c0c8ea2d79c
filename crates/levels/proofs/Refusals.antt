-- The tests of the calls as they run, and what each call answers and leaves where it is refused and where it is accepted. Assumes nothing.
use mathlib.Core.Path.{◌≡◌, refl, ap}
use mathlib.Core.Bool.{true, false, ◌||◌}
use mathlib.Core.List.{List, ◌++◌}
use Prim.Native.Nat.{ℕ, ◌*◌, ◌≤◌, ◌<◌}
use native.Mathlib.Omega.{arith}
use lib.ListN.{length, drop}
use lib.Dec.{eqb, ltb}
use borrow.Author.Tests.{lt-ltb, le-ltb, eqb-false, ltb-false}
use Rattle.basis.proofs.Logic.{or_none, or_left, or_neither}
use Rattle.spec.specs.CallsLevels.{level_figures, rooted_refusal, rooted_answer, rooted_levels, rooted_sizes, part_scratch, part_refusal}
use Rattle.spec.specs.CallsLevels.{combined_figures, combined_refusal, combined_answer, combined_levels, combined_scratch}
use Rattle.spec.specs.Combined.{combined}
use Rattle.spec.specs.Ends.{ends}
use Rattle.spec.specs.Graph.{graph_of, size_of, outside}
use Rattle.spec.specs.Lent.{accepted, refused, outcome, zeroed, words_per_node, short}
use Rattle.spec.specs.Levels.{levels, level_list, size_list}
use Rattle.laws.specs.Legal.{Node}
use Rattle.laws.proofs.Combined.{combined_of}
use Rattle.laws.proofs.Ends.{ends_of_lem}
use Rattle.laws.proofs.Figures.{length-level_list}
use Rattle.laws.proofs.Sizes.{sizes-length}
use Rattle.graph.specs.Facts.{LegalLists}
use Rattle.graph.proofs.Ways.{last, Tests, Refuses, by_none, answer_stays, buffer_stays, scratch_stays, answer_new, buffer_new, scratch_new}
use Rattle.levels.specs.Part.{part_levels_of}
use Rattle.levels.specs.declared.shape.PartLevels.{PartLevels}

-- ---- a node that was tested

pub node_inside : (n p : ℕ) → outside n p ≡ false → (1 ≤ p) × (p ≤ n)
node_inside n p h =
    let w = or_none (eqb p 0) (ltb n p) h in
    let z = eqb-false p 0 w.0 in
    (omega arith, ltb-false n p w.1)

-- ---- two buffers, of which the second was tested last

module _ (B : List ℕ) (n : ℕ) (Z : List ℕ) (m : ℕ) where
  pub first_short : length B < n → short B n || short Z m ≡ true
  first_short h = or_left (short Z m) (lt-ltb (length B) n h)

  pub both_long : n ≤ length B → short Z m ≡ false → short B n || short Z m ≡ false
  both_long h z = or_neither (le-ltb (length B) n h) z

-- ---- rooted levels

module _ (S N : List ℕ) (root : ℕ) (B Z : List ℕ) where
  abbrev RootedTests : Type 0
  RootedTests = Tests S N (short B (size_of S) || short Z (size_of S)) (last (outside (size_of S) root) 6) (rooted_refusal S N root B Z)

  rooted_tests : RootedTests
  unfolding rooted_refusal
  rooted_tests = record { is = refl }

  -- both lists stay as they are
  pub rooted_refused : {c : ℕ} → (RootedTests → Refuses (rooted_refusal S N root B Z) c)
      → (refused c ≡ rooted_answer S N root B Z) × ((B ≡ rooted_levels S N root B Z) × (Z ≡ rooted_sizes S N root B Z))
  unfolding rooted_answer rooted_levels rooted_sizes
  rooted_refused way = let R = way rooted_tests in (answer_stays R _, (buffer_stays R _, buffer_stays R _))

  -- the front of both is new, the excess stays
  pub rooted_accepted : LegalLists S N → short B (size_of S) || short Z (size_of S) ≡ false → outside (size_of S) root ≡ false
      → {L C : List ℕ} → L ≡ level_list (graph_of S N) (levels (graph_of S N) root) → C ≡ size_list (graph_of S N) (levels (graph_of S N) root)
      → (accepted (level_figures (levels (graph_of S N) root)) ≡ rooted_answer S N root B Z)
      × ((L ++ drop (size_of S) B ≡ rooted_levels S N root B Z) × (C ++ drop (size_of S) Z ≡ rooted_sizes S N root B Z))
  unfolding rooted_answer rooted_levels rooted_sizes
  rooted_accepted G long inside l c =
      let g = graph_of S N in
      let A = by_none rooted_tests G long inside in
      (answer_new A refl, (buffer_new A (size_of S) B l (length-level_list g (levels g root)), buffer_new A (size_of S) Z c (sizes-length g root)))

-- ---- a call on one part that answers a: the end search, the part report

module _ (S N : List ℕ) (node : ℕ) (W : List ℕ) where
  abbrev PartTests : Type 0
  PartTests = Tests S N (short W (words_per_node * size_of S)) (last (outside (size_of S) node) 6) (part_refusal S N node W)

  part_tests : PartTests
  unfolding part_refusal
  part_tests = record { is = refl }

  pub part_refused : {A : Type 0} (a : A) {c : ℕ} → (PartTests → Refuses (part_refusal S N node W) c)
      → (refused c ≡ outcome (part_refusal S N node W) a) × (W ≡ part_scratch (part_refusal S N node W) S W)
  part_refused a way = let R = way part_tests in (answer_stays R a, scratch_stays R S)

  pub part_accepted : LegalLists S N → words_per_node * size_of S ≤ length W → outside (size_of S) node ≡ false
      → {A : Type 0} {a b : A} → b ≡ a → {X : List ℕ} → X ≡ zeroed (words_per_node * size_of S) W
      → (accepted b ≡ outcome (part_refusal S N node W) a) × (X ≡ part_scratch (part_refusal S N node W) S W)
  part_accepted G room inside e x =
      let A = by_none part_tests G (le-ltb (length W) (words_per_node * size_of S) room) inside in
      (answer_new A e, scratch_new A S W x)

-- ---- combined levels

module _ (S N : List ℕ) (node : ℕ) (B W : List ℕ) where
  abbrev CombinedTests : Type 0
  CombinedTests = Tests S N (short B (size_of S) || short W (words_per_node * size_of S)) (last (outside (size_of S) node) 6) (combined_refusal S N node B W)

  combined_tests : CombinedTests
  unfolding combined_refusal
  combined_tests = record { is = refl }

  pub combined_refused : {c : ℕ} → (CombinedTests → Refuses (combined_refusal S N node B W) c)
      → (refused c ≡ combined_answer S N node B W) × ((B ≡ combined_levels S N node B W) × (W ≡ combined_scratch S N node B W))
  unfolding combined_answer combined_levels combined_scratch
  combined_refused way = let R = way combined_tests in (answer_stays R _, (buffer_stays R _, scratch_stays R S))

  pub combined_accepted : LegalLists S N → short B (size_of S) || short W (words_per_node * size_of S) ≡ false → outside (size_of S) node ≡ false
      → {f : PartLevels} → f ≡ part_levels_of (graph_of S N) (ends (graph_of S N) node)
      → {L : List ℕ} → L ≡ combined (graph_of S N) (ends (graph_of S N) node) → {X : List ℕ} → X ≡ zeroed (words_per_node * size_of S) W
      → (accepted (record { k = f.k; width = f.width }) ≡ combined_answer S N node B W)
      × ((L ++ drop (size_of S) B ≡ combined_levels S N node B W) × (X ≡ combined_scratch S N node B W))
  unfolding combined_answer combined_levels combined_scratch combined_figures
  combined_accepted G long inside e l x =
      let r = node_inside (size_of S) node inside in
      let M : Node (graph_of S N) node = record { low = r.0; high = r.1 } in
      let A = by_none combined_tests G long inside in (
        answer_new A (ap (λ (f : PartLevels). record { k = f.k; width = f.width }) e),
        (buffer_new A (size_of S) B l (combined_of G.graph M (ends_of_lem G.graph M)).size, scratch_new A S W x),
      )
