-- The tests of the part report as they run, and what it answers and leaves where it is refused and where it is accepted. Assumes nothing.
use mathlib.Core.Path.{◌≡◌, refl}
use mathlib.Core.Bool.{true, false}
use mathlib.Core.List.{List}
use Prim.Native.Nat.{ℕ, ◌*◌, ◌≤◌, ◌<◌}
use native.Mathlib.Omega.{arith}
use lib.ListN.{length}
use borrow.Author.Tests.{lt-ltb, le-ltb}
use Rattle.spec.specs.CallsNumbering.{report_refusal, report_answer, report_scratch}
use Rattle.spec.specs.Graph.{graph_of, size_of, outside}
use Rattle.spec.specs.Lent.{accepted, refused, zeroed, words_per_node, short}
use Rattle.spec.specs.Numbering.{PartReport, part_result}
use Rattle.spec.specs.Unknowns.{bad_counts}
use Rattle.graph.specs.Facts.{LegalLists, RefusedLists}
use Rattle.graph.proofs.Ways.{last, next, Tests, Refuses, by_lists, by_short, by_last, by_none, by_next, past_next, answer_stays, scratch_stays, answer_new, scratch_new}

module _ (S N K : List ℕ) (node : ℕ) (W : List ℕ) where
  tests : Tests S N (short W (words_per_node * size_of S)) (next (bad_counts (size_of S) K) 15 (last (outside (size_of S) node) 6)) (report_refusal S N K node W)
  unfolding report_refusal
  tests = record { is = refl }

  -- refused: the scratch stays as it is
  refusal : {c : ℕ} → Refuses (report_refusal S N K node W) c → (refused c ≡ report_answer S N K node W) × (W ≡ report_scratch S N K node W)
  unfolding report_answer report_scratch
  refusal R = (answer_stays R _, scratch_stays R S)

  -- 1 to 4
  pub lists_refused : {c : ℕ} → RefusedLists S N c → (refused c ≡ report_answer S N K node W) × (W ≡ report_scratch S N K node W)
  lists_refused R = refusal (by_lists tests R)

  module _ (G : LegalLists S N) where
    -- 5
    pub short_refused : length W < words_per_node * size_of S → (refused 5 ≡ report_answer S N K node W) × (W ≡ report_scratch S N K node W)
    short_refused h = refusal (by_short tests G (lt-ltb (length W) (words_per_node * size_of S) h))

    module _ (room : words_per_node * size_of S ≤ length W) where
      long : short W (words_per_node * size_of S) ≡ false
      long = le-ltb (length W) (words_per_node * size_of S) room

      -- 15
      pub counts_refused : bad_counts (size_of S) K ≡ true → (refused 15 ≡ report_answer S N K node W) × (W ≡ report_scratch S N K node W)
      counts_refused b = refusal (by_next tests G long b (omega arith))

      module _ (counted : bad_counts (size_of S) K ≡ false) where
        -- 6
        pub node_refused : outside (size_of S) node ≡ true → (refused 6 ≡ report_answer S N K node W) × (W ≡ report_scratch S N K node W)
        node_refused o = refusal (by_last (past_next tests counted) G long o (omega arith))

        -- accepted: the scratch is 0
        pub report_accepted : outside (size_of S) node ≡ false → {r : PartReport} → r ≡ (part_result (graph_of S N) K node).report
            → {X : List ℕ} → X ≡ zeroed (words_per_node * size_of S) W → (accepted r ≡ report_answer S N K node W) × (X ≡ report_scratch S N K node W)
        unfolding report_answer report_scratch
        report_accepted o e x = let A = by_none (past_next tests counted) G long o in (answer_new A e, scratch_new A S W x)
