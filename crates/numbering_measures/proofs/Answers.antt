-- The answer of the measures call, and the scratch afterwards, by the tests in turn. Assumes nothing.
use mathlib.Core.Path.{◌≡◌, refl, ap}
use mathlib.Core.Bool.{Bool, true, false, not, ◌||◌}
use mathlib.Core.List.{List}
use Prim.Native.Nat.{ℕ, ◌≤◌, ◌<◌}
use native.Mathlib.Omega.{arith}
use lib.ListN.{length}
use lib.Dec.{eqb}
use borrow.Author.Tests.{lt-ltb, le-ltb}
use Rattle.spec.specs.Lent.{accepted, refused, zeroed, short}
use Rattle.spec.specs.Graph.{graph_of, size_of}
use Rattle.spec.specs.Measures.{is_numbering}
use Rattle.spec.specs.Unknowns.{bad_counts, renumbered_unknowns}
use Rattle.spec.specs.CallsNumbering.{measure_figures, measures_refusal, measures_answer, measures_scratch}
use Rattle.laws.proofs.Lent.{scratch_unused, scratch_used}
use Rattle.graph.specs.Facts.{LegalLists, RefusedLists}
use Rattle.graph.proofs.Ways.{last, next, Tests, Refuses, by_lists, by_short, by_last, by_none, by_next, past_next, lists_have, answer_stays, answer_new}

module _ (S N K X W : List ℕ) where
  -- the refusals after which the scratch words are 0
  abbrev used : ℕ → Bool
  used c = eqb c 0 || eqb c 7

  tests : Tests S N (short W (size_of S)) (next (bad_counts (size_of S) K) 15 (last (not (is_numbering (size_of S) X)) 7)) (measures_refusal S N K X W)
  unfolding measures_refusal
  tests = record { is = refl }

  -- refused: but for 7, the scratch is untouched
  untouched : {c : ℕ} → Refuses (measures_refusal S N K X W) c → used c ≡ false → (refused c ≡ measures_answer S N K X W) × (W ≡ measures_scratch S N K X W)
  unfolding measures_answer measures_scratch
  untouched R u = (answer_stays R _, scratch_unused used (size_of S) W R.is u)

  -- 1 to 4
  pub lists_refused : {c : ℕ} → RefusedLists S N c → (refused c ≡ measures_answer S N K X W) × (W ≡ measures_scratch S N K X W)
  lists_refused R = untouched (by_lists tests R) (lists_have R (λ c. used c ≡ false) refl refl refl refl)

  module _ (G : LegalLists S N) where
    -- 5
    pub scratch_short : length W < size_of S → (refused 5 ≡ measures_answer S N K X W) × (W ≡ measures_scratch S N K X W)
    scratch_short l = untouched (by_short tests G (lt-ltb (length W) (size_of S) l)) refl

    module _ (room : size_of S ≤ length W) where
      long : short W (size_of S) ≡ false
      long = le-ltb (length W) (size_of S) room

      -- 15
      pub counts_refused : bad_counts (size_of S) K ≡ true → (refused 15 ≡ measures_answer S N K X W) × (W ≡ measures_scratch S N K X W)
      counts_refused b = untouched (by_next tests G long b (omega arith)) refl

      -- 7, and none: the scratch words are 0
      module _ (fit : bad_counts (size_of S) K ≡ false) where
        pub misnumbered : is_numbering (size_of S) X ≡ false → (refused 7 ≡ measures_answer S N K X W) × (zeroed (size_of S) W ≡ measures_scratch S N K X W)
        unfolding measures_answer measures_scratch
        misnumbered f =
            let R = by_last (past_next tests fit) G long (ap not f) (omega arith) in
            (answer_stays R _, scratch_used used (size_of S) W R.is refl)

        pub measured : is_numbering (size_of S) X ≡ true
            → (accepted (measure_figures (renumbered_unknowns (graph_of S N) K X)) ≡ measures_answer S N K X W) × (zeroed (size_of S) W ≡ measures_scratch S N K X W)
        unfolding measures_answer measures_scratch
        measured t =
            let A = by_none (past_next tests fit) G long (ap not t) in
            (answer_new A refl, scratch_used used (size_of S) W A.is refl)
